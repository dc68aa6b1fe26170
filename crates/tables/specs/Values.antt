-- docs/RULES.md, section by section: worked values of the rules by which a label is drawn, each by its definition.
use Rattle.std.specs.Prelude.{ℕ, ◌≡◌, refl, true, false, length, ℤ, pos, neg_ℤ, None, Some}
use mathlib.Core.List.{List, [], ◌∷◌, ◌++◌, map, flatten}
use Rattle.std.specs.Float.Ieee.{of_bits, add, mul, neg}
use Rattle.geometry.specs.Bits.{float, at}
use Rattle.command.specs.declared.Command.{Command}
use Rattle.command.specs.declared.Command.TheVariants.{MoveTo, LineTo, QuadTo, CurveTo, Close}
use Rattle.sweep.specs.declared.Fill.TheVariants.{NonZero, EvenOdd}
use Rattle.label.specs.declared.Label.{Label}
use Rattle.paper.specs.Numbers.{◌/ᶻ◌, wrapped}
use Rattle.paper.specs.Steps.{most_doublings, most_splits}
use Rattle.paper.specs.PathList.{four, length_of, command_in}
use Rattle.paper.specs.Floats.{Spot, moved, shifted, combine, then_translate, translation, scale, identity}
use Rattle.paper.specs.Floats.{points_in, fixed_of, is_cut, cut_of, cut_in, near, passes, cell, fraction}
use Rattle.paper.specs.TurnedAway.{input_fault, after_close, draws}
use Rattle.paper.specs.Lines as lines
use Rattle.paper.specs.Lines.{enter, give}
use Rattle.paper.specs.Curves as curves
use Rattle.paper.specs.Cells.{Pair, pair_at, lifted, spot_in, marks_by, trail, pen_after, stored, cells_of, stored_by, cells_by, known, distinct}
use Rattle.paper.specs.Bytes.{cover_up_to, area_at, value, byte_of}
use Rattle.paper.specs.Drawing.{pool, fitting, bands_from}
use Rattle.paper.specs.Placing.{floor, ceil}
use Rattle.tables.specs.Lists.{−4096·004, −4096, −5, −3, −1·0005, −1, −0·999, −0·5, −0·0039, −0·003, n0}
use Rattle.tables.specs.Lists.{−0·002, −0, least, n0·0001, n0·5, n0·999, n1, n1·0002, n1·002, n1·5, n2, n3, n4, n5, n6, n7, n8, n9}
use Rattle.tables.specs.Lists.{n10, n11, n12, n13, n14, n17, n19, n25, n28, n57, n64, n100, n112, n140}
use Rattle.tables.specs.Lists.{n197, n2048, n4096, n4096·0034, n4096·004, n16777216, infinite, not_number}
use Rattle.tables.specs.Lists.{affine, banded, label, under, shifted_by}

abbrev below : ℕ → ℤ  -- −n
below n = neg_ℤ (pos n)

abbrev spot : ℤ → ℤ → Spot
spot x y = record { x = x; y = y }

abbrev origin : Spot
origin = spot (pos 0) (pos 0)

abbrev odd : Spot
odd = spot (pos 1) (below 1)

abbrev even : Spot
even = spot (pos 2) (pos 0)

abbrev far_corner : Spot  -- as far from (0,0) as a point may lie: (−4096,−4096), (4096,−4096), (−4096,4096)
far_corner = spot (below 1048576) (below 1048576)

abbrev far_right : Spot
far_right = spot (pos 1048576) (below 1048576)

abbrev far_below : Spot
far_below = spot (below 1048576) (pos 1048576)

abbrev here : List Pair  -- a place, and two others
here = pair_at (pos 0) (pos 0) (pos 1) (pos 2) ∷ []

abbrev there : List Pair
there = pair_at (pos 1) (pos 0) (pos 3) (pos 4) ∷ pair_at (pos 0) (pos 1) (pos 5) (pos 6) ∷ []

abbrev middle : Label  -- the band [1, 3) of four rows
middle = banded NonZero false 4 4 4 1 3

abbrev one_two : List ℕ  -- the bytes of (1,2)
one_two = 0x00 ∷ 0x00 ∷ 0x80 ∷ 0x3F ∷ 0x00 ∷ 0x00 ∷ 0x00 ∷ 0x40 ∷ []

abbrev three_four : List ℕ
three_four = 0x00 ∷ 0x00 ∷ 0x40 ∷ 0x40 ∷ 0x00 ∷ 0x00 ∷ 0x80 ∷ 0x40 ∷ []

abbrev five_six : List ℕ
five_six = 0x00 ∷ 0x00 ∷ 0xA0 ∷ 0x40 ∷ 0x00 ∷ 0x00 ∷ 0xC0 ∷ 0x40 ∷ []

abbrev each : List Command  -- one of each kind
each =
    MoveTo (at n1 n2) ∷ LineTo (at n1 n2) ∷ QuadTo (at n1 n2) (at n3 n4) ∷ CurveTo (at n1 n2) (at n3 n4) (at n5 n6)
    ∷ Close ∷ []

abbrev some : List Pair  -- of two rows, in no order
some =
    pair_at (below 1) (pos 0) (pos 9) (pos 3) ∷ pair_at (pos 0) (pos 0) (pos 4) (pos 1000)
    ∷ pair_at (pos 1) (pos 0) (pos 7) (pos 60) ∷ pair_at (pos 0) (pos 1) (pos 50) (pos 5)
    ∷ pair_at (pos 0) (pos 0) (pos 2) (pos 24) ∷ pair_at (pos 2) (pos 0) (pos 90) (pos 70) ∷ []

pub record Values : Type 0 where
  -- ---- whole numbers
  -- kept in 32 bits with a sign
  pub wraps :
      (wrapped (pos 0) ≡ pos 0) × (wrapped (pos 2147483647) ≡ pos 2147483647)
      × (wrapped (pos 2147483648) ≡ below 2147483648) × (wrapped (below 2147483648) ≡ below 2147483648)
      × (wrapped (below 2147483649) ≡ pos 2147483647) × (wrapped (pos 4294967301) ≡ pos 5)
  -- rounded down
  pub divides :
      (pos 511 /ᶻ 256 ≡ pos 1) × (pos 512 /ᶻ 256 ≡ pos 2) × (below 1 /ᶻ 256 ≡ below 1) × (below 256 /ᶻ 256 ≡ below 1)
      × (below 257 /ᶻ 256 ≡ below 2)
  -- ---- the path list
  pub lengths : (length_of 1 ≡ 10) × (length_of 2 ≡ 10) × (length_of 3 ≡ 18) × (length_of 4 ≡ 26) × (length_of 5 ≡ 2)
  -- MoveTo (1,2), LineTo (1,2), QuadTo (1,2) (3,4), CurveTo (1,2) (3,4) (5,6), Close
  pub a_move : command_in (0x0A ∷ 0x00 ∷ 0x01 ∷ 0x00 ∷ one_two) ≡ MoveTo (at n1 n2)
  pub a_line : command_in (0x0A ∷ 0x00 ∷ 0x02 ∷ 0x00 ∷ one_two) ≡ LineTo (at n1 n2)
  pub a_quad : command_in (0x12 ∷ 0x00 ∷ 0x03 ∷ 0x00 ∷ one_two ++ three_four) ≡ QuadTo (at n1 n2) (at n3 n4)
  pub a_curve :
      command_in (0x1A ∷ 0x00 ∷ 0x04 ∷ 0x00 ∷ one_two ++ three_four ++ five_six)
      ≡ CurveTo (at n1 n2) (at n3 n4) (at n5 n6)
  pub a_close : command_in (0x02 ∷ 0x00 ∷ 0x05 ∷ 0x00 ∷ []) ≡ Close
  -- the low byte first
  pub four_bytes : four (0x78 ∷ 0x56 ∷ 0x34 ∷ 0x12 ∷ []) 0 ≡ 0x1234_5678
  -- 65,536 bytes pass, one more is 7
  pub list_size :
      (input_fault identity (at n0 n0) 0 ≡ 0) × (input_fault identity (at n0 n0) 65536 ≡ 0)
      × (input_fault identity (at n0 n0) 65537 ≡ 7)
  -- LineTo, QuadTo and CurveTo draw; directly after Close is what has Close before it, and not the first record
  pub drawing : map draws each ≡ false ∷ true ∷ true ∷ true ∷ false ∷ []
  pub directly : map (λ (c : Command). after_close (Some c)) each ≡ false ∷ false ∷ false ∷ false ∷ true ∷ []
  pub not_the_first : after_close None ≡ false
  -- ---- points and transforms
  -- (17,19) under 2, 3, 5, 7, 11, 13
  pub a_point : moved (affine n2 n3 n5 n7 n11 n13) (at n17 n19) ≡ at n140 n197
  -- sums from the left, each rounded: 2^24 + 1 is 2^24, and so is that and 1
  pub summed_from_left : moved (affine n16777216 n0 n1 n1 n1 n0) (at n1 n1) ≡ at n16777216 n1
  -- a product is rounded before it is added: (1 + 2^−12)² is 1 + 2^−11
  pub rounded_once : moved (affine n1·0002 n0 −1·0005 n1 n0 n0) (at n1·0002 n1) ≡ at n0 n1
  -- the offset is added last: 2048 + 2^−13 is 2048, twice
  pub offset_last : shifted (at n0·0001 n5) (moved (affine n1 n0 n0 n1 n0·0001 n0) (at n2048 n0)) ≡ at n2048 n5
  -- a move by (3,5), then a quarter turn, which sends (3,5) to (−5,3)
  pub moved_turned : combine (translation (float n3) (float n5)) (affine n0 n1 −1 n0 n0 n0) ≡ affine n0 n1 −1 n0 −5 n3
  -- a quarter turn, then a move by (3,5)
  pub turned_moved : combine (affine n0 n1 −1 n0 n0 n0) (translation (float n3) (float n5)) ≡ affine n0 n1 −1 n0 n3 n5
  -- 1 to 6, then 7 to 12
  pub combined : combine (affine n1 n2 n3 n4 n5 n6) (affine n7 n8 n9 n10 n11 n12) ≡ affine n25 n28 n57 n64 n100 n112
  -- its sums are from the left
  pub combined_from_left :
      combine (affine n1 n2 n3 n4 n16777216 n1) (affine n1 n1 n1 n1 n1 n1)
      ≡ affine n3 n3 n7 n7 n16777216 n16777216
  -- then a move by (7,8)
  pub then_moved : then_translate (affine n1 n2 n3 n4 n5 n6) (float n7) (float n8) ≡ affine n1 n2 n3 n4 n12 n14
  -- a translation, a scale, the identity; the identity then scaled by (−1,1) has yx = +0
  pub a_translation : translation (float n3) (float n5) ≡ affine n1 n0 n0 n1 n3 n5
  pub a_scale : scale (float n3) (float n5) ≡ affine n3 n0 n0 n5 n0 n0
  pub the_identity : identity ≡ affine n1 n0 n0 n1 n0 n0
  pub flipped : combine identity (scale (float −1) (float n1)) ≡ affine −1 n0 n0 n1 n0 n0
  -- ---- 24.8 numbers and cells
  -- 256 times a float, cut toward zero: 4096, 4096.00390625, −0.003, −0.00390625, ±0.999, −0
  pub cut :
      (fixed_of (float n4096) ≡ pos 1048576) × (fixed_of (float n4096·004) ≡ pos 1048577)
      × (fixed_of (float −0·003) ≡ pos 0) × (fixed_of (float −0·0039) ≡ below 1)
      × (fixed_of (float n0·999) ≡ pos 255) × (fixed_of (float −0·999) ≡ below 255) × (fixed_of (float −0) ≡ pos 0)
  -- whether anything is: −0.003, ±0.999, 4096.0034 and the least float; not 0.5, −0.00390625, 4096, −0
  pub cut_off :
      (is_cut (float −0·003) ≡ true) × (is_cut (float n0·999) ≡ true) × (is_cut (float −0·999) ≡ true)
      × (is_cut (float n4096·0034) ≡ true) × (is_cut (float least) ≡ true)
  pub not_cut :
      (is_cut (float n0·5) ≡ false) × (is_cut (float −0·0039) ≡ false) × (is_cut (float n4096) ≡ false)
      × (is_cut (float −0) ≡ false)
  -- x and y apart, in each point
  pub cut_parts_is :
      (cut_of (at −0·003 −0·0039 ∷ []) ≡ 1) × (cut_of (at −0·0039 −0·003 ∷ []) ≡ 1)
      × (cut_of (at −0 least ∷ at n0·999 −0·999 ∷ at n0·5 n1 ∷ []) ≡ 3)
  -- of a path: MoveTo, LineTo and Close, each control point, with transform and offset
  pub cut_path :
      (cut_in identity (at n0 n0) (MoveTo (at least n0) ∷ LineTo (at n0 least) ∷ Close ∷ []) ≡ 2)
      × (cut_in identity (at n0 n0) (QuadTo (at least n0) (at least least) ∷ []) ≡ 3)
      × (cut_in identity (at n0 n0) (CurveTo (at least n0) (at least least) (at n0 least) ∷ []) ≡ 4)
      × (cut_in identity (at −0·002 n0) (MoveTo (at n1·002 n1·002) ∷ []) ≡ 1)
      × (cut_in (scale (float n2) (float n1)) (at n0 n0) (MoveTo (at n1·002 n1·002) ∷ []) ≡ 1)
  -- within 4,096 pixels
  pub near_4096 :
      (near (float n4096) ≡ true) × (near (float n4096·0034) ≡ true) × (near (float n4096·004) ≡ false)
      × (near (float −4096) ≡ true) × (near (float −4096·004) ≡ false) × (near (float infinite) ≡ false)
      × (near (float not_number) ≡ false)
  -- both parts
  pub both_near : (passes (at n0 n0) ≡ true) × (passes (at n4096·004 n0) ≡ false) × (passes (at n0 n4096·004) ≡ false)
  -- the cell of −1 is −1 and its fraction 255
  pub cells :
      (cell (below 1) ≡ below 1) × (cell (below 256) ≡ below 1) × (cell (below 257) ≡ below 2)
      × (cell (pos 0) ≡ pos 0) × (cell (pos 255) ≡ pos 0) × (cell (pos 256) ≡ pos 1)
  pub fractions :
      (fraction (below 1) ≡ pos 255) × (fraction (below 256) ≡ pos 0) × (fraction (below 257) ≡ pos 255)
      × (fraction (pos 0) ≡ pos 0) × (fraction (pos 255) ≡ pos 255) × (fraction (pos 256) ≡ pos 0)
  -- −0.00390625 is in cell −1, at 255
  pub below_0 : (cell (fixed_of (float −0·0039)) ≡ below 1) × (fraction (fixed_of (float −0·0039)) ≡ pos 255)
  -- ---- lines, by what the pen does
  -- where a side is crossed, signs left off: by 16,777,214 the first would be 224, by 16,777,216 the last would be 256
  pub crosses :
      (lines.crossing (pos 61426) (pos 273) ≡ pos 225) × (lines.crossing (below 61426) (below 273) ≡ pos 225)
      × (lines.crossing (pos 256) (below 1) ≡ pos 255)
  -- within a cell, down and up
  pub within : lines.whole (spot (pos 10) (pos 20)) (spot (pos 100) (pos 220)) ≡ give (pos 200) (pos 22000) ∷ []
  pub within_up : lines.whole (spot (pos 100) (pos 220)) (spot (pos 10) (pos 20)) ≡ give (below 200) (below 22000) ∷ []
  -- level: within a cell, to the right, to the left
  pub level : lines.whole (spot (pos 10) (pos 20)) (spot (pos 100) (pos 20)) ≡ give (pos 0) (pos 0) ∷ []
  pub level_right : lines.whole (spot (pos 10) (pos 20)) (spot (pos 600) (pos 20)) ≡ enter (pos 2) (pos 0) ∷ []
  pub level_left : lines.whole (spot (pos 10) (pos 20)) (spot (below 300) (pos 20)) ≡ enter (below 2) (pos 0) ∷ []
  -- vertical, to the next rows and to the previous ones
  pub upright :
      lines.whole (spot (pos 100) (pos 20)) (spot (pos 100) (pos 600))
      ≡ give (pos 236) (pos 47200) ∷ enter (pos 0) (pos 1) ∷ give (pos 256) (pos 51200) ∷ enter (pos 0) (pos 2)
      ∷ give (pos 88) (pos 17600) ∷ []
  pub upright_back :
      lines.whole (spot (pos 100) (pos 600)) (spot (pos 100) (pos 20))
      ≡ give (below 88) (below 17600) ∷ enter (pos 0) (pos 1) ∷ give (below 256) (below 51200)
      ∷ enter (pos 0) (pos 0) ∷ give (below 236) (below 47200) ∷ []
  -- slanted, over each pair of sides
  pub right_next :
      lines.whole (spot (pos 100) (pos 20)) (spot (pos 600) (pos 300))
      ≡ give (pos 87) (pos 30972) ∷ enter (pos 1) (pos 0) ∷ give (pos 143) (pos 36608) ∷ enter (pos 2) (pos 0)
      ∷ give (pos 6) (pos 54) ∷ enter (pos 2) (pos 1) ∷ give (pos 44) (pos 4268) ∷ []
  pub left_next :
      lines.whole (spot (pos 600) (pos 20)) (spot (pos 100) (pos 300))
      ≡ give (pos 49) (pos 4312) ∷ enter (pos 1) (pos 0) ∷ give (pos 143) (pos 36608) ∷ enter (pos 0) (pos 0)
      ∷ give (pos 44) (pos 19096) ∷ enter (pos 0) (pos 1) ∷ give (pos 44) (pos 12232) ∷ []
  pub left_previous :
      lines.whole (spot (pos 600) (pos 300)) (spot (pos 100) (pos 20))
      ≡ give (below 44) (below 4268) ∷ enter (pos 2) (pos 0) ∷ give (below 6) (below 54) ∷ enter (pos 1) (pos 0)
      ∷ give (below 143) (below 36608) ∷ enter (pos 0) (pos 0) ∷ give (below 87) (below 30972) ∷ []
  pub right_previous :
      lines.whole (spot (pos 100) (pos 300)) (spot (pos 600) (pos 20))
      ≡ give (below 44) (below 12232) ∷ enter (pos 0) (pos 0) ∷ give (below 44) (below 19096)
      ∷ enter (pos 1) (pos 0) ∷ give (below 143) (below 36608) ∷ enter (pos 2) (pos 0)
      ∷ give (below 49) (below 4312) ∷ []
  -- through a corner: it crosses at 255, not at 256; back, and the other diagonal both ways
  pub corner :
      lines.whole (spot (pos 0) (pos 0)) (spot (pos 256) (pos 256))
      ≡ give (pos 255) (pos 65280) ∷ enter (pos 1) (pos 0) ∷ give (pos 1) (pos 0) ∷ enter (pos 1) (pos 1)
      ∷ give (pos 0) (pos 0) ∷ []
  pub corner_back :
      lines.whole (spot (pos 256) (pos 256)) (spot (pos 0) (pos 0))
      ≡ give (pos 0) (pos 0) ∷ enter (pos 0) (pos 1) ∷ give (pos 0) (pos 0) ∷ enter (pos 0) (pos 0)
      ∷ give (below 256) (below 65280) ∷ []
  pub corner_across :
      lines.whole (spot (pos 256) (pos 0)) (spot (pos 0) (pos 256))
      ≡ give (pos 0) (pos 0) ∷ enter (pos 0) (pos 0) ∷ give (pos 256) (pos 65536) ∷ enter (pos 0) (pos 1)
      ∷ give (pos 0) (pos 0) ∷ []
  pub corner_across_back :
      lines.whole (spot (pos 0) (pos 256)) (spot (pos 256) (pos 0))
      ≡ give (pos 0) (pos 0) ∷ enter (pos 0) (pos 0) ∷ give (below 256) (below 65536) ∷ enter (pos 1) (pos 0)
      ∷ give (pos 0) (pos 0) ∷ []
  -- from column −2
  pub from_left :
      lines.whole (spot (below 300) (pos 10)) (spot (pos 20) (pos 200))
      ≡ give (pos 26) (pos 12168) ∷ enter (below 1) (pos 0) ∷ give (pos 152) (pos 38912) ∷ enter (pos 0) (pos 0)
      ∷ give (pos 12) (pos 240) ∷ []
  -- over two next sides; left at once, at 63 by the coarse crossing
  pub next_next :
      lines.whole (spot (pos 369) (pos 0)) (spot (pos 255) (pos 566))
      ≡ give (pos 256) (pos 44544) ∷ enter (pos 1) (pos 1) ∷ give (pos 256) (pos 17920) ∷ enter (pos 1) (pos 2)
      ∷ give (pos 49) (pos 441) ∷ enter (pos 0) (pos 2) ∷ give (pos 5) (pos 2555) ∷ []
  pub left_at_once :
      lines.whole (spot (pos 256) (pos 64)) (spot (pos 255) (pos 256))
      ≡ give (below 1) (pos 0) ∷ enter (pos 0) (pos 0) ∷ give (pos 193) (pos 98430) ∷ enter (pos 0) (pos 1)
      ∷ give (pos 0) (pos 0) ∷ []
  -- in the band [1, 3): both ends in row 3; one in row 2; both in row 0; one in row 1; one on either side
  pub past : lines.line middle (spot (pos 0) (pos 768)) (spot (pos 256) (pos 900)) ≡ []
  pub one_not_past :
      lines.line middle (spot (pos 0) (pos 768)) (spot (pos 0) (pos 767))
      ≡ give (pos 0) (pos 0) ∷ enter (pos 0) (pos 2) ∷ give (below 1) (pos 0) ∷ []
  pub ahead : lines.line middle (spot (pos 0) (pos 255)) (spot (pos 256) (pos 0)) ≡ []
  pub one_not_ahead :
      lines.line middle (spot (pos 0) (pos 255)) (spot (pos 0) (pos 256))
      ≡ give (pos 1) (pos 0) ∷ enter (pos 0) (pos 1) ∷ give (pos 0) (pos 0) ∷ []
  pub over_the_band :
      lines.line middle (spot (pos 0) (pos 255)) (spot (pos 0) (pos 768))
      ≡ give (pos 1) (pos 0) ∷ enter (pos 0) (pos 1) ∷ give (pos 256) (pos 0) ∷ enter (pos 0) (pos 2)
      ∷ give (pos 256) (pos 0) ∷ enter (pos 0) (pos 3) ∷ give (pos 0) (pos 0) ∷ []
  -- ---- curves, by the points to which their lines go
  -- how often the lines of a quad double, by its bend
  pub doubled :
      (curves.doublings most_doublings 64 ≡ 0) × (curves.doublings most_doublings 65 ≡ 1)
      × (curves.doublings most_doublings 256 ≡ 1) × (curves.doublings most_doublings 259 ≡ 1)
      × (curves.doublings most_doublings 260 ≡ 2) × (curves.doublings most_doublings 4194304 ≡ 8)
  -- how far the control point is off, on the worse axis
  pub bends :
      (curves.bend (spot (pos 0) (pos 0)) (spot (pos 5) (below 40)) (spot (pos 3) (pos 1)) ≡ 81)
      × (curves.bend (spot (pos 0) (pos 0)) (spot (pos 50) (below 4)) (spot (below 3) (pos 1)) ≡ 103)
  -- one line; four
  pub a_line_quad :
      curves.quad_points 0 (spot (pos 0) (pos 0)) (spot (pos 128) (pos 32)) (spot (pos 256) (pos 0))
      ≡ spot (pos 256) (pos 0) ∷ []
  pub four_lines :
      curves.quad_points 2 (spot (below 3) (pos 5)) (spot (pos 301) (below 207)) (spot (pos 33) (pos 255))
      ≡ spot (pos 113) (below 59) ∷ spot (pos 158) (below 39) ∷ spot (pos 131) (pos 66)
      ∷ spot (pos 33) (pos 255) ∷ []
  -- |2p0 − 3p1 + p3| and |p0 − 3p2 + 2p3| at 128 and 129; p1 and p2
  pub flat :
      (curves.bent (pos 64) (pos 0) (pos 0) (pos 0) ≡ false)
      × (curves.bent (pos 64) (pos 0) (pos 0) (pos 1) ≡ true)
      × (curves.bent (below 64) (pos 0) (pos 0) (below 1) ≡ true)
      × (curves.bent (pos 0) (pos 0) (pos 0) (pos 64) ≡ false)
      × (curves.bent (pos 1) (pos 0) (pos 0) (pos 64) ≡ true)
      × (curves.bent (below 1) (pos 0) (pos 0) (below 64) ≡ true)
      × (curves.bent (pos 0) (pos 42) (pos 0) (pos 0) ≡ false)
      × (curves.bent (pos 0) (pos 43) (pos 0) (pos 0) ≡ true)
      × (curves.bent (pos 0) (pos 0) (pos 42) (pos 0) ≡ false)
      × (curves.bent (pos 0) (pos 0) (pos 43) (pos 0) ≡ true)
  -- on either axis
  pub curved_either :
      (curves.curved (spot (pos 64) (pos 64)) origin origin origin ≡ false)
      × (curves.curved (spot (pos 65) (pos 0)) origin origin origin ≡ true)
      × (curves.curved (spot (pos 0) (pos 65)) origin origin origin ≡ true)
  -- each one sum, divided once, rounded down
  pub middles : (curves.mid odd even ≡ odd) × (curves.mid4 odd even even ≡ odd) × (curves.mid8 odd even even even ≡ odd)
  -- one line; a cubic from (−3,5) by (200,−207) and (301,400) to (33,255): the half at its start comes first
  pub a_line_cubic :
      curves.cubic_points most_splits (spot (pos 30) (pos 0)) (spot (pos 20) (pos 0)) (spot (pos 10) (pos 0))
      (spot (pos 0) (pos 0))
      ≡ spot (pos 30) (pos 0) ∷ []
  pub halves_first :
      curves.cubic_points most_splits (spot (pos 33) (pos 255)) (spot (pos 301) (pos 400))
      (spot (pos 200) (below 207)) (spot (below 3) (pos 5))
      ≡ spot (pos 125) (below 26) ∷ spot (pos 191) (pos 104) ∷ spot (pos 168) (pos 247)
      ∷ spot (pos 33) (pos 255) ∷ []
  -- as curved as one can be: halved 9 times over, since 8 times would give no more than 256 lines
  pub most_lines : length (curves.cubic_points most_splits far_corner far_right far_below far_corner) ≡ 370
  -- in the band [1, 3): all of a quad in row 3; its control point not; all in row 0
  pub quad_past : curves.quad middle (spot (pos 0) (pos 768)) (spot (pos 10) (pos 800)) (spot (pos 20) (pos 768)) ≡ []
  pub quad_dips :
      curves.quad middle (spot (pos 0) (pos 768)) (spot (pos 10) (pos 640)) (spot (pos 20) (pos 768))
      ≡ give (pos 0) (pos 0) ∷ enter (pos 0) (pos 2) ∷ give (below 64) (below 640) ∷ give (pos 64) (pos 1856)
      ∷ enter (pos 0) (pos 3) ∷ give (pos 0) (pos 0) ∷ []
  pub quad_ahead : curves.quad middle (spot (pos 0) (pos 255)) (spot (pos 10) (pos 100)) (spot (pos 20) (pos 0)) ≡ []
  -- a quad that has only its end, and only its start, in the band, from behind it and from before it
  pub quad_ends_inside :
      curves.quad middle (spot (pos 0) (pos 769)) (spot (pos 10) (pos 768)) (spot (pos 20) (pos 767))
      ≡ give (below 1) (below 9) ∷ enter (pos 0) (pos 2) ∷ give (below 1) (below 29) ∷ []
  pub quad_starts_inside :
      curves.quad middle (spot (pos 0) (pos 767)) (spot (pos 10) (pos 768)) (spot (pos 20) (pos 769))
      ≡ give (pos 1) (pos 9) ∷ enter (pos 0) (pos 3) ∷ give (pos 1) (pos 29) ∷ []
  pub quad_ends_behind :
      curves.quad middle (spot (pos 0) (pos 254)) (spot (pos 10) (pos 255)) (spot (pos 20) (pos 256))
      ≡ give (pos 2) (pos 38) ∷ enter (pos 0) (pos 1) ∷ give (pos 0) (pos 0) ∷ []
  pub quad_starts_behind :
      curves.quad middle (spot (pos 0) (pos 256)) (spot (pos 10) (pos 255)) (spot (pos 20) (pos 254))
      ≡ give (pos 0) (pos 0) ∷ enter (pos 0) (pos 0) ∷ give (below 2) (below 40) ∷ []
  pub quad_over :
      curves.quad middle (spot (pos 0) (pos 128)) (spot (pos 10) (pos 384)) (spot (pos 20) (pos 128))
      ≡ give (pos 32) (pos 448) ∷ enter (pos 0) (pos 1) ∷ give (pos 0) (pos 0) ∷ give (pos 0) (pos 0)
      ∷ enter (pos 0) (pos 0) ∷ give (below 32) (below 768) ∷ []
  -- and of a cubic
  pub cubic_past :
      curves.cubic middle (spot (pos 0) (pos 768)) (spot (pos 10) (pos 800)) (spot (pos 20) (pos 900))
      (spot (pos 30) (pos 768))
      ≡ []
  pub cubic_dips :
      curves.cubic middle (spot (pos 0) (pos 768)) (spot (pos 10) (pos 640)) (spot (pos 20) (pos 768))
      (spot (pos 30) (pos 768))
      ≡ give (pos 0) (pos 0) ∷ enter (pos 0) (pos 2) ∷ give (below 54) (below 378) ∷ give (pos 6) (pos 132)
      ∷ give (pos 48) (pos 2112) ∷ enter (pos 0) (pos 3) ∷ give (pos 0) (pos 0) ∷ []
  pub cubic_ahead :
      curves.cubic middle (spot (pos 0) (pos 255)) (spot (pos 10) (pos 100)) (spot (pos 20) (pos 0))
      (spot (pos 30) (pos 1))
      ≡ []
  -- the same of a cubic, and with its second control point alone
  pub cubic_ends_inside :
      curves.cubic middle (spot (pos 0) (pos 770)) (spot (pos 10) (pos 769)) (spot (pos 20) (pos 768))
      (spot (pos 30) (pos 767))
      ≡ give (below 2) (below 38) ∷ enter (pos 0) (pos 2) ∷ give (below 1) (below 49) ∷ []
  pub cubic_starts_inside :
      curves.cubic middle (spot (pos 0) (pos 767)) (spot (pos 10) (pos 768)) (spot (pos 20) (pos 769))
      (spot (pos 30) (pos 770))
      ≡ give (pos 1) (pos 9) ∷ enter (pos 0) (pos 3) ∷ give (pos 2) (pos 78) ∷ []
  pub cubic_ends_behind :
      curves.cubic middle (spot (pos 0) (pos 253)) (spot (pos 10) (pos 254)) (spot (pos 20) (pos 255))
      (spot (pos 30) (pos 256))
      ≡ give (pos 3) (pos 87) ∷ enter (pos 0) (pos 1) ∷ give (pos 0) (pos 0) ∷ []
  pub cubic_starts_behind :
      curves.cubic middle (spot (pos 0) (pos 256)) (spot (pos 10) (pos 255)) (spot (pos 20) (pos 254))
      (spot (pos 30) (pos 253))
      ≡ give (pos 0) (pos 0) ∷ enter (pos 0) (pos 0) ∷ give (below 3) (below 90) ∷ []
  pub cubic_first_over :
      curves.cubic middle (spot (pos 0) (pos 200)) (spot (pos 10) (pos 328)) (spot (pos 20) (pos 200))
      (spot (pos 30) (pos 200))
      ≡ []
  pub cubic_second_over :
      curves.cubic middle (spot (pos 0) (pos 200)) (spot (pos 10) (pos 200)) (spot (pos 20) (pos 328))
      (spot (pos 30) (pos 200))
      ≡ []
  pub cubic_dips_late :
      curves.cubic middle (spot (pos 0) (pos 768)) (spot (pos 10) (pos 768)) (spot (pos 20) (pos 640))
      (spot (pos 30) (pos 768))
      ≡ give (pos 0) (pos 0) ∷ enter (pos 0) (pos 2) ∷ give (below 48) (below 720) ∷ give (below 6) (below 222)
      ∷ give (pos 54) (pos 2754) ∷ enter (pos 0) (pos 3) ∷ give (pos 0) (pos 0) ∷ []
  -- ---- cells
  -- what K5 stores
  pub k5_cells :
      cells_of (label 2 1) (MoveTo (at n0 n0) ∷ LineTo (at n1 n1) ∷ LineTo (at n0 n1) ∷ Close ∷ [])
      ≡ pair_at (pos 0) (pos 0) (pos 255) (pos 65280) ∷ pair_at (pos 1) (pos 0) (pos 1) (pos 0)
      ∷ pair_at (pos 0) (pos 0) (below 256) (pos 0) ∷ []
  -- sums wrap; cover alone and area alone are stored, neither is not, but for the last cell
  pub sums_wrap :
      stored (label 1 1) lifted (enter (pos 0) (pos 0) ∷ give (pos 2147483647) (below 2147483648)
      ∷ give (pos 1) (below 1) ∷ [])
      ≡ pair_at (pos 0) (pos 0) (below 2147483648) (pos 2147483647) ∷ []
  pub parts :
      stored (label 3 1) lifted (enter (pos 0) (pos 0) ∷ give (pos 5) (pos 0) ∷ enter (pos 1) (pos 0)
      ∷ give (pos 0) (pos 5) ∷ enter (pos 2) (pos 0) ∷ enter (below 1) (pos 0) ∷ [])
      ≡ pair_at (pos 0) (pos 0) (pos 5) (pos 0) ∷ pair_at (pos 1) (pos 0) (pos 0) (pos 5)
      ∷ pair_at (below 1) (pos 0) (pos 0) (pos 0) ∷ []
  -- all columns left of −1 are column −1; column 3 of 3 and rows outside store nothing
  pub one_left :
      stored (label 3 1) lifted (enter (below 5) (pos 0) ∷ give (pos 1) (pos 2) ∷ enter (pos 3) (pos 0)
      ∷ give (pos 1) (pos 2) ∷ enter (pos 0) (pos 1) ∷ give (pos 1) (pos 2) ∷ enter (pos 0) (below 1)
      ∷ give (pos 1) (pos 2) ∷ enter (pos 2) (pos 0) ∷ give (pos 3) (pos 4) ∷ [])
      ≡ pair_at (below 1) (pos 0) (pos 1) (pos 2) ∷ pair_at (pos 2) (pos 0) (pos 3) (pos 4) ∷ []
  -- MoveTo (0.5,0), LineTo (0.5,0.5), LineTo (1.5,0.5), Close, the end: what each stores
  pub cells_by_is :
      cells_by (label 2 1) (MoveTo (at n0·5 n0) ∷ LineTo (at n0·5 n0·5) ∷ LineTo (at n1·5 n0·5) ∷ Close ∷ [])
      ≡ [] ∷ []
      ∷ (pair_at (pos 0) (pos 0) (pos 128) (pos 32768) ∷ [])
      ∷ (pair_at (pos 1) (pos 0) (below 65) (below 8320) ∷ [])
      ∷ (pair_at (pos 0) (pos 0) (below 63) (below 24192) ∷ []) ∷ []
  -- a place is a column and a row, whatever its sums
  pub places :
      distinct (pair_at (below 1) (pos 0) (pos 1) (pos 1) ∷ pair_at (pos 0) (pos 0) (pos 1) (pos 1)
      ∷ pair_at (below 1) (pos 0) (pos 1) (pos 1) ∷ pair_at (below 1) (pos 1) (pos 1) (pos 1) ∷ [])
      ≡ 3
  -- ---- bytes
  -- v of the pixels (0,0), (1,0), (0,1) and (1,1), and where it wraps
  pub pixels :
      (value some (pos 0) (pos 0) ≡ pos 6656) × (value some (pos 0) (pos 1) ≡ pos 11204)
      × (value some (pos 1) (pos 0) ≡ pos 25595) × (value some (pos 1) (pos 1) ≡ pos 25600)
      × (value (pair_at (pos 0) (pos 0) (pos 4194304) (pos 0) ∷ []) (pos 0) (pos 0) ≡ below 2147483648)
  pub nonzero :
      (byte_of NonZero (below 1) ≡ 0) × (byte_of NonZero (pos 0) ≡ 0) × (byte_of NonZero (pos 511) ≡ 0)
      × (byte_of NonZero (pos 512) ≡ 1) × (byte_of NonZero (below 512) ≡ 0) × (byte_of NonZero (below 513) ≡ 1)
      × (byte_of NonZero (pos 131071) ≡ 255) × (byte_of NonZero (pos 131072) ≡ 255)
      × (byte_of NonZero (pos 131583) ≡ 255) × (byte_of NonZero (pos 131584) ≡ 255)
      × (byte_of NonZero (below 131072) ≡ 255) × (byte_of NonZero (below 131073) ≡ 255)
      × (byte_of NonZero (pos 262143) ≡ 255) × (byte_of NonZero (pos 262144) ≡ 255)
      × (byte_of NonZero (pos 262655) ≡ 255) × (byte_of NonZero (pos 262656) ≡ 255)
  pub evenodd :
      (byte_of EvenOdd (below 1) ≡ 0) × (byte_of EvenOdd (pos 0) ≡ 0) × (byte_of EvenOdd (pos 511) ≡ 0)
      × (byte_of EvenOdd (pos 512) ≡ 1) × (byte_of EvenOdd (below 512) ≡ 0) × (byte_of EvenOdd (below 513) ≡ 1)
      × (byte_of EvenOdd (pos 131071) ≡ 255) × (byte_of EvenOdd (pos 131072) ≡ 255)
      × (byte_of EvenOdd (pos 131583) ≡ 255) × (byte_of EvenOdd (pos 131584) ≡ 254)
      × (byte_of EvenOdd (below 131072) ≡ 255) × (byte_of EvenOdd (below 131073) ≡ 255)
      × (byte_of EvenOdd (pos 262143) ≡ 0) × (byte_of EvenOdd (pos 262144) ≡ 0) × (byte_of EvenOdd (pos 262655) ≡ 0)
      × (byte_of EvenOdd (pos 262656) ≡ 1)
  -- ---- room and bands
  -- of 3 rows: 2 and 3 words, then 3, 4, 7, 8, 65,535, 65,536 and 65,540 words more than rows
  pub pools :
      (pool (label 4 3) 2 ≡ 0) × (pool (label 4 3) 3 ≡ 0) × (pool (label 4 3) 6 ≡ 0) × (pool (label 4 3) 7 ≡ 1)
      × (pool (label 4 3) 10 ≡ 1) × (pool (label 4 3) 11 ≡ 2) × (pool (label 4 3) 65538 ≡ 16383)
      × (pool (label 4 3) 65539 ≡ 16384) × (pool (label 4 3) 65543 ≡ 16384)
  -- lists of no, one, the same and two other places: how many of them 0, 1, 2 and 3 places hold
  pub fits : map (λ (room : ℕ). fitting room [] ([] ∷ here ∷ here ∷ there ∷ [])) (0 ∷ 1 ∷ 2 ∷ 3 ∷ []) ≡ 1 ∷ 3 ∷ 3 ∷ 4 ∷ []
  -- bands of 2 rows of a label of 5, from row 0 and from row 1 to 3
  pub bands_of_2 :
      bands_from 5 2 (label 4 5) 0
      ≡ banded NonZero false 4 5 4 0 2 ∷ banded NonZero false 4 5 4 2 4 ∷ banded NonZero false 4 5 4 4 5 ∷ []
  pub bands_of_part : bands_from 2 2 (banded EvenOdd true 4 5 6 1 3) 1 ≡ banded EvenOdd true 4 5 6 1 3 ∷ []
  -- a band has its label's transform and offset
  pub bands_keep :
      bands_from 1 1 (shifted_by n7 n8 (under (affine n1 n2 n3 n4 n5 n6) (label 4 1))) 0
      ≡ shifted_by n7 n8 (under (affine n1 n2 n3 n4 n5 n6) (label 4 1)) ∷ []
  -- ---- whole numbers of a box
  pub floors :
      (floor (float n0·5) ≡ pos 0) × (floor (float −0·5) ≡ below 1) × (floor (float n3) ≡ pos 3)
      × (floor (float −3) ≡ below 3) × (floor (float n0) ≡ pos 0) × (floor (float −0) ≡ pos 0)
  pub ceils :
      (ceil (float n0·5) ≡ pos 1) × (ceil (float −0·5) ≡ pos 0) × (ceil (float n3) ≡ pos 3)
      × (ceil (float −3) ≡ below 3) × (ceil (float n0) ≡ pos 0) × (ceil (float −0) ≡ pos 0)

pub values : Values
unfolding wrapped command_in input_fault points_in fixed_of cut_of lines.whole lines.walk lines.upright lines.line curves.doublings
    curves.quad_points curves.curved curves.cubic_points curves.along curves.quad curves.cubic stored stored_by trail pen_after marks_by
    flatten spot_in cells_of cells_by fitting distinct known cover_up_to area_at byte_of bands_from floor of_bits add mul neg
values = record {
  wraps = (refl, refl, refl, refl, refl, refl);
  divides = (refl, refl, refl, refl, refl);
  lengths = (refl, refl, refl, refl, refl);
  a_move = refl;
  a_line = refl;
  a_quad = refl;
  a_curve = refl;
  a_close = refl;
  four_bytes = refl;
  list_size = (refl, refl, refl);
  drawing = refl;
  directly = refl;
  not_the_first = refl;
  a_point = refl;
  summed_from_left = refl;
  rounded_once = refl;
  offset_last = refl;
  moved_turned = refl;
  turned_moved = refl;
  combined = refl;
  combined_from_left = refl;
  then_moved = refl;
  a_translation = refl;
  a_scale = refl;
  the_identity = refl;
  flipped = refl;
  cut = (refl, refl, refl, refl, refl, refl, refl);
  cut_off = (refl, refl, refl, refl, refl);
  not_cut = (refl, refl, refl, refl);
  cut_parts_is = (refl, refl, refl);
  cut_path = (refl, refl, refl, refl, refl);
  near_4096 = (refl, refl, refl, refl, refl, refl, refl);
  both_near = (refl, refl, refl);
  cells = (refl, refl, refl, refl, refl, refl);
  fractions = (refl, refl, refl, refl, refl, refl);
  below_0 = (refl, refl);
  crosses = (refl, refl, refl);
  within = refl;
  within_up = refl;
  level = refl;
  level_right = refl;
  level_left = refl;
  upright = refl;
  upright_back = refl;
  right_next = refl;
  left_next = refl;
  left_previous = refl;
  right_previous = refl;
  corner = refl;
  corner_back = refl;
  corner_across = refl;
  corner_across_back = refl;
  from_left = refl;
  next_next = refl;
  left_at_once = refl;
  past = refl;
  one_not_past = refl;
  ahead = refl;
  one_not_ahead = refl;
  over_the_band = refl;
  doubled = (refl, refl, refl, refl, refl, refl);
  bends = (refl, refl);
  a_line_quad = refl;
  four_lines = refl;
  flat = (refl, refl, refl, refl, refl, refl, refl, refl, refl, refl);
  curved_either = (refl, refl, refl);
  middles = (refl, refl, refl);
  a_line_cubic = refl;
  halves_first = refl;
  most_lines = refl;
  quad_past = refl;
  quad_dips = refl;
  quad_ahead = refl;
  quad_ends_inside = refl;
  quad_starts_inside = refl;
  quad_ends_behind = refl;
  quad_starts_behind = refl;
  quad_over = refl;
  cubic_past = refl;
  cubic_dips = refl;
  cubic_ahead = refl;
  cubic_ends_inside = refl;
  cubic_starts_inside = refl;
  cubic_ends_behind = refl;
  cubic_starts_behind = refl;
  cubic_first_over = refl;
  cubic_second_over = refl;
  cubic_dips_late = refl;
  k5_cells = refl;
  sums_wrap = refl;
  parts = refl;
  one_left = refl;
  cells_by_is = refl;
  places = refl;
  pixels = (refl, refl, refl, refl, refl);
  nonzero = (refl, refl, refl, refl, refl, refl, refl, refl, refl, refl, refl, refl, refl, refl, refl, refl);
  evenodd = (refl, refl, refl, refl, refl, refl, refl, refl, refl, refl, refl, refl, refl, refl, refl, refl);
  pools = (refl, refl, refl, refl, refl, refl, refl, refl, refl);
  fits = refl;
  bands_of_2 = refl;
  bands_of_part = refl;
  bands_keep = refl;
  floors = (refl, refl, refl, refl, refl, refl);
  ceils = (refl, refl, refl, refl, refl, refl);
}
