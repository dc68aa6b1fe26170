-- docs/RULES.md, "Labels to try": all labels but K1 to K12, each computed from the rules: boundaries, every refusal,
-- the order of refusals, curves, places, bands, bounds and placement.
use Rattle.std.specs.Prelude.{ℕ, ◌≡◌, refl, true, false, take, replicate, pos, negsuc}
use mathlib.Core.List.{List, [], ◌∷◌, ◌++◌, flatten}
use Rattle.std.specs.Float.Ieee.{of_bits, add, mul, lt, neg, of_int}
use Rattle.geometry.specs.declared.Transform.{Transform}
use Rattle.geometry.specs.declared.Origin.TheVariants.{TopLeft, BottomLeft}
use Rattle.geometry.specs.Bits.{float, at}
use Rattle.sweep.specs.declared.Fill.TheVariants.{NonZero, EvenOdd}
use Rattle.list.specs.Written.{move, line, quad, curve, close}
use Rattle.paper.specs.Numbers.{wrapped}
use Rattle.paper.specs.PathList.{command_in}
use Rattle.paper.specs.Floats.{points_in, fixed_of, cut_of, identity, scale}
use Rattle.paper.specs.TurnedAway.{size_fault, input_fault, all_pass, record_fault, read_from, read_list}
use Rattle.paper.specs.Lines as lines
use Rattle.paper.specs.Curves as curves
use Rattle.paper.specs.Cells.{spot_in, marks_by, trail, pen_after, stored, cells_of, stored_by, cells_by, known, distinct}
use Rattle.paper.specs.Bytes.{cover_up_to, area_at, byte_of, painted}
use Rattle.paper.specs.Drawing.{one_full, fitting, first_of, inked, draw_read, draw_in, draw, bands_from, draw_in_bands}
use Rattle.paper.specs.Placing.{box_from, box_of, bounds, floor, placement_of, placement}
use Rattle.tables.specs.Lists.{−4096·004, −4096·0034, −4096, −4095, −2048, −9, −5, −4, −3, −2, −1, −0·5, −0·0039, −0·003, n0}
use Rattle.tables.specs.Lists.{−0·002, −0, least, n0·002, n0·25, n0·5, n0·75, n1, n1·002, n1·5, n2, n2·5, n3, n3·25, n4, n5, n6, n7, n8, n9}
use Rattle.tables.specs.Lists.{n2048, n4095, n4096, n4096·0034, n4096·004, n4097, huge, infinite, not_number}
use Rattle.tables.specs.Lists.{corners, rectangle, nulls, closes, affine, banded, label, under}
use Rattle.tables.specs.Lists.{shifted_by, drawn, drawn_cut, full, turned, Draws, InBands, box, box_refused, lies, lies_cut}
use Rattle.tables.specs.Lists.{place_refused}

abbrev hook : List ℕ  -- open, in one row: down in column 0, level into column 1
hook = move n0·5 n0 ++ line n0·5 n0·5 ++ line n1·5 n0·5

abbrev unit : List ℕ  -- the pixel (0,0)
unit = corners n0 n0 n1 n0 n1 n1 n0 n1

abbrev lower_first : List ℕ  -- the pixel below it, and then that
lower_first = corners n0 n1 n1 n1 n1 n2 n0 n2 ++ unit

abbrev loop : List ℕ  -- a closed cubic that leaves the label at the top and at both sides
loop = move n0·25 −1 ++ curve n8 n6 −4 n6 n4 −0·5 ++ close

abbrev diamonds : List ℕ  -- one each way round
diamonds = corners n2 n0 n4 n2 n2 n4 n0 n2 ++ corners n6 n0 n4 n2 n6 n4 n8 n2

abbrev cancelling : List ℕ  -- a triangle within one cell, and the same backwards
cancelling =
    move n0·25 n0·25 ++ line n0·75 n0·25 ++ line n0·25 n0·75 ++ close
    ++ move n0·25 n0·75 ++ line n0·75 n0·25 ++ line n0·25 n0·25 ++ close

abbrev tall : List ℕ  -- a rectangle of three rows, each of two cells
tall = corners n1 n0 n3 n0 n3 n3 n1 n3

abbrev triangle : List ℕ  -- K4's, left open
triangle = move n0 n0 ++ line n1 n1 ++ line n0 n1

abbrev shut : List ℕ  -- a lone MoveTo, closed
shut = move n0 n0 ++ close

abbrev two_corners : List ℕ  -- K11's box
two_corners = move n0·5 n0·25 ++ line n3·25 n2

abbrev four_pixels : List ℕ  -- the four in the corners of the largest label
four_pixels =
    corners n0 n0 n1 n0 n1 n1 n0 n1
    ++ corners n4095 n0 n4096 n0 n4096 n1 n4095 n1
    ++ corners n0 n4095 n1 n4095 n1 n4096 n0 n4096
    ++ corners n4095 n4095 n4096 n4095 n4096 n4096 n4095 n4096

abbrev k1_mask : List ℕ
k1_mask =
    0 ∷ 0 ∷ 0 ∷ 0
    ∷ 0 ∷ 255 ∷ 255 ∷ 0
    ∷ 0 ∷ 0 ∷ 0 ∷ 0 ∷ []

abbrev flat : Transform  -- sends every point to x = 0
flat = affine n0 n0 n0 n1 n0 n0

abbrev still : Transform  -- the identity with tx = ty = −0
still = affine n1 n0 n0 n1 −0 −0

pub record Trials : Type 0 where
  -- ---- boundaries
  -- 4,096 wide or high pass, 4,097 is 1
  pub wide : Draws (label 4096 1) [] 4096 1 (drawn 0 0 (replicate 4096 0))
  pub high : Draws (label 1 4096) [] 4096 4096 (drawn 0 0 (replicate 4096 0))
  pub too_wide : Draws (label 4097 0) [] 0 40 (turned 1 0)
  pub too_high : Draws (label 0 4097) [] 0 40 (turned 1 0)
  -- the first and the last row of the largest label: its corners, and a rectangle from −4096 to 4096 either way
  pub first_corners :
      Draws (banded NonZero false 4096 4096 4096 0 1) four_pixels 4096 40
      (drawn 20 3 (255 ∷ replicate 4094 0 ++ 255 ∷ []))
  pub last_corners :
      Draws (banded NonZero false 4096 4096 4096 4095 4096) four_pixels 4096 40
      (drawn 20 3 (255 ∷ replicate 4094 0 ++ 255 ∷ []))
  pub last_row :
      Draws (banded NonZero false 4096 4096 4096 4095 4096)
      (corners −4096 −4096 n4096 −4096 n4096 n4096 −4096 n4096) 4096 40
      (drawn 5 1 (replicate 4096 255))
  -- pitch 3 for width 4 is 3; pitch 65,536 passes, 65,537 is 3
  pub low_pitch : Draws (banded NonZero false 4 3 3 0 3) rectangle 12 40 (turned 3 0)
  pub high_pitch : Draws (banded NonZero false 1 1 65536 0 1) [] 1 1 (drawn 0 0 (0 ∷ []))
  pub too_high_pitch : Draws (banded NonZero false 1 1 65537 0 1) [] 1 1 (turned 3 0)
  -- pitch 4, 3 rows, width 4: 11 mask bytes is 4, 12 pass
  pub short_mask : Draws (label 4 3) rectangle 11 40 (turned 4 0)
  pub whole_mask :
      Draws (label 4 3) rectangle 12 40
      (drawn 5 2
      (0 ∷ 0 ∷ 0 ∷ 0
      ∷ 0 ∷ 255 ∷ 255 ∷ 0
      ∷ 0 ∷ 0 ∷ 0 ∷ 0 ∷ []))
  -- pitch 6, 2 rows, width 4: 9 is 4, 10 pass
  pub short_last_line : Draws (banded NonZero false 4 2 6 0 2) rectangle 9 40 (turned 4 0)
  pub whole_last_line :
      Draws (banded NonZero false 4 2 6 0 2) rectangle 10 40
      (drawn 5 2
      (0 ∷ 0 ∷ 0 ∷ 0 ∷ 7 ∷ 7
      ∷ 0 ∷ 255 ∷ 255 ∷ 0 ∷ []))
  -- 3 rows: 2 words is 5, 3 pass
  pub few_words : Draws (label 4 3) [] 12 2 (turned 5 0)
  pub enough_words :
      Draws (label 4 3) [] 12 3
      (drawn 0 0
      (0 ∷ 0 ∷ 0 ∷ 0
      ∷ 0 ∷ 0 ∷ 0 ∷ 0
      ∷ 0 ∷ 0 ∷ 0 ∷ 0 ∷ []))
  -- Close first is 11, and so is all but a MoveTo
  pub close_first : Draws (label 1 1) close 1 40 (turned 11 0)
  pub line_first : Draws (label 1 1) (line n0 n0) 1 40 (turned 11 0)
  pub quad_first : Draws (label 1 1) (quad n0 n0 n0 n0) 1 40 (turned 11 0)
  pub curve_first : Draws (label 1 1) (curve n0 n0 n0 n0 n0 n0) 1 40 (turned 11 0)
  -- a list of 1, 2 or 3 bytes is 8; so are bytes behind a list, by the index of the record that they would be
  pub one_byte : Draws (label 1 1) (0x0A ∷ []) 1 40 (turned 8 0)
  pub two_bytes : Draws (label 1 1) (0x0A ∷ 0x00 ∷ []) 1 40 (turned 8 0)
  pub three_bytes : Draws (label 1 1) (0x0A ∷ 0x00 ∷ 0x01 ∷ []) 1 40 (turned 8 0)
  pub behind : Draws (label 4 3) (rectangle ++ 0x01 ∷ []) 12 40 (turned 8 5)
  -- each kind of record that has points, without its last byte
  pub cut_move : Draws (label 1 1) (take 11 (move n0 n0)) 1 40 (turned 8 0)
  pub cut_line : Draws (label 1 1) (move n0 n0 ++ take 11 (line n0 n0)) 1 40 (turned 8 1)
  pub cut_quad : Draws (label 1 1) (move n0 n0 ++ take 19 (quad n0 n0 n0 n0)) 1 40 (turned 8 1)
  pub cut_curve : Draws (label 1 1) (move n0 n0 ++ take 27 (curve n0 n0 n0 n0 n0 n0)) 1 40 (turned 8 1)
  -- kinds 0, 6 and 257
  pub kind_0 : Draws (label 1 1) (0x02 ∷ 0x00 ∷ 0x00 ∷ 0x00 ∷ []) 1 40 (turned 9 0)
  pub kind_6 : Draws (label 1 1) (0x02 ∷ 0x00 ∷ 0x06 ∷ 0x00 ∷ []) 1 40 (turned 9 0)
  pub kind_257 : Draws (label 1 1) (0x0A ∷ 0x00 ∷ 0x01 ∷ 0x01 ∷ [] ++ nulls 8) 1 40 (turned 9 0)
  -- a Close of length 3, 1 and 258; a MoveTo of length 9 and a LineTo of length 11, with as many bytes
  pub length_3 : Draws (label 1 1) (move n0 n0 ++ 0x03 ∷ 0x00 ∷ 0x05 ∷ 0x00 ∷ [] ++ nulls 1) 1 40 (turned 10 1)
  pub length_1 : Draws (label 1 1) (move n0 n0 ++ 0x01 ∷ 0x00 ∷ 0x05 ∷ 0x00 ∷ []) 1 40 (turned 10 1)
  pub length_258 : Draws (label 1 1) (move n0 n0 ++ 0x02 ∷ 0x01 ∷ 0x05 ∷ 0x00 ∷ [] ++ nulls 256) 1 40 (turned 10 1)
  pub length_9 : Draws (label 1 1) (0x09 ∷ 0x00 ∷ 0x01 ∷ 0x00 ∷ [] ++ nulls 7) 1 40 (turned 10 0)
  pub length_11 : Draws (label 1 1) (move n0 n0 ++ 0x0B ∷ 0x00 ∷ 0x02 ∷ 0x00 ∷ [] ++ nulls 9) 1 40 (turned 10 1)
  -- a band that ends before its first row, and one that ends below the height
  pub band_turned : Draws (banded NonZero false 1 2 1 2 1) [] 1 40 (turned 2 0)
  pub band_below : Draws (banded NonZero false 1 1 1 0 2) [] 2 40 (turned 2 0)
  -- ---- 6 and 7
  -- each entry of the transform, infinite or not a number
  pub entry_xx : Draws (under (affine infinite n0 n0 n1 n0 n0) (label 1 1)) [] 1 40 (turned 6 0)
  pub entry_xy : Draws (under (affine n1 not_number n0 n1 n0 n0) (label 1 1)) [] 1 40 (turned 6 0)
  pub entry_yx : Draws (under (affine n1 n0 infinite n1 n0 n0) (label 1 1)) [] 1 40 (turned 6 0)
  pub entry_yy : Draws (under (affine n1 n0 n0 not_number n0 n0) (label 1 1)) [] 1 40 (turned 6 0)
  pub entry_x : Draws (under (affine n1 n0 n0 n1 infinite n0) (label 1 1)) [] 1 40 (turned 6 0)
  pub entry_y : Draws (under (affine n1 n0 n0 n1 n0 not_number) (label 1 1)) [] 1 40 (turned 6 0)
  -- either part of the offset
  pub offset_x : Draws (shifted_by infinite n0 (label 1 1)) [] 1 40 (turned 6 0)
  pub offset_y : Draws (shifted_by n0 not_number (label 1 1)) [] 1 40 (turned 6 0)
  -- a list of 65,537 bytes is 7; one of 65,536 is not, and what it has wrong is the kind of its first record
  pub long : Draws (label 1 1) (nulls 65537) 1 40 (turned 7 0)
  pub longest : Draws (label 1 1) (nulls 65536) 1 40 (turned 9 0)
  -- ---- two faults at once: the first decides
  -- 1 to 8
  pub first_1_2 : Draws (banded NonZero false 4097 1 4097 1 0) [] 0 40 (turned 1 0)
  pub first_2_3 : Draws (banded NonZero false 4 3 3 3 2) [] 12 40 (turned 2 0)
  pub first_3_4 : Draws (banded NonZero false 4 3 3 0 3) [] 0 40 (turned 3 0)
  pub first_4_5 : Draws (label 4 3) [] 11 2 (turned 4 0)
  pub first_5_6 : Draws (under (scale (float infinite) (float n1)) (label 4 3)) [] 12 2 (turned 5 0)
  pub first_6_7 : Draws (under (scale (float infinite) (float n1)) (label 1 1)) (nulls 65537) 1 40 (turned 6 0)
  pub first_7_8 : Draws (label 1 1) (move n0 n0 ++ closes 16381 ++ 0x02 ∷ []) 1 40 (turned 7 0)
  pub first_7_9 : Draws (label 1 1) (nulls 65540) 1 40 (turned 7 0)
  -- in a record: a cut header and kind 6; kind 6 and length 3; length 3 and a cut body; a cut body and a LineTo first
  pub header_9 : Draws (label 1 1) (0x02 ∷ 0x00 ∷ 0x06 ∷ []) 1 40 (turned 8 0)
  pub kind_10 : Draws (label 1 1) (0x03 ∷ 0x00 ∷ 0x06 ∷ 0x00 ∷ []) 1 40 (turned 9 0)
  pub length_8 : Draws (label 1 1) (move n0 n0 ++ 0x03 ∷ 0x00 ∷ 0x05 ∷ 0x00 ∷ []) 1 40 (turned 10 1)
  pub body_11 : Draws (label 1 1) (0x0A ∷ 0x00 ∷ 0x02 ∷ 0x00 ∷ []) 1 40 (turned 8 0)
  -- a LineTo first and its infinite point
  pub first_11_12 : Draws (label 1 1) (line infinite n0) 1 40 (turned 11 0)
  -- a point too far, and kind 6 in the next record; the same, and no room for a cell
  pub earlier_12 : Draws (label 1 1) (move n4096·004 n0 ++ 0x02 ∷ 0x00 ∷ 0x06 ∷ 0x00 ∷ []) 1 40 (turned 12 0)
  pub first_12_13 : Draws (label 1 1) (move n0 n0 ++ line n4096·004 n0) 1 1 (turned 12 1)
  -- ---- the point rule
  -- 4096 passes, 4096.00390625 does not, on either axis and of either sign; 4096.0034 cut is 4096
  pub near : Draws (label 1 1) (move n0 n0 ++ line n4096 n0) 1 40 (drawn 2 1 (0 ∷ []))
  pub near_corners : Draws (label 1 1) (move n4096 −4096 ++ move −4096 n4096) 1 40 (drawn 2 0 (0 ∷ []))
  pub far_x : Draws (label 1 1) (move n0 n0 ++ line n4096·004 n0) 1 40 (turned 12 1)
  pub far_y : Draws (label 1 1) (move n0 n0 ++ line n0 −4096·004) 1 40 (turned 12 1)
  pub far_left : Draws (label 1 1) (move n0 n0 ++ line −4096·004 n0) 1 40 (turned 12 1)
  pub far_below : Draws (label 1 1) (move n0 n0 ++ line n0 n4096·004) 1 40 (turned 12 1)
  pub near_cut : Draws (label 1 1) (move n0 n0 ++ line n4096·0034 n0) 1 40 (drawn_cut 2 1 1 (0 ∷ []))
  -- a part that is no number, an infinite one
  pub nan_12 : Draws (label 1 1) (move n0 n0 ++ line n0 not_number) 1 40 (turned 12 1)
  pub infinite_12 : Draws (label 1 1) (move infinite n0) 1 40 (turned 12 0)
  -- every point of a curve counts
  pub quad_control_12 : Draws (label 1 1) (move n0 n0 ++ quad n4096·004 n0 n0 n0) 1 40 (turned 12 1)
  pub quad_end_12 : Draws (label 1 1) (move n0 n0 ++ quad n0 n0 n0 n4096·004) 1 40 (turned 12 1)
  pub curve_first_12 : Draws (label 1 1) (move n0 n0 ++ curve n4096·004 n0 n0 n0 n0 n0) 1 40 (turned 12 1)
  pub curve_end_12 : Draws (label 1 1) (move n0 n0 ++ curve n0 n0 n0 n0 n0 n4096·004) 1 40 (turned 12 1)
  pub curve_second_12 : Draws (label 1 1) (move n0 n0 ++ curve n0 n0 n0 n4096·004 n0 n0) 1 40 (turned 12 1)
  -- 3e38 is killed by xx = 0, an infinite part is not
  pub killed : Draws (under (scale (float n0) (float n1)) (label 1 1)) (move huge n0) 1 40 (drawn 1 1 (0 ∷ []))
  pub not_killed : Draws (under (scale (float n0) (float n1)) (label 1 1)) (move infinite n0) 1 40 (turned 12 0)
  -- the offset counts: with 4096.00390625 of it (0,0) is too far, with −1 of it 4096.00390625 is near
  pub offset_12 : Draws (shifted_by n4096·004 n0 (label 1 1)) (move n0 n0) 1 40 (turned 12 0)
  pub offset_near : Draws (shifted_by −1 n0 (label 1 1)) (move n4096·004 n0) 1 40 (drawn 1 0 (0 ∷ []))
  -- drawn without a point, no offset is too far
  pub empty_far : Draws (shifted_by n4096·004 n0 (label 1 1)) [] 1 40 (drawn 0 0 (0 ∷ []))
  -- ---- transform and offset
  -- K1 from the unit square: twice as wide, moved by (1,0.5), and the offset (0,0.5)
  pub placed :
      Draws (shifted_by n0 n0·5 (under (affine n2 n0 n0 n1 n1 n0·5) (label 4 3))) (corners n0 n0 n1 n0 n1 n1 n0 n1) 12 40
      (drawn 5 2
      (0 ∷ 0 ∷ 0 ∷ 0
      ∷ 0 ∷ 255 ∷ 255 ∷ 0
      ∷ 0 ∷ 0 ∷ 0 ∷ 0 ∷ []))
  -- K1 from a rectangle that stands, by a quarter turn and a move of 3
  pub quarter :
      Draws (under (affine n0 n1 −1 n0 n3 n0) (label 4 3)) (corners n1 n0 n2 n0 n2 n2 n1 n2) 12 40
      (drawn 5 2
      (0 ∷ 0 ∷ 0 ∷ 0
      ∷ 0 ∷ 255 ∷ 255 ∷ 0
      ∷ 0 ∷ 0 ∷ 0 ∷ 0 ∷ []))
  -- ---- cut coordinates
  -- K1 with the offset (1/512,0), with (0,1/512) and with (1/512,1/512): the picture is K1's
  pub cut_x : Draws (shifted_by n0·002 n0 (label 4 3)) rectangle 12 40 (drawn_cut 5 2 4 k1_mask)
  pub cut_y : Draws (shifted_by n0 n0·002 (label 4 3)) rectangle 12 40 (drawn_cut 5 2 4 k1_mask)
  pub cut_both : Draws (shifted_by n0·002 n0·002 (label 4 3)) rectangle 12 40 (drawn_cut 5 2 8 k1_mask)
  -- its first row, which sees none of the points, and no row
  pub cut_unseen :
      Draws (shifted_by n0·002 n0·002 (banded NonZero false 4 3 4 0 1)) rectangle 4 40
      (drawn_cut 5 0 8 (0 ∷ 0 ∷ 0 ∷ 0 ∷ []))
  pub cut_no_rows : Draws (shifted_by n0·002 n0·002 (banded NonZero false 4 3 4 1 1)) rectangle 0 0 (drawn_cut 5 0 8 [])
  -- in bands of one row
  pub cut_in_bands : InBands 1 (shifted_by n0·002 n0·002 (label 4 3)) rectangle 12 11 (drawn_cut 5 2 8 k1_mask)
  -- (−0.003,−0.00390625); (−0, the least float above 0)
  pub cut_one : Draws (label 1 1) (move −0·003 −0·0039) 1 5 (drawn_cut 1 0 1 (0 ∷ []))
  pub cut_least : Draws (label 1 1) (move −0 least) 1 5 (drawn_cut 1 1 1 (0 ∷ []))
  -- (1 + 1/512, 0), to which −1/512 is added; and with xx = 0, and doubled
  pub cut_cancelled :
      Draws (label 2 1) (move n1·002 n0) 2 5 (drawn_cut 1 1 1 (0 ∷ 0 ∷ []))
      × Draws (shifted_by −0·002 n0 (label 2 1)) (move n1·002 n0) 2 5 (drawn 1 1 (0 ∷ 0 ∷ []))
  pub cut_killed : Draws (under flat (label 1 1)) (move n1·002 n0) 1 5 (drawn 1 1 (0 ∷ []))
  pub cut_doubled : Draws (under (scale (float n2) (float n1)) (label 3 1)) (move n1·002 n0) 3 5 (drawn 1 1 (0 ∷ 0 ∷ 0 ∷ []))
  -- control points count, and a point that comes again counts again
  pub cut_controls :
      Draws (label 1 1) (move n0 n0 ++ quad n0·002 n0·002 n0 n0 ++ curve n0·002 n0 n0 n0·002 n0·002 n0·002) 1 5
      (drawn_cut 3 1 6 (0 ∷ []))
  pub cut_again : Draws (label 1 1) (move n0·002 n0 ++ line n0·002 n0 ++ line n0·002 n0) 1 5 (drawn_cut 3 1 3 (0 ∷ []))
  -- refused, nothing is told: 12 behind a cut coordinate, and 13
  pub cut_12 : Draws (label 1 1) (move n0·002 n0 ++ line n4096·004 n0) 1 5 (turned 12 1)
  pub cut_13 : Draws (label 1 1) (move n0·002 n0) 1 1 (full 1)
  -- the offset is no point of an empty list
  pub cut_empty : Draws (shifted_by n0·002 n0·002 (label 1 1)) [] 1 5 (drawn 0 0 (0 ∷ []))
  -- ---- subpaths
  -- a triangle left open is closed by the end, and by a MoveTo
  pub open_end : Draws (label 1 1) triangle 1 40 (drawn 3 1 (128 ∷ []))
  pub open_move : Draws (label 1 1) (triangle ++ move n5 n5) 1 40 (drawn 4 1 (128 ∷ []))
  -- what is closed stays closed: behind Close a MoveTo, another Close and the end draw no line
  pub closed_move :
      Draws (label 1 1) (triangle ++ close ++ move n5 n5) 1 40 (drawn 5 1 (128 ∷ []))
  pub closed_twice : Draws (label 1 1) (triangle ++ close ++ close) 1 40 (drawn 5 1 (128 ∷ []))
  -- and what follows the MoveTo draws: the other half of the square
  pub closed_and_on :
      Draws (label 1 1) (triangle ++ close ++ move n0 n0 ++ line n1 n0 ++ line n1 n1 ++ close) 1 40
      (drawn 8 1 (255 ∷ []))
  -- ---- no drawing after Close
  -- LineTo, QuadTo and CurveTo directly after Close are 18, whatever comes behind them
  pub line_18 : Draws (label 1 1) (shut ++ line n0 n0) 1 40 (turned 18 2)
  pub quad_18 : Draws (label 1 1) (shut ++ quad n0 n0 n0 n0) 1 40 (turned 18 2)
  pub curve_18 : Draws (label 1 1) (shut ++ curve n0 n0 n0 n0 n0 n0) 1 40 (turned 18 2)
  pub bar_18 : Draws (label 1 1) (triangle ++ close ++ line n1 n1 ++ line n0 n1 ++ close) 1 40 (turned 18 4)
  -- the record directly before decides, be it a second Close or one far behind; a MoveTo between lets the line pass
  pub twice_18 : Draws (label 1 1) (shut ++ close ++ line not_number n0) 1 40 (turned 18 3)
  pub later_18 : Draws (label 1 1) (shut ++ move n0 n0 ++ line n1 n1 ++ close ++ line n0 n0) 1 40 (turned 18 5)
  pub not_directly : Draws (label 1 1) (shut ++ move n0 n0 ++ line n0 n0) 1 40 (drawn 4 1 (0 ∷ []))
  -- in the record behind a Close: a cut header, kind 6, length 11, a cut body, and only then 18; its point comes last
  pub header_18 : Draws (label 1 1) (shut ++ 0x0A ∷ 0x00 ∷ 0x02 ∷ []) 1 40 (turned 8 2)
  pub kind_18 : Draws (label 1 1) (shut ++ 0x0A ∷ 0x00 ∷ 0x06 ∷ 0x00 ∷ [] ++ nulls 8) 1 40 (turned 9 2)
  pub length_18 : Draws (label 1 1) (shut ++ 0x0B ∷ 0x00 ∷ 0x02 ∷ 0x00 ∷ [] ++ nulls 9) 1 40 (turned 10 2)
  pub body_18 : Draws (label 1 1) (shut ++ take 11 (line n0 n0)) 1 40 (turned 8 2)
  pub first_18_12 : Draws (label 1 1) (shut ++ line infinite n0) 1 40 (turned 18 2)
  -- Close first is 11, also before a LineTo
  pub first_11_18 : Draws (label 1 1) (close ++ line n0 n0) 1 40 (turned 11 0)
  -- of two faulty records the first decides; 7 comes before 18, and 13 behind it
  pub earlier_12_18 : Draws (label 1 1) (move n4096·004 n0 ++ close ++ line n0 n0) 1 40 (turned 12 0)
  pub earlier_18 : Draws (label 1 1) (shut ++ line n0 n0 ++ 0x02 ∷ 0x00 ∷ 0x06 ∷ 0x00 ∷ []) 1 40 (turned 18 2)
  pub first_7_18 : Draws (label 1 1) (shut ++ line n0 n0 ++ closes 16378) 1 40 (turned 7 0)
  pub first_18_13 : Draws (label 1 1) (shut ++ line n0 n0) 1 1 (turned 18 2)
  -- in a band that no stroke meets, and in bands
  pub band_18 : Draws (banded NonZero false 1 4 1 3 4) (shut ++ line n1 n1) 1 40 (turned 18 2)
  pub bands_18 : InBands 1 (label 1 3) (shut ++ line n1 n1) 3 40 (turned 18 2)
  -- ---- lines and curves
  -- a long flat edge, (−2048,0) (2048,1) (−2048,1), and one twice as long: the crossings are coarse
  pub coarse :
      Draws (label 8 1) (move −2048 n0 ++ line n2048 n1 ++ line −2048 n1) 8 40
      (drawn 3 1 (135 ∷ 135 ∷ 135 ∷ 135 ∷ 135 ∷ 135 ∷ 135 ∷ 135 ∷ []))
  pub coarser :
      Draws (label 8 1) (move −4096 n0 ++ line n4096 n1 ++ line −4096 n1) 8 40
      (drawn 3 1 (143 ∷ 143 ∷ 143 ∷ 143 ∷ 143 ∷ 143 ∷ 143 ∷ 143 ∷ []))
  -- a quad, 5×4
  pub a_quad :
      Draws (label 5 4) (move n0 n0 ++ quad n4 n0 n4 n4 ++ line n0 n4 ++ close) 20 90
      (drawn 4 11
      (237 ∷ 197 ∷ 77 ∷ 0 ∷ 0
      ∷ 255 ∷ 255 ∷ 255 ∷ 76 ∷ 0
      ∷ 255 ∷ 255 ∷ 255 ∷ 197 ∷ 0
      ∷ 255 ∷ 255 ∷ 255 ∷ 237 ∷ 0 ∷ []))
  -- a cubic, 4×4
  pub a_cubic :
      Draws (label 4 4) (move n0 n0 ++ curve n0 n4 n4 n4 n4 n0 ++ close) 16 90
      (drawn 3 8
      (239 ∷ 255 ∷ 255 ∷ 239
      ∷ 184 ∷ 255 ∷ 255 ∷ 184
      ∷ 43 ∷ 217 ∷ 217 ∷ 43
      ∷ 0 ∷ 0 ∷ 0 ∷ 0 ∷ []))
  -- a cubic, even-odd, up, band [1, 4), pitch 6: the last two bytes of a line and those behind the band stay
  pub band_up :
      Draws (banded EvenOdd true 4 5 6 1 4) loop 20 90
      (drawn 3 6
      (0 ∷ 200 ∷ 214 ∷ 0 ∷ 7 ∷ 7
      ∷ 0 ∷ 162 ∷ 219 ∷ 0 ∷ 7 ∷ 7
      ∷ 0 ∷ 27 ∷ 78 ∷ 0 ∷ 7 ∷ 7
      ∷ 7 ∷ 7 ∷ []))
  -- the same, down
  pub band_down :
      Draws (banded EvenOdd false 4 5 6 1 4) loop 20 90
      (drawn 3 6
      (0 ∷ 27 ∷ 78 ∷ 0 ∷ 7 ∷ 7
      ∷ 0 ∷ 162 ∷ 219 ∷ 0 ∷ 7 ∷ 7
      ∷ 0 ∷ 200 ∷ 214 ∷ 0 ∷ 7 ∷ 7
      ∷ 7 ∷ 7 ∷ []))
  -- diamonds both ways round, band [1, 4)
  pub band_diamonds :
      Draws (banded NonZero false 8 4 8 1 4) diamonds 24 90
      (drawn 10 13
      (127 ∷ 255 ∷ 255 ∷ 128 ∷ 128 ∷ 255 ∷ 255 ∷ 127
      ∷ 128 ∷ 255 ∷ 255 ∷ 127 ∷ 127 ∷ 255 ∷ 255 ∷ 128
      ∷ 0 ∷ 128 ∷ 127 ∷ 0 ∷ 0 ∷ 127 ∷ 128 ∷ 0 ∷ []))
  -- up, two rows, pitch 5: (1,1) (3,1) (3,2) (1,2) is in the upper line
  pub up :
      Draws (banded NonZero true 4 2 5 0 2) rectangle 9 40
      (drawn 5 2
      (0 ∷ 255 ∷ 255 ∷ 0 ∷ 7
      ∷ 0 ∷ 0 ∷ 0 ∷ 0 ∷ []))
  -- the unit square twice: nonzero and even-odd
  pub nonzero_twice :
      Draws (label 1 1) (corners n0 n0 n1 n0 n1 n1 n0 n1 ++ corners n0 n0 n1 n0 n1 n1 n0 n1) 1 40
      (drawn 10 1 (255 ∷ []))
  pub even_odd_twice :
      Draws (banded EvenOdd false 1 1 1 0 1) (corners n0 n0 n1 n0 n1 n1 n0 n1 ++ corners n0 n0 n1 n0 n1 n1 n0 n1) 1 40
      (drawn 10 1 (0 ∷ []))
  -- what lies outside of the band [1, 2) only moves the pen: a line, a quad, a cubic, then down and back
  pub line_skipped :
      Draws (banded NonZero false 2 2 2 1 2) (move n0 n0 ++ line n2 n0 ++ line n2 n2 ++ line n0 n2 ++ close) 2 40
      (drawn 5 1 (255 ∷ 255 ∷ []))
  pub quad_skipped :
      Draws (banded NonZero false 2 2 2 1 2) (move n0 n0 ++ quad n1 −9 n2 n0 ++ line n2 n2 ++ line n0 n2 ++ close) 2 40
      (drawn 5 1 (255 ∷ 255 ∷ []))
  pub cubic_skipped :
      Draws (banded NonZero false 2 2 2 1 2)
      (move n0 n0 ++ curve n0 −9 n2 −9 n2 n0 ++ line n2 n2 ++ line n0 n2 ++ close) 2 40
      (drawn 5 1 (255 ∷ 255 ∷ []))
  -- ---- places
  -- a MoveTo leaves its cell: both triangles are stored, and the place counts although their sums cancel
  pub cancels : Draws (label 1 1) (cancelling ++ move −9 −9) 1 40 (drawn 9 1 (0 ∷ []))
  -- a left edge in column −1, and two of them, in columns −5 and −1: what is left of column 0 is one place
  pub left : Draws (label 4 1) (corners −1 n0 n2 n0 n2 n1 −1 n1) 4 40 (drawn 5 2 (255 ∷ 255 ∷ 0 ∷ 0 ∷ []))
  pub left_both :
      Draws (label 4 1) (corners −5 n0 n2 n0 n2 n1 −5 n1 ++ corners −1 n0 n2 n0 n2 n1 −1 n1) 4 40
      (drawn 10 2 (255 ∷ 255 ∷ 0 ∷ 0 ∷ []))
  -- down in column −5 and up in column −3: each is stored when it is left, although together they are nothing
  pub left_cells :
      Draws (label 1 1) (move −5 n0·25 ++ line −5 n0·75 ++ line −3 n0·75 ++ line −3 n0·25 ++ close ++ move −9 −9) 1 40
      (drawn 6 1 (0 ∷ []))
  -- column −1 of a label without width, and column 0
  pub no_width : Draws (label 0 1) (move −1 n0) 0 40 (drawn 1 1 [])
  pub no_width_0 : Draws (label 0 1) (move n0 n0) 0 40 (drawn 1 0 [])
  -- the last cell is not stored in column 1 of 1, in row 1 of 1, in row −1, or in a row before the band
  pub right : Draws (label 1 1) (move n1 n0) 1 1 (drawn 1 0 (0 ∷ []))
  pub below : Draws (label 1 1) (move n0 n1) 1 1 (drawn 1 0 (0 ∷ []))
  pub above : Draws (label 1 1) (move n0 −1) 1 1 (drawn 1 0 (0 ∷ []))
  pub before : Draws (banded NonZero false 1 2 1 1 2) (move n0 n0) 1 1 (drawn 1 0 (0 ∷ []))
  -- a band without rows writes nothing, and needs no mask and no word
  pub band_empty : Draws (banded NonZero false 4 3 4 2 2) rectangle 0 0 (drawn 5 0 [])
  -- K1 with room for one place, and for two
  pub full_13 : Draws (label 4 3) rectangle 12 10 (full 5)
  pub room :
      Draws (label 4 3) rectangle 12 11
      (drawn 5 2
      (0 ∷ 0 ∷ 0 ∷ 0
      ∷ 0 ∷ 255 ∷ 255 ∷ 0
      ∷ 0 ∷ 0 ∷ 0 ∷ 0 ∷ []))
  -- a place that is there takes no room
  pub full_repeated :
      Draws (label 1 1) (unit ++ unit) 1 5
      (drawn 10 1 (255 ∷ []))
  -- the record that leaves a cell is named, not the one that gave it ink: with no room, with room for one place and for two
  pub left_by : Draws (label 2 1) (hook ++ close) 2 4 (full 2)
  pub left_by_close : Draws (label 2 1) (hook ++ close) 2 5 (full 3)
  pub left_by_none : Draws (label 2 1) (hook ++ close) 2 9 (drawn 4 2 (48 ∷ 16 ∷ []))
  -- closed by a MoveTo, it counts to that, and closed by the end, to the end
  pub closed_by_move : Draws (label 2 1) (hook ++ move n9 n9 ++ line n9 n9) 2 5 (full 3)
  pub closed_by_end : Draws (label 2 1) hook 2 5 (full 3)
  -- the cell that a MoveTo leaves is that MoveTo's, also after Close
  pub left_by_move : Draws (label 1 1) (unit ++ move n0 n0) 1 1 (full 5)
  pub left_by_end : Draws (label 1 1) unit 1 1 (full 5)
  -- row 1 is inked before row 0: the whole label and row 1 run out at record 5, row 0 alone at the end
  pub rows_at_once : Draws (label 1 2) lower_first 2 2 (full 5)
  pub row_0 : Draws (banded NonZero false 1 2 1 0 1) lower_first 1 1 (full 10)
  pub row_1 : Draws (banded NonZero false 1 2 1 1 2) lower_first 1 1 (full 5)
  -- ---- in bands of so many rows
  -- K1, a row at a time; in twos, up, with pitch 5; two rows of it, up
  pub bands_k1 :
      InBands 1 (label 4 3) rectangle 12 40
      (drawn 5 2
      (0 ∷ 0 ∷ 0 ∷ 0
      ∷ 0 ∷ 255 ∷ 255 ∷ 0
      ∷ 0 ∷ 0 ∷ 0 ∷ 0 ∷ []))
  pub bands_up :
      InBands 2 (banded NonZero true 4 3 5 0 3) rectangle 14 40
      (drawn 5 2
      (0 ∷ 0 ∷ 0 ∷ 0 ∷ 7
      ∷ 0 ∷ 255 ∷ 255 ∷ 0 ∷ 7
      ∷ 0 ∷ 0 ∷ 0 ∷ 0 ∷ []))
  pub bands_part :
      InBands 1 (banded NonZero true 4 3 4 1 3) rectangle 8 40
      (drawn 5 2
      (0 ∷ 0 ∷ 0 ∷ 0
      ∷ 0 ∷ 255 ∷ 255 ∷ 0 ∷ []))
  -- six cells: room for five is 13 at once and in bands of three rows, but holds what a shorter band has
  pub at_once_is : Draws (label 4 3) tall 12 26 (full 5)
  pub threes : InBands 3 (label 4 3) tall 12 26 (full 5)
  pub twos :
      InBands 2 (label 4 3) tall 12 26
      (drawn 5 6
      (0 ∷ 255 ∷ 255 ∷ 0
      ∷ 0 ∷ 255 ∷ 255 ∷ 0
      ∷ 0 ∷ 255 ∷ 255 ∷ 0 ∷ []))
  -- 17 words hold the two cells of a row, also with a step of 0, and three of the four of two rows
  pub ones :
      InBands 1 (label 4 3) tall 12 17
      (drawn 5 6
      (0 ∷ 255 ∷ 255 ∷ 0
      ∷ 0 ∷ 255 ∷ 255 ∷ 0
      ∷ 0 ∷ 255 ∷ 255 ∷ 0 ∷ []))
  pub noughts :
      InBands 0 (label 4 3) tall 12 17
      (drawn 5 6
      (0 ∷ 255 ∷ 255 ∷ 0
      ∷ 0 ∷ 255 ∷ 255 ∷ 0
      ∷ 0 ∷ 255 ∷ 255 ∷ 0 ∷ []))
  pub twos_full : InBands 2 (label 4 3) tall 12 17 (full 5)
  -- room for one: two cells in the first band, in the last, in none
  pub first_full : InBands 1 (label 4 3) (corners n1 n0 n3 n0 n3 n1 n1 n1) 12 8 (full 5)
  pub last_full : InBands 1 (label 4 3) (corners n1 n2 n3 n2 n3 n3 n1 n3) 12 8 (full 5)
  pub none_full :
      InBands 1 (label 4 3) (corners n1 n3 n3 n3 n3 n4 n1 n4) 12 8
      (drawn 5 0
      (0 ∷ 0 ∷ 0 ∷ 0
      ∷ 0 ∷ 0 ∷ 0 ∷ 0
      ∷ 0 ∷ 0 ∷ 0 ∷ 0 ∷ []))
  -- of two full bands the first in rising rows is told of, by its own drawing, also when up
  pub both_full : InBands 1 (label 1 2) lower_first 2 2 (full 10)
  pub both_full_up : InBands 1 (banded NonZero true 1 2 1 0 2) lower_first 2 2 (full 10)
  -- room for one: at once that is too little at record 7; the first band has room, the second runs out at the end
  pub second_at_once : Draws (label 2 2) (corners n1 n0 n2 n0 n2 n1 n1 n1 ++ corners n0 n1 n1 n1 n1 n2 n0 n2) 4 8 (full 7)
  pub second_alone : InBands 1 (label 2 2) (corners n1 n0 n2 n0 n2 n1 n1 n1 ++ corners n0 n1 n1 n1 n1 n2 n0 n2) 4 8 (full 10)
  -- the last cell of a lone MoveTo is in the second band: no room for it, and room
  pub last_cell : InBands 1 (label 1 2) (move n0 n1) 2 3 (full 1)
  pub counted :
      InBands 1 (label 1 2) (move n0 n1) 2 8
      (drawn 1 1
      (0
      ∷ 0 ∷ []))
  -- no room, but for no cell: what is stored in row 0 is not in the bands of rows 1 and 2
  pub bands_from_first :
      InBands 1 (banded NonZero false 4 3 4 1 3) (corners n1 n0 n3 n0 n3 n1 n1 n1) 8 4
      (drawn 5 0
      (0 ∷ 0 ∷ 0 ∷ 0
      ∷ 0 ∷ 0 ∷ 0 ∷ 0 ∷ []))
  -- no rows
  pub bands_empty : InBands 1 (banded NonZero false 4 3 4 2 2) rectangle 0 0 (drawn 5 0 [])
  -- 5, 4 and 8 as at once
  pub bands_few_words : InBands 1 (label 4 3) rectangle 12 2 (turned 5 0)
  pub bands_short_mask : InBands 1 (label 4 3) rectangle 11 40 (turned 4 0)
  pub bands_cut : InBands 1 (label 4 3) (0x0A ∷ 0x00 ∷ []) 12 40 (turned 8 0)
  -- ---- bounds and placement
  -- K11's box, to which nothing is added; all points count, control points too; an empty list
  pub k11_box : bounds identity two_corners ≡ box n0·5 n0·25 n3·25 n2
  pub box_controls :
      bounds identity (move n0 n0 ++ quad n5 −3 n1 n1 ++ curve −2 n0 n0 n7 n0 n0 ++ close)
      ≡ box −2 −3 n5 n7
  pub box_ends : bounds identity (move n0 n0 ++ quad n0 n0 n5 −3 ++ curve n0 n0 n0 n0 −2 n7) ≡ box −2 −3 n5 n7
  pub box_moved : bounds (affine n2 n0 n0 n1 n1 n0·5) (move n0 n0 ++ line n1 n2) ≡ box n1 n0·5 n3 n2·5
  pub box_empty : bounds identity [] ≡ box n0 n0 n0 n0
  -- 6 to 12 and 18; the point rule is asked for the offset zero
  pub box_6 : bounds (affine infinite n0 n0 n1 n0 n0) (nulls 65537) ≡ box_refused 6 0
  pub box_7 : bounds identity (nulls 65537) ≡ box_refused 7 0
  pub box_8 : bounds identity (move n0 n0 ++ 0x02 ∷ []) ≡ box_refused 8 1
  pub box_12 : bounds identity (move n0 n0 ++ line n4096·004 n0) ≡ box_refused 12 1
  pub box_18 : bounds identity (shut ++ close ++ curve not_number n0 n0 n0 n0 n0) ≡ box_refused 18 3
  pub box_closed : bounds identity (shut ++ close ++ move n1 n2) ≡ box n0 n0 n1 n2
  -- 4096 passes in every point, 4096.00390625 in no control point, on either axis and of either sign
  pub box_near :
      bounds identity (move n4096 −4096 ++ quad −4096 n4096 n0 n0 ++ curve −4096 −4096 n4096 n4096 n0 n0)
      ≡ box −4096 −4096 n4096 n4096
  pub box_control_12 :
      (bounds identity (move n0 n0 ++ quad −4096·004 n0 n0 n0) ≡ box_refused 12 1)
      × (bounds identity (move n0 n0 ++ quad n0 n4096·004 n0 n0) ≡ box_refused 12 1)
      × (bounds identity (move n0 n0 ++ curve n0 −4096·004 n0 n0 n0 n0) ≡ box_refused 12 1)
      × (bounds identity (move n0 n0 ++ curve n0 n0 n4096·004 n0 n0 n0) ≡ box_refused 12 1)
  -- a zero keeps its sign where tx and ty are −0; of 0 and −0 each side keeps the first
  pub box_zero : bounds still (move −0 −0) ≡ box −0 −0 −0 −0
  pub box_tie : bounds still (move n0 n0 ++ line −0 −0) ≡ box n0 n0 n0 n0
  pub box_tie_turned : bounds still (move −0 −0 ++ line n0 n0) ≡ box −0 −0 −0 −0
  -- the new offset of these, with the offset (−0,−0)
  pub place_tie : placement TopLeft still (at −0 −0) (move n0 n0 ++ line −0 −0) ≡ lies −0 −0 (pos 0) (pos 0) 0 0
  pub place_tie_turned : placement TopLeft still (at −0 −0) (move −0 −0 ++ line n0 n0) ≡ lies n0 n0 (pos 0) (pos 0) 0 0
  -- K11 from the top left; at a whole minimum; below and left of (0,0)
  pub place_top_left : placement TopLeft identity (at −1 n1) two_corners ≡ lies n1 −1 (negsuc 0) (pos 1) 4 2
  pub place_whole : placement TopLeft identity (at n0 n0) (move n1 n2 ++ line n3 n2) ≡ lies −1 −2 (pos 1) (pos 2) 2 0
  pub place_left :
      placement BottomLeft identity (at n0 n0) (move −0·5 −2 ++ line n0·25 −1)
      ≡ lies n1 n2 (negsuc 0) (negsuc 0) 2 1
  -- floats up to 4096.0034 pass
  pub place_farthest :
      placement TopLeft identity (at n0 n0) (move −4096·0034 −4096·0034 ++ line n4096·0034 n4096·0034)
      ≡ lies_cut n4097 n4097 (negsuc 4096) (negsuc 4096) 8194 8194 4
  -- K11's box with the offset (1/512,1/512), and an empty list with it
  pub place_cut : placement TopLeft identity (at n0·002 n0·002) two_corners ≡ lies_cut −0 −0 (pos 0) (pos 0) 4 3 4
  pub place_cut_empty : placement TopLeft identity (at n0·002 n0·002) [] ≡ lies −0 −0 (pos 0) (pos 0) 1 1
  -- an empty list at (0.5,0.5): 1×1, the new offset is −0, −0; the top is 0, and 1 from the bottom left
  pub place_empty : placement TopLeft identity (at n0·5 n0·5) [] ≡ lies −0 −0 (pos 0) (pos 0) 1 1
  pub place_empty_up : placement BottomLeft identity (at n0·5 n0·5) [] ≡ lies −0 −0 (pos 0) (pos 1) 1 1
  -- its offset alone passes the point rule at 4096 and not at 4096.00390625
  pub place_empty_far : placement TopLeft identity (at n4096 n0) [] ≡ lies −4096 −0 (pos 4096) (pos 0) 0 0
  pub place_empty_12 : placement BottomLeft identity (at n4096·004 n0) [] ≡ place_refused 12 0
  pub place_empty_12_y : placement BottomLeft identity (at n0 −4096·004) [] ≡ place_refused 12 0
  -- as box-near and box-control-12
  pub place_near_all :
      placement TopLeft identity (at n0 n0) (move n4096 −4096 ++ quad −4096 n4096 n0 n0 ++ curve −4096 −4096 n4096 n4096 n0 n0)
      ≡ lies n4096 n4096 (negsuc 4095) (negsuc 4095) 8192 8192
  pub place_control_12 :
      (placement TopLeft identity (at n0 n0) (move n0 n0 ++ quad −4096·004 n0 n0 n0) ≡ place_refused 12 1)
      × (placement TopLeft identity (at n0 n0) (move n0 n0 ++ quad n0 n4096·004 n0 n0) ≡ place_refused 12 1)
      × (placement TopLeft identity (at n0 n0) (move n0 n0 ++ curve n0 −4096·004 n0 n0 n0 n0) ≡ place_refused 12 1)
      × (placement TopLeft identity (at n0 n0) (move n0 n0 ++ curve n0 n0 n4096·004 n0 n0 n0) ≡ place_refused 12 1)
  -- 6 to 12 and 18
  pub place_6 : placement TopLeft identity (at n0 infinite) (nulls 65537) ≡ place_refused 6 0
  pub place_7 : placement TopLeft identity (at n0 n0) (nulls 65537) ≡ place_refused 7 0
  pub place_9 : placement TopLeft identity (at n0 n0) (move n0 n0 ++ 0x02 ∷ 0x00 ∷ 0x06 ∷ 0x00 ∷ []) ≡ place_refused 9 1
  pub place_18 : placement TopLeft identity (at n0 n0) (shut ++ quad n0 n0 n0 not_number) ≡ place_refused 18 2
  pub place_closed : placement TopLeft identity (at n0 n0) (shut ++ close ++ move n1 n2) ≡ lies −0 −0 (pos 0) (pos 0) 1 2
  -- a point is judged with the offset added
  pub place_12 : placement TopLeft identity (at n1 n0) (move n4096 n0) ≡ place_refused 12 0
  pub place_near : placement TopLeft identity (at −1 n0) (move n4096·004 n0) ≡ lies −4095 −0 (pos 4095) (pos 0) 1 0

pub trials : Trials
unfolding draw_in_bands bands_from
    draw draw_in one_full first_of fitting draw_read inked painted byte_of cover_up_to area_at distinct known cells_of cells_by
    stored stored_by trail pen_after marks_by flatten spot_in curves.quad curves.cubic curves.along curves.quad_points curves.doublings curves.cubic_points curves.curved
    lines.line lines.whole lines.walk lines.upright read_list read_from record_fault all_pass input_fault size_fault
    fixed_of cut_of command_in wrapped placement placement_of bounds points_in box_of box_from floor of_bits add mul lt neg of_int
trials = record {
  wide = refl;
  high = refl;
  too_wide = refl;
  too_high = refl;
  first_corners = refl;
  last_corners = refl;
  last_row = refl;
  low_pitch = refl;
  high_pitch = refl;
  too_high_pitch = refl;
  short_mask = refl;
  whole_mask = refl;
  short_last_line = refl;
  whole_last_line = refl;
  few_words = refl;
  enough_words = refl;
  close_first = refl;
  line_first = refl;
  quad_first = refl;
  curve_first = refl;
  one_byte = refl;
  two_bytes = refl;
  three_bytes = refl;
  behind = refl;
  cut_move = refl;
  cut_line = refl;
  cut_quad = refl;
  cut_curve = refl;
  kind_0 = refl;
  kind_6 = refl;
  kind_257 = refl;
  length_3 = refl;
  length_1 = refl;
  length_258 = refl;
  length_9 = refl;
  length_11 = refl;
  band_turned = refl;
  band_below = refl;
  entry_xx = refl;
  entry_xy = refl;
  entry_yx = refl;
  entry_yy = refl;
  entry_x = refl;
  entry_y = refl;
  offset_x = refl;
  offset_y = refl;
  long = refl;
  longest = refl;
  first_1_2 = refl;
  first_2_3 = refl;
  first_3_4 = refl;
  first_4_5 = refl;
  first_5_6 = refl;
  first_6_7 = refl;
  first_7_8 = refl;
  first_7_9 = refl;
  header_9 = refl;
  kind_10 = refl;
  length_8 = refl;
  body_11 = refl;
  first_11_12 = refl;
  earlier_12 = refl;
  first_12_13 = refl;
  near = refl;
  near_corners = refl;
  far_x = refl;
  far_y = refl;
  far_left = refl;
  far_below = refl;
  near_cut = refl;
  nan_12 = refl;
  infinite_12 = refl;
  quad_control_12 = refl;
  quad_end_12 = refl;
  curve_first_12 = refl;
  curve_end_12 = refl;
  curve_second_12 = refl;
  killed = refl;
  not_killed = refl;
  offset_12 = refl;
  offset_near = refl;
  empty_far = refl;
  placed = refl;
  quarter = refl;
  cut_x = refl;
  cut_y = refl;
  cut_both = refl;
  cut_unseen = refl;
  cut_no_rows = refl;
  cut_in_bands = refl;
  cut_one = refl;
  cut_least = refl;
  cut_cancelled = (refl, refl);
  cut_killed = refl;
  cut_doubled = refl;
  cut_controls = refl;
  cut_again = refl;
  cut_12 = refl;
  cut_13 = refl;
  cut_empty = refl;
  open_end = refl;
  open_move = refl;
  closed_move = refl;
  closed_twice = refl;
  closed_and_on = refl;
  line_18 = refl;
  quad_18 = refl;
  curve_18 = refl;
  bar_18 = refl;
  twice_18 = refl;
  later_18 = refl;
  not_directly = refl;
  header_18 = refl;
  kind_18 = refl;
  length_18 = refl;
  body_18 = refl;
  first_18_12 = refl;
  first_11_18 = refl;
  earlier_12_18 = refl;
  earlier_18 = refl;
  first_7_18 = refl;
  first_18_13 = refl;
  band_18 = refl;
  bands_18 = refl;
  coarse = refl;
  coarser = refl;
  a_quad = refl;
  a_cubic = refl;
  band_up = refl;
  band_down = refl;
  band_diamonds = refl;
  up = refl;
  nonzero_twice = refl;
  even_odd_twice = refl;
  line_skipped = refl;
  quad_skipped = refl;
  cubic_skipped = refl;
  cancels = refl;
  left = refl;
  left_both = refl;
  left_cells = refl;
  no_width = refl;
  no_width_0 = refl;
  right = refl;
  below = refl;
  above = refl;
  before = refl;
  band_empty = refl;
  full_13 = refl;
  left_by = refl;
  left_by_close = refl;
  left_by_none = refl;
  closed_by_move = refl;
  closed_by_end = refl;
  left_by_move = refl;
  left_by_end = refl;
  rows_at_once = refl;
  row_0 = refl;
  row_1 = refl;
  room = refl;
  full_repeated = refl;
  bands_k1 = refl;
  bands_up = refl;
  bands_part = refl;
  at_once_is = refl;
  threes = refl;
  twos = refl;
  ones = refl;
  noughts = refl;
  twos_full = refl;
  first_full = refl;
  last_full = refl;
  both_full = refl;
  both_full_up = refl;
  second_at_once = refl;
  second_alone = refl;
  none_full = refl;
  last_cell = refl;
  counted = refl;
  bands_from_first = refl;
  bands_empty = refl;
  bands_few_words = refl;
  bands_short_mask = refl;
  bands_cut = refl;
  k11_box = refl;
  box_controls = refl;
  box_ends = refl;
  box_moved = refl;
  box_empty = refl;
  box_6 = refl;
  box_7 = refl;
  box_8 = refl;
  box_12 = refl;
  box_18 = refl;
  box_closed = refl;
  box_near = refl;
  box_control_12 = (refl, refl, refl, refl);
  box_zero = refl;
  box_tie = refl;
  box_tie_turned = refl;
  place_tie = refl;
  place_tie_turned = refl;
  place_top_left = refl;
  place_whole = refl;
  place_left = refl;
  place_farthest = refl;
  place_cut = refl;
  place_cut_empty = refl;
  place_empty = refl;
  place_empty_up = refl;
  place_empty_far = refl;
  place_empty_12 = refl;
  place_empty_12_y = refl;
  place_near_all = refl;
  place_control_12 = (refl, refl, refl, refl);
  place_6 = refl;
  place_7 = refl;
  place_9 = refl;
  place_18 = refl;
  place_closed = refl;
  place_12 = refl;
  place_near = refl;
}
