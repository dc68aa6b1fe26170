-- docs/RULES.md, "Bounds and placement".
use Rattle.std.specs.Prelude.{ℕ, ◌*◌ as ◌*ℕ◌, ◌%◌ as ◌%ℕ◌, Bool, true, cond, List, [], ◌∷◌, eqb, ℤ, pos, negsuc, neg_ℤ, Float}
use Rattle.std.specs.Float.{nan, inf, fin, binary32}
use Rattle.std.specs.Float.Ieee.{up, down, lt, neg, of_int}
use Rattle.geometry.specs.declared.Point.{Point}
use Rattle.geometry.specs.declared.Transform.{Transform}
use Rattle.geometry.specs.declared.Bounds.{Bounds}
use Rattle.geometry.specs.declared.Origin.{Origin}
use Rattle.geometry.specs.declared.Origin.TheVariants.{TopLeft, BottomLeft}
use Rattle.command.specs.declared.Command.{Command}
use Rattle.placing.specs.declared.BoxNumbers.{BoxNumbers}
use Rattle.placing.specs.declared.PlaceNumbers.{PlaceNumbers}
use Rattle.paper.specs.Numbers.{+0, ◌+ᶻ◌, ◌-ᶻ◌, ◌/ᶻ◌}
use Rattle.paper.specs.Floats.{shifted, points_in, cut_in, passes, zero}
use Rattle.paper.specs.TurnedAway.{Read, path, faulty, read_list}

abbrev pub lower : Float → Float → Float  -- of a tie, zeros of either sign included, the first stays
lower a b = cond (lt b a) b a

abbrev pub upper : Float → Float → Float
upper a b = cond (lt a b) b a

unfoldable pub box_from : Point → Point → List Point → Bounds  -- the box from a to b, stretched to hold the points
box_from a b [] = record { min = a; max = b }
box_from a b (p ∷ ps) =
    box_from
    (record { x = lower a.x p.x; y = lower a.y p.y })
    (record { x = upper b.x p.x; y = upper b.y p.y })
    ps

abbrev pub origin : Point
origin = record { x = zero; y = zero }

unfoldable pub box_of : List Point → Bounds  -- it starts at the first point; with none it is (0,0) to (0,0)
box_of [] = box_from origin origin []
box_of (p ∷ ps) = box_from p p ps

abbrev pub boxed : ℕ → ℕ → Bounds → BoxNumbers
boxed n i b = record {
  number = n;
  index = i;
  min_x = b.min.x;
  min_y = b.min.y;
  max_x = b.max.x;
  max_y = b.max.y;
}

-- 6 to 12 and 18 for the list with the offset (0,0), which is not added to the box; refused, all of the box is 0
unfoldable pub bounds : Transform → List ℕ → BoxNumbers
bounds t s =
    elim (read_list t origin s) [
      | path cs ↦ boxed 0 0 (box_of (points_in t cs))
      | faulty number index ↦ boxed number index (box_of [])
    ]

-- rounded down to a whole number: a finite float is m · 2^e, or −m · 2^e where its sign is set
unfoldable pub floor : Float → ℤ
floor nan = +0
floor (inf sign) = +0
floor (fin sign m e) = let n = pos (m *ℕ up e) in cond sign (neg_ℤ n) n /ᶻ down e

abbrev pub ceil : Float → ℤ  -- rounded up
ceil v = neg_ℤ (floor (neg v))

abbrev pub whole : Float → Bool
whole nan = true
whole (inf sign) = true
whole (fin sign m e) = eqb (m *ℕ up e %ℕ down e) 0

-- the new offset: the minimum rounded down, its sign turned. What is whole is not rounded, so that a zero has its sign
abbrev pub negated : Float → Float
negated v = neg (cond (whole v) v (of_int binary32 (floor v)))

abbrev pub extent : Float → Float → ℕ  -- width or height
extent a b = elim (ceil b -ᶻ floor a) [ pos n ↦ n | negsuc n ↦ 0 ]

abbrev pub raised : Origin → ℤ → ℕ → ℤ  -- the top: for a bottom-left origin it lies the height further
raised TopLeft y h = y
raised BottomLeft y h = y +ᶻ pos h

-- for the minimum a, the maximum b and so many cut coordinates
abbrev pub laid : Origin → Point → Point → ℕ → PlaceNumbers
laid g a b cut = record {
  number = 0;
  index = 0;
  offset_x = negated a.x;
  offset_y = negated a.y;
  left = floor a.x;
  top = raised g (floor a.y) (extent a.y b.y);
  width = extent a.x b.x;
  height = extent a.y b.y;
  cut = cut;
}

abbrev pub unlaid : ℕ → ℕ → PlaceNumbers  -- refused: all but number and index is 0
unlaid n i = record {
  number = n;
  index = i;
  offset_x = zero;
  offset_y = zero;
  left = +0;
  top = +0;
  width = 0;
  height = 0;
  cut = 0;
}

abbrev pub around : Origin → Point → Bounds → ℕ → PlaceNumbers  -- the offset is added to the box
around g o b cut = laid g (shifted o b.min) (shifted o b.max) cut

-- 6 to 12 and 18 for the list with its offset; of an empty list the offset alone must pass the point rule, or it is 12
unfoldable pub placement_of : Origin → Transform → Point → Read → PlaceNumbers
placement_of g t o (faulty number index) = unlaid number index
placement_of g t o (path []) = cond (passes o) (around g o (box_of []) 0) (unlaid 12 0)
placement_of g t o (path (c ∷ cs)) = around g o (box_of (points_in t (c ∷ cs))) (cut_in t o (c ∷ cs))

unfoldable pub placement : Origin → Transform → Point → List ℕ → PlaceNumbers
placement g t o s = placement_of g t o (read_list t o s)
