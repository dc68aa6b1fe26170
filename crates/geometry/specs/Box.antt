-- docs/RULES.md, "Bounds and placement": the box around points. Zeros of both signs are a tie.
use Rattle.std.specs.Prelude.{Bool, cond, ◌&&◌, ◌||◌, List, [], ◌∷◌, Float}
use Rattle.std.specs.Float.{binary32}
use Rattle.std.specs.Float.Ieee.{lt, le, sub}
use Rattle.float.specs.Cut.{zero_f}
use Rattle.geometry.specs.declared.Point.{Point}
use Rattle.geometry.specs.declared.Bounds.{Bounds}
use Rattle.geometry.specs.Affine.{point_of}

abbrev pub bounds_of : Point → Point → Bounds
bounds_of a b = record { min = a; max = b }

-- the box of one point
abbrev pub box_at : Point → Bounds
box_at p = bounds_of p p

-- of equal parts the first stays
abbrev pub lower : Float → Float → Float
lower a b = cond (lt b a) b a

abbrev pub upper : Float → Float → Float
upper a b = cond (lt a b) b a

-- the box around one point more
abbrev pub around : Bounds → Point → Bounds
around b p = record {
  min = record { x = lower b.min.x p.x; y = lower b.min.y p.y };
  max = record { x = upper b.max.x p.x; y = upper b.max.y p.y };
}

unfoldable pub box_from : Bounds → List Point → Bounds
unfolding lt
box_from b [] = b
box_from b (p ∷ ps) = box_from (around b p) ps

-- without points (0,0) to (0,0); else it starts at the first point
unfoldable pub box_of : List Point → Bounds
unfolding box_from
box_of [] = box_at (point_of zero_f zero_f)
box_of (p ∷ ps) = box_from (box_at p) ps

-- nothing inside: an end is not below the other
abbrev pub empty_of : Bounds → Bool
empty_of b = le b.max.x b.min.x || le b.max.y b.min.y

abbrev pub width_of : Bounds → Float
width_of b = sub binary32 b.max.x b.min.x

abbrev pub height_of : Bounds → Float
height_of b = sub binary32 b.max.y b.min.y

-- strictly inside
abbrev pub inside_of : Bounds → Point → Bool
inside_of b p = lt b.min.x p.x && (lt p.x b.max.x && (lt b.min.y p.y && lt p.y b.max.y))
