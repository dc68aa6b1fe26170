-- docs/RULES.md, "Lines, curves, cells": the points to which a cubic's lines go, and the marks that they make.
use Rattle.std.specs.Prelude.{ℕ, zero, suc, ◌+◌, ◌*◌, Bool, true, false, cond, ◌&&◌, ◌||◌, List, [], ◌∷◌, length, leb, ltb}
use Rattle.fixed.specs.declared.FixedPoint.{FixedPoint}
use Rattle.fixed.specs.Fixed.{apart}
use Rattle.fixed.specs.Split.{point_of, mid, mid4, mid8}
use Rattle.pen.specs.declared.Frame.{Frame}
use Rattle.pen.specs.Marks.{Mark}
use Rattle.line.specs.Lines.{past, ahead, along}

-- a cubic: p0 is the end, p3 the start
pub record Cubic : Type 0 where
  pub p0 : FixedPoint
  pub p1 : FixedPoint
  pub p2 : FixedPoint
  pub p3 : FixedPoint

-- from four points by value
abbrev pub cubic_of : List FixedPoint → Cubic
cubic_of l = record { p0 = point_of l 0; p1 = point_of l 1; p2 = point_of l 2; p3 = point_of l 3 }

abbrev pub far : ℕ → ℕ → Bool
far a b = ltb 128 (apart a b)

-- not nearly straight along one axis: |2p0 − 3p1 + p3| or |p0 − 3p2 + 2p3| is above 128
unfoldable pub bent : ℕ → ℕ → ℕ → ℕ → Bool
bent p0 p1 p2 p3 = far (2 * p0 + p3) (3 * p1) || far (p0 + 2 * p3) (3 * p2)

-- along x or along y
unfoldable pub curved : Cubic → Bool
unfolding bent
curved k = bent k.p0.x k.p1.x k.p2.x k.p3.x || bent k.p0.y k.p1.y k.p2.y k.p3.y

-- a split's half at the start, and its half at the end
abbrev pub start_half : Cubic → Cubic
start_half k = record { p0 = mid8 k.p0 k.p1 k.p2 k.p3; p1 = mid4 k.p1 k.p2 k.p3; p2 = mid k.p2 k.p3; p3 = k.p3 }

abbrev pub end_half : Cubic → Cubic
end_half k = record { p0 = k.p0; p1 = mid k.p0 k.p1; p2 = mid4 k.p0 k.p1 k.p2; p3 = mid8 k.p0 k.p1 k.p2 k.p3 }

-- A curved cubic is split, and the start's half comes before the end's: k is at hand and ks wait, the next one first.
-- The stack has 129 places, four for k and three for each that waits: 7 are left for a split while 40 or fewer wait.
-- Where fewer are left, a single line to the end of the whole curve is the last one.
-- n only bounds the steps: 1024 suffice, and the stack is never that full, for every curve in reach (proofs/Run.antt, `never_stuck`).
unfoldable pub cubic_from : ℕ → FixedPoint → Cubic → List Cubic → List FixedPoint
unfolding curved
cubic_from zero to k ks = to ∷ []
cubic_from (suc n) to k ks =
    elim (curved k) [
      | true ↦ elim (leb (length ks) 40) [ true ↦ cubic_from n to (start_half k) (end_half k ∷ ks) | false ↦ to ∷ [] ]
      | false ↦ k.p0 ∷ elim ks [ [] ↦ [] | (w ∷ ws) ↦ cubic_from n to w ws ]
    ]

-- the cubic from a to b with the control points c and d
abbrev pub cubic : FixedPoint → FixedPoint → FixedPoint → FixedPoint → Cubic
cubic a c d b = record { p0 = b; p1 = d; p2 = c; p3 = a }

-- the points to which its lines go
unfoldable pub cubic_points : FixedPoint → FixedPoint → FixedPoint → FixedPoint → List FixedPoint
unfolding cubic_from
cubic_points a c d b = cubic_from 1024 b (cubic a c d b) []

-- every point past the band, and every point before it
abbrev pub all_past : Frame → FixedPoint → FixedPoint → FixedPoint → FixedPoint → Bool
all_past f a c d b = past f a.y && past f c.y && past f d.y && past f b.y

abbrev pub all_ahead : Frame → FixedPoint → FixedPoint → FixedPoint → FixedPoint → Bool
all_ahead f a c d b = ahead f a.y && ahead f c.y && ahead f d.y && ahead f b.y

-- A curve whose points are all past the band, or all before it, makes no marks; the pen point moves to its end.
unfoldable pub cubic_marks : Frame → FixedPoint → FixedPoint → FixedPoint → FixedPoint → List Mark
unfolding along cubic_points
cubic_marks f a c d b = cond (all_past f a c d b || all_ahead f a c d b) [] (along f a (cubic_points a c d b))
