-- docs/RULES.md, "Lines, curves, cells": a quad from a to b, with the control point c.
use Rattle.std.specs.Prelude.{ℕ, zero, suc, ◌+◌, ◌*◌, ◌/◌, max, Bool, cond, ◌&&◌, ◌||◌, List, [], ◌∷◌, ◌++◌, ltb}
use Rattle.fixed.specs.declared.FixedPoint.{FixedPoint}
use Rattle.fixed.specs.Fixed.{apart}
use Rattle.fixed.specs.Split.{mid, mid4}
use Rattle.pen.specs.declared.Frame.{Frame}
use Rattle.pen.specs.Marks.{Mark}
use Rattle.line.specs.Lines.{past, ahead, along}

-- the larger |p0 + p2 − 2c|
abbrev pub bend : FixedPoint → FixedPoint → FixedPoint → ℕ
bend a c b = max (apart (a.x + b.x) (2 * c.x)) (apart (a.y + b.y) (2 * c.y))

-- One line, and twice as many each time that `bend`, while above 64, falls to a quarter.
-- So often they double from the number d, at most n times.
unfoldable pub doublings : ℕ → ℕ → ℕ
doublings zero d = 0
doublings (suc n) d = cond (ltb 64 d) (suc (doublings n (d / 4))) 0

-- the points to which the lines go: the quad, halved n times over
unfoldable pub quad_halves : ℕ → FixedPoint → FixedPoint → FixedPoint → List FixedPoint
quad_halves zero a c b = b ∷ []
quad_halves (suc n) a c b = quad_halves n a (mid a c) (mid4 a c b) ++ quad_halves n (mid4 a c b) (mid c b) b

-- 16 steps are enough: within reach the lines double 8 times at most (`eight` and `from-eight` of proofs/Doubling.antt)
unfoldable pub quad_points : FixedPoint → FixedPoint → FixedPoint → List FixedPoint
unfolding doublings quad_halves
quad_points a c b = quad_halves (doublings 16 (bend a c b)) a c b

-- every point past the band, and every point before it
abbrev pub all_past : Frame → FixedPoint → FixedPoint → FixedPoint → Bool
all_past f a c b = past f a.y && past f c.y && past f b.y

abbrev pub all_ahead : Frame → FixedPoint → FixedPoint → FixedPoint → Bool
all_ahead f a c b = ahead f a.y && ahead f c.y && ahead f b.y

-- A quad whose points are all past the band, or all before it, makes no marks; the pen point moves to its end.
unfoldable pub quad_marks : Frame → FixedPoint → FixedPoint → FixedPoint → List Mark
unfolding along quad_points
quad_marks f a c b = cond (all_past f a c b || all_ahead f a c b) [] (along f a (quad_points a c b))
