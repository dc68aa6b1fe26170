-- docs/RULES.md, "Lines, curves, cells": how a curve is split. A split point is a sum, divided last and rounded down.
-- The weights of a sum add up to its divisor, so the sums of held numbers are those of the numbers, held.
use Rattle.std.specs.Prelude.{ℕ, ◌+◌, ◌*◌, ◌/◌, ◌≤◌, ◌<◌, List, [], ◌∷◌, get_or}
use Rattle.fixed.specs.declared.FixedPoint.{FixedPoint}

abbrev pub zero_point : FixedPoint
zero_point = record { x = 0; y = 0 }

abbrev pub point_of : List FixedPoint → ℕ → FixedPoint
point_of l i = get_or l i zero_point

-- (p0+p1)/2
abbrev pub mid : FixedPoint → FixedPoint → FixedPoint
mid a b = record { x = (a.x + b.x) / 2; y = (a.y + b.y) / 2 }

-- (p0+2p1+p2)/4
abbrev pub mid4 : FixedPoint → FixedPoint → FixedPoint → FixedPoint
mid4 a b c = record { x = (a.x + 2 * b.x + c.x) / 4; y = (a.y + 2 * b.y + c.y) / 4 }

-- (p0+3p1+3p2+p3)/8
abbrev pub mid8 : FixedPoint → FixedPoint → FixedPoint → FixedPoint → FixedPoint
mid8 a b c d = record { x = (a.x + 3 * b.x + 3 * c.x + d.x) / 8; y = (a.y + 3 * b.y + 3 * c.y + d.y) / 8 }

unfoldable pub split_quad : List FixedPoint → List FixedPoint
split_quad l =
    point_of l 0
    ∷ mid (point_of l 0) (point_of l 1)
    ∷ mid4 (point_of l 0) (point_of l 1) (point_of l 2)
    ∷ mid (point_of l 1) (point_of l 2)
    ∷ point_of l 2
    ∷ []

-- four points go in by value, seven come out
unfoldable pub split_cubic : List FixedPoint → List FixedPoint
split_cubic l =
    point_of l 0
    ∷ mid (point_of l 0) (point_of l 1)
    ∷ mid4 (point_of l 0) (point_of l 1) (point_of l 2)
    ∷ mid8 (point_of l 0) (point_of l 1) (point_of l 2) (point_of l 3)
    ∷ mid4 (point_of l 1) (point_of l 2) (point_of l 3)
    ∷ mid (point_of l 2) (point_of l 3)
    ∷ point_of l 3
    ∷ []

-- ---- in range
pub record Between (lo hi n : ℕ) : Type 0 where
  pub low : lo ≤ n
  pub high : n ≤ hi

-- both parts of a point
pub record Within (lo hi : ℕ) (p : FixedPoint) : Type 0 where
  pub x_in : Between lo hi p.x
  pub y_in : Between lo hi p.y

-- the first n points of a list
pub record Every (P : FixedPoint → Type 0) (n : ℕ) (l : List FixedPoint) : Type 0 where
  pub at : (i : ℕ) → i < n → P (point_of l i)
