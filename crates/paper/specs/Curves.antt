-- docs/RULES.md, "Lines, curves, cells": quads and cubics, by the points to which their lines go.
use Rattle.std.specs.Prelude.{ℕ, zero, suc, max, ◌/◌ as ◌/ℕ◌, Bool, true, false, cond, ◌&&◌, ◌||◌, List, [], ◌∷◌, ◌++◌, ltb, ℤ, nat_abs}
use Rattle.label.specs.declared.Label.{Label}
use Rattle.paper.specs.Numbers.{◌+ᶻ◌, ◌-ᶻ◌, ◌·◌, ◌/ᶻ◌}
use Rattle.paper.specs.Steps.{most_doublings, most_splits}
use Rattle.paper.specs.Floats.{Spot}
use Rattle.paper.specs.Lines.{Mark, past, ahead, line}

-- the points of a split: means of 2, 3 and 4 points, weighted, each one sum that is divided once and rounded down
abbrev pub mid : Spot → Spot → Spot
mid a b = record { x = (a.x +ᶻ b.x) /ᶻ 2; y = (a.y +ᶻ b.y) /ᶻ 2 }

abbrev pub mid4 : Spot → Spot → Spot → Spot
mid4 a b c = record { x = (a.x +ᶻ 2 · b.x +ᶻ c.x) /ᶻ 4; y = (a.y +ᶻ 2 · b.y +ᶻ c.y) /ᶻ 4 }

abbrev pub mid8 : Spot → Spot → Spot → Spot → Spot
mid8 a b c d = record {
  x = (a.x +ᶻ 3 · b.x +ᶻ 3 · c.x +ᶻ d.x) /ᶻ 8;
  y = (a.y +ᶻ 3 · b.y +ᶻ 3 · c.y +ᶻ d.y) /ᶻ 8;
}

abbrev pub bend : Spot → Spot → Spot → ℕ  -- how far a quad's control point c is off, on the worse axis
bend a c b = max (nat_abs (a.x +ᶻ b.x -ᶻ 2 · c.x)) (nat_abs (a.y +ᶻ b.y -ᶻ 2 · c.y))

-- a quad starts as one line; while the bend is above 64 it is quartered and the lines double: how often
unfoldable pub doublings : ℕ → ℕ → ℕ
doublings zero d = 0
doublings (suc n) d = cond (ltb 64 d) (suc (doublings n (d /ℕ 4))) 0

-- the quad from a to b with the control point c, halved n times over
unfoldable pub quad_points : ℕ → Spot → Spot → Spot → List Spot
quad_points zero a c b = b ∷ []
quad_points (suc n) a c b = quad_points n a (mid a c) (mid4 a c b) ++ quad_points n (mid4 a c b) (mid c b) b

abbrev pub bent : ℤ → ℤ → ℤ → ℤ → Bool  -- a cubic is not flat on an axis
bent p0 p1 p2 p3 = ltb 128 (nat_abs (2 · p0 -ᶻ 3 · p1 +ᶻ p3)) || ltb 128 (nat_abs (p0 -ᶻ 3 · p2 +ᶻ 2 · p3))

unfoldable pub curved : Spot → Spot → Spot → Spot → Bool  -- on either axis
curved p0 p1 p2 p3 = bent p0.x p1.x p2.x p3.x || bent p0.y p1.y p2.y p3.y

-- the cubic from p3 to its end p0: while it is curved it is halved, and the half at the start comes first
unfoldable pub cubic_points : ℕ → Spot → Spot → Spot → Spot → List Spot
cubic_points zero p0 p1 p2 p3 = p0 ∷ []
cubic_points (suc n) p0 p1 p2 p3 =
    let m = mid8 p0 p1 p2 p3 in
    elim (curved p0 p1 p2 p3) [
      | true ↦ cubic_points n m (mid4 p1 p2 p3) (mid p2 p3) p3 ++ cubic_points n p0 (mid p0 p1) (mid4 p0 p1 p2) m
      | false ↦ p0 ∷ []
    ]

unfoldable pub along : Label → Spot → List Spot → List Mark  -- lines from a to each point in turn
along l a [] = []
along l a (b ∷ bs) = line l a b ++ along l b bs

-- a curve with every point past the band, or every point ahead of it, makes no mark
unfoldable pub quad : Label → Spot → Spot → Spot → List Mark
quad l a c b =
    cond (past l a && past l c && past l b || ahead l a && ahead l c && ahead l b) []
    (along l a (quad_points (doublings most_doublings (bend a c b)) a c b))

unfoldable pub cubic : Label → Spot → Spot → Spot → Spot → List Mark
cubic l a c d b =
    cond (past l a && past l c && past l d && past l b || ahead l a && ahead l c && ahead l d && ahead l b) []
    (along l a (cubic_points most_splits b d c a))
