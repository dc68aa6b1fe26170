-- Points stored in an array one after the other, from place i on: those below stay, and each is found where it was put.
use Prim.Native.Nat.{ℕ, zero, suc, ◌+◌, ◌≤◌, ◌<◌}
use mathlib.Core.Path.{◌≡◌, refl, ◌∙◌}
use mathlib.Core.List.{List, [], ◌∷◌}
use native.Mathlib.Omega.{arith}
use native.Mathlib.Nat.{add-zero, le_of_suc-le-suc}
use lib.ListN.{length, set, length-set}
use lib.Seq.{get_or-set_same, get_or-set_other}
use Rattle.fixed.specs.declared.FixedPoint.{FixedPoint}
use Rattle.fixed.specs.Split.{zero_point, point_of}

abbrev pub puts : List FixedPoint → ℕ → List FixedPoint → List FixedPoint
puts l i [] = l
puts l i (v ∷ vs) = puts (set l i v) (i + 1) vs

pub puts_low : (l : List FixedPoint) (i : ℕ) (vs : List FixedPoint) (j : ℕ) → j < i → point_of (puts l i vs) j ≡ point_of l j
puts_low l i [] j h = refl
puts_low l i (v ∷ vs) j h = puts_low (set l i v) (i + 1) vs j (omega arith) ∙ get_or-set_other l i j v zero_point (λ (e : j ≡ i). omega arith)

pub puts_at : (l : List FixedPoint) (i : ℕ) (vs : List FixedPoint) (j : ℕ) → i + length vs ≤ length l → j < length vs → point_of (puts l i vs) (i + j) ≡ point_of vs j
puts_at l i [] j h g = absurd (omega (arith, g))
puts_at l i (v ∷ vs) zero h g = rw add-zero (puts_low (set l i v) (i + 1) vs i (omega arith) ∙ get_or-set_same l i v zero_point (omega (arith, h)))
puts_at l i (v ∷ vs) (suc j) h g =
    let e : i + suc j ≡ i + 1 + j = omega arith in
    rw e (puts_at (set l i v) (i + 1) vs j (simp length-set (omega (arith, h))) (le_of_suc-le-suc g))
