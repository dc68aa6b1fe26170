-- What the laws of proofs/ say of a cubic: how deep it is split, and that its points are those of its two halves.
use Rattle.std.specs.Prelude.{ℕ, zero, suc, ◌≡◌, Bool, true, false, List, [], ◌∷◌, ◌++◌, length, leb}
use Rattle.fixed.specs.declared.FixedPoint.{FixedPoint}
use Rattle.cubic.specs.Cubics.{Cubic, curved, start_half, end_half}

-- at most n splits deep
pub data Flat : ℕ → Cubic → Type 0 where
  flat : {n : ℕ} {k : Cubic} → curved k ≡ false → Flat n k
  split : {n : ℕ} {k : Cubic} → Flat n (start_half k) → Flat n (end_half k) → Flat (suc n) k

-- a curve's points are those of its two halves, the start's before the end's, n deep
unfoldable pub halves : ℕ → Cubic → List FixedPoint
unfolding curved
halves zero k = k.p0 ∷ []
halves (suc n) k = elim (curved k) [ true ↦ halves n (start_half k) ++ halves n (end_half k) | false ↦ k.p0 ∷ [] ]

-- whether the stack is met full, or the steps of `cubic_from` run out
unfoldable pub stuck : ℕ → Cubic → List Cubic → Bool
unfolding curved
stuck zero k ks = true
stuck (suc n) k ks =
    elim (curved k) [
      | true ↦ elim (leb (length ks) 40) [ true ↦ stuck n (start_half k) (end_half k ∷ ks) | false ↦ true ]
      | false ↦ elim ks [ [] ↦ false | (w ∷ ws) ↦ stuck n w ws ]
    ]

-- each of a cubic's four points
pub record Four (P : FixedPoint → Type 0) (k : Cubic) : Type 0 where
  pub end : P k.p0
  pub near_end : P k.p1
  pub near_start : P k.p2
  pub start : P k.p3

-- every point of a list
pub data Each (P : FixedPoint → Type 0) : List FixedPoint → Type 0 where
  none : Each P []
  more : {p : FixedPoint} {ps : List FixedPoint} → P p → Each P ps → Each P (p ∷ ps)

-- a list whose last point is b
pub data Ends (b : FixedPoint) : List FixedPoint → Type 0 where
  last : Ends b (b ∷ [])
  later : {p : FixedPoint} {ps : List FixedPoint} → Ends b ps → Ends b (p ∷ ps)

-- where lines from a to each point in turn end
unfoldable pub end_of : FixedPoint → List FixedPoint → FixedPoint
end_of a [] = a
end_of a (p ∷ ps) = end_of p ps
