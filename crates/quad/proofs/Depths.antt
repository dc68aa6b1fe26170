-- The depths of the parts on the stack: they rise from the top down, so the lines that are left are the sum of different powers of two, the lowest one the top's.
use Prim.Native.Nat.{ℕ, zero, suc, ◌+◌, ◌-◌, ◌*◌, ◌%◌, ◌^◌, ◌≤◌}
use mathlib.Core.Path.{◌≡◌, refl, ap, ◌∙◌}
use mathlib.Core.List.{List, [], ◌∷◌}
use native.Mathlib.Omega.{arith}
use native.Mathlib.Nat.{pow-suc, mul_assoc, mul_right_comm}
use lib.ListN.{length}
use lib.Pow.{pow-add, pow_mono}

-- from d on, rising and below 8
pub data Rising : ℕ → List ℕ → Type 0 where
  none : {d : ℕ} → d ≤ 8 → Rising d []
  more : {d e : ℕ} {es : List ℕ} → d ≤ e → Rising (suc e) es → Rising d (e ∷ es)

-- so there are few
pub rising_few : (d : ℕ) (es : List ℕ) → Rising d es → d + length es ≤ 8
rising_few d [] (none h) = omega (arith, h)
rising_few d (e ∷ es) (more h r) = let g = rising_few (suc e) es r in omega (arith, h, g)

pub rising_from : (d : ℕ) (es : List ℕ) → Rising (suc d) es → Rising d es
rising_from d [] (none h) = none {d = d} (omega (arith, h))
rising_from d (e ∷ es) (more h r) = more {d = d} {e = e} {es = es} (omega (arith, h)) r

-- the lines of parts of these depths
unfoldable pub lines : List ℕ → ℕ
lines [] = 0
lines (e ∷ es) = 2 ^ e + lines es

-- at most 256 with those of a part of depth d
pub lines_few : (d : ℕ) (es : List ℕ) → Rising d es → 2 ^ d + lines es ≤ 256
unfolding lines
lines_few d [] (none h) = omega (arith, pow_mono h)
lines_few d (e ∷ es) (more h r) = omega (arith, pow_mono h, pow-suc 2 e, lines_few (suc e) es r)

pub odd_multiple : (e n k : ℕ) → n ≡ 2 ^ suc e * k → 2 ^ e + n ≡ 2 ^ e * (2 * k + 1)
odd_multiple e n k h = omega (arith, h, ap (λ (x : ℕ). x * k) (pow-suc 2 e), mul_assoc (2 ^ e) 2 k)

-- and a multiple of 2 ^ d
pub lines_by : (d : ℕ) (es : List ℕ) → Rising d es → (k : ℕ) × (lines es ≡ 2 ^ d * k)
unfolding lines
lines_by d [] (none h) = (0, omega arith)
lines_by d (e ∷ es) (more h r) =
    let g = lines_by (suc e) es r in
    let u : 2 ^ e ≡ 2 ^ d * 2 ^ (e - d) = ap (λ (x : ℕ). 2 ^ x) (omega (arith, h)) ∙ pow-add 2 d (e - d) in
    (2 ^ (e - d) * (2 * g.0 + 1), odd_multiple e (lines es) g.0 g.1 ∙ ap (λ (x : ℕ). x * (2 * g.0 + 1)) u ∙ mul_assoc (2 ^ d) (2 ^ (e - d)) (2 * g.0 + 1))

-- a number 2 ^ t (2 m + 1) is even where t is not 0
pub even_deep : (t m n : ℕ) → n ≡ 2 ^ t * (2 * m + 1) → n % 2 ≡ 0 → (e : ℕ) × (t ≡ suc e)
even_deep zero m n h g = absurd (omega arith)
even_deep (suc e) m n h g = (e, refl)

pub half_odd : (e m : ℕ) → 2 ^ suc e * (2 * m + 1) ≡ 2 ^ e * (2 * m + 1) * 2
half_odd e m = ap (λ (x : ℕ). x * (2 * m + 1)) (pow-suc 2 e) ∙ mul_right_comm (2 ^ e) 2 (2 * m + 1)

pub odd_flat : (t m n : ℕ) → n ≡ 2 ^ t * (2 * m + 1) → (n % 2 ≡ 0 → ⊥) → t ≡ 0
odd_flat zero m n h g = refl
odd_flat (suc e) m n h g = absurd (g (omega (arith, h, half_odd e m)))
