-- Two fractions of the same size have the same whole part and both leave a rest, or none. Assumes nothing.
use mathlib.Core.Path.{◌≡◌, refl, sym, ap, ◌∙◌}
use Prim.Native.Nat.{ℕ, ◌+◌, ◌*◌, ◌/◌, ◌%◌, ◌<◌}
use native.Mathlib.Nat.{mul_right_comm, mul-mod_left, eq_of_mul-eq-mul_right, div-add-mod', add-zero, div-lt_iff_lt-mul}
use native.Mathlib.Omega.{arith}
use mathlib.Core.Bool.{Bool, true, false}
use lib.Dec.{eqb}
use borrow.Author.Tests.{eqb-true, eqb-false, eq-eqb, ne_eqb}

zero_if : (a b c d : ℕ) → 0 < b → 0 < d → a * d ≡ c * b → a % b ≡ 0 → c % d ≡ 0
zero_if a b c d B D h r =
    let q : a ≡ a / b * b = sym (div-add-mod' a b) ∙ ap (λ (x : ℕ). a / b * b + x) r ∙ add-zero (a / b * b) in
    let e : a / b * d ≡ c = eq_of_mul-eq-mul_right b B (a / b * d) c (mul_right_comm (a / b) d b ∙ ap (λ (x : ℕ). x * d) (sym q) ∙ h) in
    ap (λ (x : ℕ). x % d) (sym e) ∙ mul-mod_left (a / b) d

pub same_rest : (a b c d : ℕ) → 0 < b → 0 < d → a * d ≡ c * b → eqb (a % b) 0 ≡ eqb (c % d) 0
same_rest a b c d B D h = go (eqb (a % b) 0) refl
  where
    go : (u : Bool) → eqb (a % b) 0 ≡ u → eqb (a % b) 0 ≡ eqb (c % d) 0
    go true p = p ∙ sym (eq-eqb (c % d) 0 (zero_if a b c d B D h (eqb-true _ _ p)))
    go false p = p ∙ sym (ne_eqb (c % d) 0 (λ q. eqb-false _ _ p (zero_if c d a b D B (sym h) q)))

pub zero_size : (a d : ℕ) → 0 < d → a ≡ 0 → a / d ≡ 0
zero_size a d h z = let w : a / d < 1 = (div-lt_iff_lt-mul h).1 (omega arith) in omega arith
