-- A held number stands for the number: what the rules say of held numbers they say of the numbers themselves, as integers. The weights of a split
-- add up to its divisor, so the divisor times the bias comes off the sum, and a quotient that rounds down takes the bias off again.
-- Assumes nothing.
use mathlib.Core.Path.{◌≡◌, refl, sym, ap, ◌∙◌}
use mathlib.Core.Bool.{Bool, true, false, not, cond}
use mathlib.Core.Logic.{⊎_elim}
use Prim.Native.Nat.{ℕ, zero, suc, ◌+◌, ◌-◌, ◌*◌, ◌/◌, ◌%◌, ◌≤◌, ◌<◌}
use native.Mathlib.Nat.{zero-div, div-lt_iff_lt-mul, le-div_iff_mul-le, div-eq_of_lt-le, div-mul-le_self, lt-div-mul-add, add-mul, suc-mul}
use native.Mathlib.Omega.{arith}
use lib.Dec.{leb, eqb, lit≤}
use lib.IntN.{ℤ, pos, negsuc, sub_ℕ, ◌+ℤ◌, ◌*ℤ◌, neg_ℤ}
use lib.Signed.{quot_z, shr_z}
use lib.Ieee.{fin, up, down}
use borrow.Author.Tests.{leb-true}
use Rattle.float.specs.Differences.{◌⊖◌}
use Rattle.float.proofs.Differences.{which, ⊖_up, ⊖_down, ⊖_zero, ⊖_add, ⊖_mul}
use Rattle.std.specs.Prelude.{None}
use Rattle.fixed.specs.declared.Fix.{Fix}
use Rattle.fixed.specs.Fixed.{limit, bias, value_of, held_of, fix, within_limit, to_fixed, cell, fraction}

-- ---- a held number's integer
value_is : (n : ℕ) → value_of n ≡ n ⊖ bias
unfolding value_of ◌⊖◌
value_is n = refl

-- the quotient of what lies k whole d's and less than one more above zero
whole_of : (n k d : ℕ) → k * d ≤ n → n < k * d + d → n / d ≡ k
whole_of n k d l u = div-eq_of_lt-le d l (omega (arith, add-mul k 1 d))

-- a quotient that rounds down takes b off where d · b was
⊖_shr : (a b d : ℕ) → 0 < d → shr_z (a ⊖ (b * d)) d ≡ (a / d) ⊖ b
⊖_shr a b d D = ⊎_elim below above (which a (b * d))
  where
    q : ℕ
    q = a / d

    low : q * d ≤ a
    low = div-mul-le_self a d

    high : a < q * d + d
    high = lt-div-mul-add D

    below : a < b * d → shr_z (a ⊖ (b * d)) d ≡ q ⊖ b
    below h =
        let k = b - suc q in
        let l : q < b = (div-lt_iff_lt-mul D).1 h in
        let e : b * d ≡ k * d + suc q * d = ap (λ (x : ℕ). x * d) (omega arith) ∙ add-mul k (suc q) d in
        let f : suc q * d ≡ q * d + d = suc-mul q d in
        rw (⊖_down a (b * d) h, ⊖_down q b l, whole_of (b * d - suc a) k d (omega (arith, low, high)) (omega (arith, low, high)))

    above : b * d ≤ a → shr_z (a ⊖ (b * d)) d ≡ q ⊖ b
    above h =
        let k = q - b in
        let l : b ≤ q = (le-div_iff_mul-le D).1 h in
        let e : q * d ≡ k * d + b * d = ap (λ (x : ℕ). x * d) (omega arith) ∙ add-mul k b d in
        rw (⊖_up a (b * d) h, ⊖_up q b l, whole_of (a - b * d) k d (omega (arith, low, high)) (omega (arith, low, high)))

-- ---- the point rule: m · 2 ^ e · 256, cut toward zero
-- n, or −n where the sign s is set
abbrev pub signed : Bool → ℕ → ℤ
signed s n = cond s (neg_ℤ (pos n)) (pos n)

held_value : (s : Bool) (n : ℕ) → n ≤ bias → value_of (held_of s n) ≡ signed s n
held_value true zero h = value_is bias ∙ ⊖_up bias bias (lit≤ tt)
held_value true (suc n) h = value_is (bias - suc n) ∙ ⊖_down (bias - suc n) bias (omega arith) ∙ ap negsuc (omega arith)
held_value false n h = value_is (bias + n) ∙ ⊖_up (bias + n) bias (omega arith) ∙ ap pos (omega arith)

toward_zero : (s : Bool) (a d : ℕ) → signed s (a / d) ≡ quot_z (signed s a) (pos d)
toward_zero true zero d = rw (zero-div d)
toward_zero true (suc a) d = refl
toward_zero false a d = refl

limited : (s : Bool) (q : ℕ) (r : Bool) (n : ℕ) (c : Bool) → within_limit s q r ≡ fix n c → value_of n ≡ signed s q
limited s q r n c h = go (leb q limit) refl h
  where
    go : (u : Bool) → leb q limit ≡ u → cond u (fix (held_of s q) r) None ≡ fix n c → value_of n ≡ signed s q
    go true p h =
        let w : q ≤ limit = leb-true q limit p in
        let f : ◌≡◌ {A = Fix} (record { at = held_of s q; cut = r }) (record { at = n; cut = c }) = cc in
        let e : n ≡ held_of s q = sym (ap (λ (x : Fix). x.at) f) in
        ap value_of e ∙ held_value s q (omega arith)
    go false p h = let z : ◌≡◌ {A = ℕ} 0 1 = cc in absurd (omega arith)

pub fixed_value : (s : Bool) (m : ℕ) (e : ℤ) (n : ℕ) (c : Bool) → to_fixed (fin s m e) ≡ fix n c → value_of n ≡ quot_z (signed s (m * up e * 256)) (pos (down e))
unfolding to_fixed
fixed_value s m e n c h = limited s (m * up e * 256 / down e) (not (eqb (m * up e * 256 % down e) 0)) n c h ∙ toward_zero s (m * up e * 256) (down e)

-- ---- a cell is a quotient by 256, its fraction what is left
pub cell_value : (n : ℕ) → shr_z (value_of n) 256 ≡ sub_ℕ (cell n) 8192
unfolding ◌⊖◌
cell_value n = ap (λ (z : ℤ). shr_z z 256) (value_is n) ∙ ⊖_shr n 8192 256 (lit≤ tt)

pub fraction_value : (n : ℕ) → value_of n ≡ pos 256 *ℤ sub_ℕ (cell n) 8192 +ℤ pos (fraction n)
unfolding ◌⊖◌
fraction_value n =
    let z : pos (fraction n) ≡ fraction n ⊖ 0 = sym (⊖_zero (fraction n)) in
    let e : n ≡ 256 * cell n + fraction n = omega arith in
    value_is n
    ∙ ap (λ (k : ℕ). k ⊖ bias) e
    ∙ sym (⊖_add (256 * cell n) bias (fraction n) 0)
    ∙ ap (λ (k : ℤ). k +ℤ (fraction n ⊖ 0)) (sym (⊖_mul 256 (cell n) 8192))
    ∙ ap (λ (k : ℤ). pos 256 *ℤ (cell n ⊖ 8192) +ℤ k) (sym z)

-- ---- a split point is a sum, rounded down at its one division
pub half_value : (a b : ℕ) → value_of ((a + b) / 2) ≡ shr_z (value_of a +ℤ value_of b) 2
half_value a b =
    rw (value_is ((a + b) / 2), value_is a, value_is b, ⊖_add a bias b bias) (sym (⊖_shr (a + b) bias 2 (lit≤ tt)))

pub quarter_value : (a b c : ℕ) → value_of ((a + 2 * b + c) / 4) ≡ shr_z (value_of a +ℤ pos 2 *ℤ value_of b +ℤ value_of c) 4
quarter_value a b c =
    rw (
      value_is ((a + 2 * b + c) / 4),
      value_is a,
      value_is b,
      value_is c,
      ⊖_mul 2 b bias,
      ⊖_add a bias (2 * b) (2 * bias),
      ⊖_add (a + 2 * b) (bias + 2 * bias) c bias,
    )
    (sym (⊖_shr (a + 2 * b + c) bias 4 (lit≤ tt)))

pub eighth_value : (a b c d : ℕ) → value_of ((a + 3 * b + 3 * c + d) / 8) ≡ shr_z (value_of a +ℤ pos 3 *ℤ value_of b +ℤ pos 3 *ℤ value_of c +ℤ value_of d) 8
eighth_value a b c d =
    rw (
      value_is ((a + 3 * b + 3 * c + d) / 8),
      value_is a,
      value_is b,
      value_is c,
      value_is d,
      ⊖_mul 3 b bias,
      ⊖_mul 3 c bias,
      ⊖_add a bias (3 * b) (3 * bias),
      ⊖_add (a + 3 * b) (bias + 3 * bias) (3 * c) (3 * bias),
      ⊖_add (a + 3 * b + 3 * c) (bias + 3 * bias + 3 * bias) d bias,
    )
    (sym (⊖_shr (a + 3 * b + 3 * c + d) bias 8 (lit≤ tt)))
