-- What a format's limits say of a float: m has at most 24 digits, e is not below -149, a float with a fraction is small, and so is every near cut. Assumes nothing.
use mathlib.Core.Path.{◌≡◌, refl, sym, ap, ◌∙◌, subst}
use mathlib.Core.Logic.{◌⊎◌, inl, inr}
use Prim.Native.Nat.{ℕ, zero, suc, ◌+◌, ◌*◌, ◌/◌, ◌%◌, ◌^◌, ◌≤◌, ◌<◌}
use native.Mathlib.Nat.{le_trans, le_of_eq, mul-one, one-mul, mod-one, not-le_of_lt, lt_of_le_of_lt, div-le_self, eq-zero-or-pos, zero-mod, ne_of_gt}
use native.Mathlib.Omega.{arith}
use mathlib.Core.Bool.{Bool, true, false, not, cond, ◌&&◌}
use lib.Dec.{T, leb, ltb, eqb, ltb→lt, leb→le, eqb→eq, le→leb, lit<, lit≤}
use lib.IntN.{ℤ, pos, negsuc}
use lib.Ieee.{Float, nan, inf, fin, binary32, up, down, fits, lt, of_bits, in_float}
use lib.Ieee.Fits.{and_l, and_r}
use borrow.Author.Tests.{ltb-true, lt-ltb, le-ltb, eq-eqb, ne_eqb}
use Rattle.float.specs.declared.Cut.{Cut}
use Rattle.std.specs.Prelude.{Option, None, Some}
use Rattle.float.specs.Cut.{zero_f, near, sized_of}

pub small_m : (s : Bool) (m : ℕ) (e : ℤ) → T (fits binary32 (fin s m e)) → m < 2 ^ 24
unfolding fits
small_m s zero e t = lit< tt
small_m s (suc m) e t =
    ltb→lt (suc m) (2 ^ 24) (and_r (eqb (suc m % 2) 1) (ltb (suc m) (2 ^ 24)) (and_l (eqb (suc m % 2) 1 && ltb (suc m) (2 ^ 24)) (leb (down e) (2 ^ 149))
    (and_l (eqb (suc m % 2) 1 && ltb (suc m) (2 ^ 24) && leb (down e) (2 ^ 149)) (ltb (suc m * up e) (2 ^ 128 * down e)) t)))

pub low_e : (s : Bool) (m : ℕ) (e : ℤ) → T (fits binary32 (fin s m e)) → down e ≤ 2 ^ 149
unfolding fits
low_e s zero (pos a) t = lit≤ tt
low_e s zero (negsuc a) t = le_trans (le_of_eq (sym (one-mul (2 ^ suc a)) ∙ eqb→eq (1 * 2 ^ suc a) 1 t)) (lit≤ tt)
low_e s (suc m) e t =
    leb→le (down e) (2 ^ 149) (and_r (eqb (suc m % 2) 1 && ltb (suc m) (2 ^ 24)) (leb (down e) (2 ^ 149))
    (and_l (eqb (suc m % 2) 1 && ltb (suc m) (2 ^ 24) && leb (down e) (2 ^ 149)) (ltb (suc m * up e) (2 ^ 128 * down e)) t))

-- a float with a fraction is below 2 ^ 24
pub fraction_small : (s : Bool) (m : ℕ) (e : ℤ) → T (fits binary32 (fin s m e)) → 2 ^ 24 ≤ m * up e / down e → m * up e % down e ≡ 0
fraction_small s m (pos a) t h = mod-one (m * 2 ^ a)
fraction_small s m (negsuc a) t h = absurd (not-le_of_lt (lt_of_le_of_lt (le_trans (div-le_self (m * 1) (2 ^ suc a)) (le_of_eq (mul-one m))) (small_m s m (negsuc a) t)) h)

-- below zero is what has the sign and is not a zero
abbrev pub Below : Bool → ℕ → Bool
Below s a = cond s (not (eqb a 0)) false

pub below_zero : (s : Bool) (m : ℕ) (e : ℤ) → lt (fin s m e) zero_f ≡ Below s (m * up e)
unfolding lt of_bits
below_zero false m e = le-ltb (m * up e * 1) (0 * down e) (omega arith)
below_zero true m e = go (eq-zero-or-pos (m * up e))
  where
    go : (m * up e ≡ 0) ⊎ (0 < m * up e) → ltb 0 (m * up e * 1 + 0 * down e) ≡ not (eqb (m * up e) 0)
    go (inl z) = le-ltb 0 (m * up e * 1 + 0 * down e) (omega arith) ∙ ap not (sym (eq-eqb _ _ z))
    go (inr p) = lt-ltb 0 (m * up e * 1 + 0 * down e) (omega arith) ∙ ap not (sym (ne_eqb _ _ (ne_of_gt p)))

-- a float with a fraction has its sign shown by the comparison with zero
pub sign_shown : (s : Bool) (m : ℕ) (e : ℤ) → (m * up e % down e ≡ 0 → ⊥) → lt (fin s m e) zero_f ≡ s
unfolding lt of_bits
sign_shown false m e h = le-ltb (m * up e * 1) (0 * down e) (omega arith)
sign_shown true m e h = lt-ltb 0 (m * up e * 1 + 0 * down e) (go (eq-zero-or-pos (m * up e)))
  where
    go : (m * up e ≡ 0) ⊎ (0 < m * up e) → 0 < m * up e * 1 + 0 * down e
    go (inl z) = absurd (h (ap (λ (x : ℕ). x % down e) z ∙ zero-mod (down e)))
    go (inr p) = omega arith

-- ---- what is near is below 2 ^ 24
abbrev pub Within : Option Cut → Type 0
Within (Some cut) = cut.whole < 2 ^ 24
Within None = Unit

picked : (b r : Bool) (q : ℕ) → Within (cond (ltb q (2 ^ 24)) (near b q r) None)
picked b r q = go (ltb q (2 ^ 24)) refl
  where
    go : (u : Bool) → ltb q (2 ^ 24) ≡ u → Within (cond u (near b q r) None)
    go true h = ltb-true _ _ h
    go false h = tt

pub sized_within : (w : Float) (b : Bool) → Within (sized_of w b)
unfolding sized_of
sized_within nan b = tt
sized_within (inf s) b = tt
sized_within (fin s m e) b = picked b _ (m * up e / down e)

pub near_small : (w : Float) (x : Option Cut) (b : Bool) (cut : Cut) → x ≡ sized_of w b → x ≡ Some cut → cut.whole < 2 ^ 24
near_small w x b cut p q = subst Within (sym p ∙ q) (sized_within w b)

-- a number up to 2 ^ 24 is a float
pub whole_in_float : (n : ℕ) → n ≤ 2 ^ 24 → T (in_float binary32 (pos n))
unfolding in_float
whole_in_float n h = le→leb n (2 ^ 24) h
