-- What `sized_of` is of a float that is read from the fields of a bit pattern. Assumes nothing.
use mathlib.Core.Path.{◌≡◌, refl, sym, ap, ◌∙◌, subst}
use Prim.Native.Nat.{ℕ, zero, suc, ◌+◌, ◌-◌, ◌*◌, ◌/◌, ◌%◌, ◌^◌, ◌≤◌, ◌<◌}
use native.Mathlib.Nat.{le_trans, le_of_eq, lt_of_lt_of_le, lt_of_le_of_lt, mul-one, one-mul, mul_assoc, mul_comm, mul-le-mul_left, mul-le-mul_right, mul-pos, le-add_right, add_comm, le-div_iff_mul-le, div-lt_iff_lt-mul, mod-eq_of_lt, mod-mod_of_dvd, dvd-mul_right, ne_of_gt, div-le_self}
use native.Mathlib.Omega.{arith}
use mathlib.Core.Bool.{Bool, true, false, not, cond}
use lib.Dec.{T, leb, ltb, eqb, lit<, lit≤}
use lib.Arith.{lt_of_le-ne}
use lib.Pow.{pow-add, pow_pos, pow_mono, pow-lt, shl_lt}
use lib.Ieee.{Float, nan, inf, fin, binary32, up, down, of_fields, of_bits, to_bits, fits, is_nan, ne}
use lib.Ieee.Compare.{nan_differs}
use lib.Ieee.Fits.{down_pos}
use lib.Ieee.Bits.{of_bits-to_bits}
use lib.Ieee.Exact.{HasValue, odd_sign}
use lib.Ieee.Nearest.{div_same}
use borrow.Author.Tests.{lt-ltb, le-ltb, ne_eqb, eqb-true, eqb-false}
use Rattle.float.proofs.Fractions.{same_rest}
use Rattle.std.specs.Prelude.{None}
use Rattle.float.specs.Cut.{near, sized_of}

-- ---- from a value to the cut
pub of_value : (w : Float) (s b : Bool) (num den : ℕ) → 0 < den → HasValue w s num den → sized_of w b ≡ cond (ltb (num / den) (2 ^ 24)) (near b (num / den) (not (eqb (num % den) 0))) None
unfolding sized_of
of_value nan s b num den D v = absurd v
of_value (inf t) s b num den D v = absurd v
of_value (fin t m e) s b num den D v =
    ap (λ (n : ℕ). cond (ltb n (2 ^ 24)) (near b n (not (eqb (m * up e % down e) 0))) None) (div_same (m * up e) (down e) num den (down_pos e) D v.1)
    ∙ ap (λ (r : Bool). cond (ltb (num / den) (2 ^ 24)) (near b (num / den) (not r)) None) (same_rest (m * up e) (down e) num den (down_pos e) D v.1)

near_value : (w : Float) (s b : Bool) (num den : ℕ) → 0 < den → HasValue w s num den → num / den < 2 ^ 24 → sized_of w b ≡ near b (num / den) (not (eqb (num % den) 0))
near_value w s b num den D v h = of_value w s b num den D v ∙ ap (λ (u : Bool). cond u (near b (num / den) (not (eqb (num % den) 0))) None) (lt-ltb _ _ h)

far_value : (w : Float) (s b : Bool) (num den : ℕ) → 0 < den → HasValue w s num den → 2 ^ 24 ≤ num / den → sized_of w b ≡ None
far_value w s b num den D v h = of_value w s b num den D v ∙ ap (λ (u : Bool). cond u (near b (num / den) (not (eqb (num % den) 0))) None) (le-ltb _ _ h)

-- ---- the fields' values, in smallest values
low_value : (s : Bool) (t : ℕ) → HasValue (of_fields binary32 s 0 t) s (t * 2 ^ 0) (2 ^ 149)
unfolding of_fields
low_value s t = odd_sign 24 s t 0 149

value : (s : Bool) (x t : ℕ) → suc x < 255 → HasValue (of_fields binary32 s (suc x) t) s ((2 ^ 23 + t) * 2 ^ x) (2 ^ 149)
unfolding of_fields
value s x t h =
    subst (λ (u : Bool). HasValue (cond u (cond (eqb t 0) (inf s) nan) (lib.Ieee.odd 24 s (2 ^ 23 + t) x 149)) s ((2 ^ 23 + t) * 2 ^ x) (2 ^ 149))
    (sym (ne_eqb (suc x) 255 (λ e. omega arith)))
    (odd_sign 24 s (2 ^ 23 + t) x 149)

-- ---- the three ranges of the exponent's field
top_far : (s b : Bool) (t : ℕ) → sized_of (of_fields binary32 s 255 t) b ≡ None
unfolding of_fields sized_of
top_far s b t = go (eqb t 0)
  where
    go : (u : Bool) → sized_of (cond u (inf s) nan) b ≡ None
    go true = refl
    go false = refl

pub high : (s b : Bool) (x t : ℕ) → 150 < x → x < 256 → sized_of (of_fields binary32 s x t) b ≡ None
high s b zero t h k = absurd (omega arith)
high s b (suc x) t h k = go (eqb (suc x) 255) refl
  where
    go : (u : Bool) → eqb (suc x) 255 ≡ u → sized_of (of_fields binary32 s (suc x) t) b ≡ None
    go true e = ap (λ (y : ℕ). sized_of (of_fields binary32 s y t) b) (eqb-true (suc x) 255 e) ∙ top_far s b t
    go false e =
        let y : suc x < 255 = lt_of_le-ne (omega arith) (eqb-false (suc x) 255 e) in
        let z : 150 ≤ x = omega arith in
        far_value _ s b ((2 ^ 23 + t) * 2 ^ x) (2 ^ 149) (pow_pos 149) (value s x t y)
        ((le-div_iff_mul-le (pow_pos 149)).1 (le_trans (mul-le-mul_left (2 ^ 23) (pow_mono z)) (mul-le-mul_right (2 ^ x) (le-add_right (2 ^ 23) t))))

none : (num den : ℕ) → num < den → num / den ≡ 0
none num den h = let w : num / den < 1 = (div-lt_iff_lt-mul (lt_of_le_of_lt (omega arith) h)).1 (lt_of_lt_of_le h (le_of_eq (sym (one-mul den)))) in omega arith

below_one : (w : Float) (s b : Bool) (num : ℕ) → num < 2 ^ 149 → HasValue w s num (2 ^ 149) → sized_of w b ≡ near b 0 (not (eqb num 0))
below_one w s b num h v =
    near_value w s b num (2 ^ 149) (pow_pos 149) v (subst (λ (n : ℕ). n < 2 ^ 24) (sym (none num (2 ^ 149) h)) (lit< tt))
    ∙ ap (λ (n : ℕ). near b n (not (eqb (num % 2 ^ 149) 0))) (none num (2 ^ 149) h)
    ∙ ap (λ (r : ℕ). near b 0 (not (eqb r 0))) (mod-eq_of_lt h)

pub low : (s b : Bool) (x t : ℕ) → x < 127 → t < 2 ^ 23 → sized_of (of_fields binary32 s x t) b ≡ near b 0 (not (eqb (x * 2 ^ 23 + t) 0))
low s b zero t h k =
    below_one _ s b (t * 2 ^ 0) (lt_of_le_of_lt (le_of_eq (mul-one t)) (lt_of_lt_of_le k (lit≤ tt))) (low_value s t)
    ∙ ap (λ (n : ℕ). near b 0 (not (eqb n 0))) (same t)
  where
    same : (t : ℕ) → t * 1 ≡ 0 + t
    same t = omega arith
low s b (suc x) t h k =
    let d : 2 ^ 23 + t < 2 ^ 24 = omega arith in
    let y : 24 + x ≤ 149 = omega arith in
    let p : 0 < (2 ^ 23 + t) * 2 ^ x = mul-pos (lt_of_lt_of_le (lit< tt) (le-add_right (2 ^ 23) t)) (pow_pos x) in
    below_one _ s b ((2 ^ 23 + t) * 2 ^ x) (lt_of_lt_of_le (shl_lt 24 x d) (pow_mono y)) (value s x t (omega arith))
    ∙ ap (λ (r : Bool). near b 0 (not r)) (ne_eqb _ 0 (ne_of_gt p) ∙ sym (ne_eqb (suc x * 2 ^ 23 + t) 0 (λ z. omega arith)))

pub mid : (s b : Bool) (x t : ℕ) → 127 ≤ x → x ≤ 150 → t < 2 ^ 23 → sized_of (of_fields binary32 s x t) b ≡ near b ((t + 2 ^ 23) / 2 ^ (150 - x)) (not (eqb ((t + 2 ^ 23) % 2 ^ (150 - x)) 0))
mid s b zero t h k l = absurd (omega arith)
mid s b (suc x) t h k l =
    let num = (2 ^ 23 + t) * 2 ^ x in
    let e : 150 - suc x + x ≡ 149 = omega arith in
    let c : num * 2 ^ (150 - suc x) ≡ (t + 2 ^ 23) * 2 ^ 149 =
    mul_assoc (2 ^ 23 + t) (2 ^ x) (2 ^ (150 - suc x))
    ∙ ap (λ (y : ℕ). (2 ^ 23 + t) * y) (mul_comm (2 ^ x) (2 ^ (150 - suc x)) ∙ sym (pow-add 2 (150 - suc x) x) ∙ ap (λ (y : ℕ). 2 ^ y) e)
    ∙ ap (λ (y : ℕ). y * 2 ^ 149) (add_comm (2 ^ 23) t) in
    let q : num / 2 ^ 149 ≡ (t + 2 ^ 23) / 2 ^ (150 - suc x) = div_same num (2 ^ 149) (t + 2 ^ 23) (2 ^ (150 - suc x)) (pow_pos 149) (pow_pos (150 - suc x)) c in
    let z : num / 2 ^ 149 < 2 ^ 24 = lt_of_le_of_lt (le_trans (le_of_eq q) (div-le_self (t + 2 ^ 23) (2 ^ (150 - suc x)))) (omega arith) in
    near_value _ s b num (2 ^ 149) (pow_pos 149) (value s x t (omega arith)) z
    ∙ ap (λ (n : ℕ). near b n (not (eqb (num % 2 ^ 149) 0))) q
    ∙ ap (λ (r : Bool). near b ((t + 2 ^ 23) / 2 ^ (150 - suc x)) (not r)) (same_rest num (2 ^ 149) (t + 2 ^ 23) (2 ^ (150 - suc x)) (pow_pos 149) (pow_pos (150 - suc x)) c)

-- ---- a float is read from the fields of its bits; it has bits where it equals itself, and so is no NaN
pub no_nan : (w : Float) → ne w w ≡ false → T (not (is_nan w))
unfolding is_nan
no_nan nan h = subst T (sym nan_differs ∙ h) tt
no_nan (inf s) h = tt
no_nan (fin s m e) h = tt

abbrev pub exp_of : ℕ → ℕ
exp_of n = n % 2 ^ 31 / 2 ^ 23

abbrev pub digits_of : ℕ → ℕ
digits_of n = n % 2 ^ 31 % 2 ^ 23

pub read : (w : Float) → T (fits binary32 w) → w ≡ of_fields binary32 (leb (2 ^ 31) (to_bits binary32 w)) (exp_of (to_bits binary32 w)) (digits_of (to_bits binary32 w))
unfolding of_bits
read w f = sym (of_bits-to_bits binary32 w f) ∙ ap (λ (t : ℕ). of_fields binary32 (leb (2 ^ 31) (to_bits binary32 w)) (exp_of (to_bits binary32 w)) t) (sym (mod-mod_of_dvd (2 ^ 23) (to_bits binary32 w) (dvd-mul_right (2 ^ 23) 256)))

pub whole_pattern : (n : ℕ) → exp_of n * 2 ^ 23 + digits_of n ≡ n % 2 ^ 31
whole_pattern n = omega arith

pub shifted : (k : ℕ) → k < 32 → 1 * 2 ^ k % 2 ^ 32 ≡ 2 ^ k
shifted k h = mod-eq_of_lt (lt_of_le_of_lt (le_of_eq (one-mul (2 ^ k))) (pow-lt h)) ∙ one-mul (2 ^ k)
