-- A float of binary32 times 256 is exact, or is beyond every limit: so its cut is that of the float's own m * 2 ^ e * 256. Assumes nothing.
use mathlib.Core.Path.{◌≡◌, refl, sym, ap, ◌∙◌, subst}
use mathlib.Core.Logic.{◌⊎◌, inl, inr}
use Prim.Native.Nat.compare
use Prim.Native.Nat.{ℕ, zero, suc, ◌+◌, ◌-◌, ◌*◌, ◌/◌, ◌%◌, ◌^◌, ◌≤◌, ◌<◌, compare, Ordering}
use native.Mathlib.Nat.{le_trans, le_of_eq, le_of_suc-le-suc, lt_of_lt_of_le, lt_of_not-le, lt_irrefl, mul_assoc, mul_comm, mul-one, mul_right_comm, mul-pos, mul-div_cancel, mul-mod_left, mul-le-mul_right, le-div_iff_mul-le, le_of_mul-le-mul_right, eq-zero-or-pos, ne_of_gt, zero-mul}
use native.Mathlib.Omega.{arith}
use mathlib.Core.Bool.{Bool, true, false, not, cond}
use lib.Dec.{T, ltb, eqb, lit≤}
use lib.IntN.{ℤ, pos, negsuc}
use lib.Pow.{pow-add, pow_pos, pow-lt, shl_lt}
use lib.Ieee.{Float, nan, inf, fin, Format, binary32, prec, low, emax, up, down, unlike, size, nearest, units, round, mul, fits, lt, of_bits}
use lib.Ieee.Digits.{size-le, back}
use lib.Ieee.Fits.{core, round_is, down_pos}
use lib.Ieee.Exact.{HasValue, round_exact}
use borrow.Author.Tests.{ltb-true, ltb-false, le-ltb, eq-eqb, ne_eqb}
use Rattle.float.specs.declared.Cut.{Cut}
use Rattle.std.specs.Prelude.{Option, None}
use Rattle.float.specs.Cut.{zero_f, near, sized_of, cut_of}
use Rattle.float.proofs.Fields.{of_value}
use Rattle.float.proofs.Fitting.{small_m, low_e, Below, below_zero}

-- ---- an exact fraction beyond the format is an infinity
above_zero : (u : ℕ) → 0 < u → compare 0 u ≡ Ordering.lt
above_zero zero h = absurd (lt_irrefl 0 h)
above_zero (suc u) h = compare.zero-suc u

core_exact : (f : Format) (s : Bool) (den k q : ℕ) → 0 < den * 2 ^ k → core f s (q * (den * 2 ^ k)) den k ≡ units f s q k
core_exact f s den k q h =
    let u = den * 2 ^ k in
    ap (λ (x : ℕ). units f s (nearest x (compare (q * u % u * 2) u)) k) (mul-div_cancel q h)
    ∙ ap (λ (x : ℕ). units f s (nearest q (compare (x * 2) u)) k) (mul-mod_left q u)
    ∙ ap (λ (o : Ordering). units f s (nearest q o) k) (above_zero u h)

spare : (z p l : ℕ) → z ≤ p + l → z - p ≤ l
spare z p l h = omega arith

units_over : (f : Format) (s : Bool) (q k : ℕ) → 2 ^ (low f + suc (emax f)) ≤ q * 2 ^ k → units f s q k ≡ inf s
unfolding units
units_over f s q k h = simp (le-ltb _ _ h)

pub round_over : (f : Format) (s : Bool) (num den q j : ℕ) → 0 < den → q < 2 ^ prec f → 2 ^ (low f + suc (emax f)) ≤ q * 2 ^ j
    → num * 2 ^ low f ≡ q * 2 ^ j * den → round f s num den ≡ inf s
round_over f s num den q j dp small big h =
    let n = num * 2 ^ low f in
    let e1 : n / den ≡ q * 2 ^ j = ap (λ (x : ℕ). x / den) h ∙ mul-div_cancel (q * 2 ^ j) dp in
    let k = size (n / den) - prec f in
    let k-le : k ≤ j = spare (size (n / den)) (prec f) j (size-le (n / den) (prec f + j) (subst (λ (x : ℕ). x < 2 ^ (prec f + j)) (sym e1) (shl_lt (prec f) j small))) in
    let r = q * 2 ^ (j - k) in
    let e3 : r * 2 ^ k ≡ q * 2 ^ j = mul_assoc q (2 ^ (j - k)) (2 ^ k) ∙ ap (λ (x : ℕ). q * x) (sym (pow-add 2 (j - k) k) ∙ ap (λ (x : ℕ). 2 ^ x) (back j k k-le)) in
    let e2 : n ≡ r * (den * 2 ^ k) = h ∙ ap (λ (x : ℕ). x * den) (sym e3) ∙ mul_assoc r (2 ^ k) den ∙ ap (λ (x : ℕ). r * x) (mul_comm (2 ^ k) den) in
    round_is f s num den
    ∙ ap (λ (x : ℕ). core f s x den k) e2
    ∙ core_exact f s den k r (mul-pos dp (pow_pos k))
    ∙ units_over f s r k (subst (λ (x : ℕ). 2 ^ (low f + suc (emax f)) ≤ x) (sym e3) big)

pow_le_back : (a l : ℕ) → 2 ^ a ≤ 2 ^ l → a ≤ l
pow_le_back a l h = le_of_suc-le-suc (lt_of_not-le (λ (g : suc l ≤ a). lt_irrefl (2 ^ l) (lt_of_lt_of_le (pow-lt g) h)))

-- 256 times the float is m * 2 ^ j smallest values
pub place : (m : ℕ) (e : ℤ) → down e ≤ 2 ^ 149 → (j : ℕ) × (m * up e * 256 * 2 ^ 149 ≡ m * 2 ^ j * down e)
place m (pos a) h = (
  a + 157,
  mul_assoc (m * 2 ^ a) 256 (2 ^ 149) ∙ mul_assoc m (2 ^ a) (2 ^ 157) ∙ ap (λ (x : ℕ). m * x) (sym (pow-add 2 a 157)) ∙ sym (mul-one (m * 2 ^ (a + 157))),
)
place m (negsuc a) h =
    let le : suc a ≤ 157 = le_trans (pow_le_back (suc a) 149 h) (lit≤ tt) in (
      157 - suc a,
      mul_assoc (m * 1) 256 (2 ^ 149)
          ∙ ap (λ (x : ℕ). x * 2 ^ 157) (mul-one m)
          ∙ ap (λ (x : ℕ). m * x) (ap (λ (x : ℕ). 2 ^ x) (sym (back 157 (suc a) le)) ∙ pow-add 2 (157 - suc a) (suc a))
          ∙ sym (mul_assoc m (2 ^ (157 - suc a)) (2 ^ suc a)),
    )

-- ---- the product
unlike_false : (s : Bool) → unlike s false ≡ s
unlike_false true = refl
unlike_false false = refl

pub product : (s : Bool) (m : ℕ) (e : ℤ) → mul binary32 (fin s m e) (of_bits binary32 0x4380_0000) ≡ round binary32 s (m * up e * 256) (down e)
unfolding mul of_bits
product s m e = ap (λ (b : Bool). round binary32 b (m * up e * 256) (down e * 1)) (unlike_false s) ∙ ap (λ (d : ℕ). round binary32 s (m * up e * 256) d) (mul-one (down e))

huge : (num den x : ℕ) → 0 < den → 2 ^ 277 ≤ x → num * 2 ^ 149 ≡ x * den → 2 ^ 128 ≤ num / den
huge num den x D h p =
    (le-div_iff_mul-le D).1 (le_of_mul-le-mul_right {m = 2 ^ 128 * den} {n = num} {k = 2 ^ 149}
    (le_trans (le_of_eq (mul_right_comm (2 ^ 128) den (2 ^ 149))) (le_trans (mul-le-mul_right den h) (le_of_eq (sym p)))) (pow_pos 149))

-- ---- below zero is what its value says
same_zero : (a b c d : ℕ) → 0 < b → 0 < d → a * d ≡ c * b → eqb a 0 ≡ eqb c 0
same_zero a b c d B D h = go (eq-zero-or-pos a) (eq-zero-or-pos c)
  where
    go : (a ≡ 0) ⊎ (0 < a) → (c ≡ 0) ⊎ (0 < c) → eqb a 0 ≡ eqb c 0
    go (inl x) (inl y) = eq-eqb _ _ x ∙ sym (eq-eqb _ _ y)
    go (inr x) (inr y) = ne_eqb _ _ (ne_of_gt x) ∙ sym (ne_eqb _ _ (ne_of_gt y))
    go (inl x) (inr y) = absurd (lt_irrefl 0 (subst (λ (n : ℕ). 0 < n) (sym h ∙ ap (λ (n : ℕ). n * d) x ∙ zero-mul d) (mul-pos y B)))
    go (inr x) (inl y) = absurd (lt_irrefl 0 (subst (λ (n : ℕ). 0 < n) (h ∙ ap (λ (n : ℕ). n * b) y ∙ zero-mul b) (mul-pos x D)))

value_below : (w : Float) (s : Bool) (num den : ℕ) → 0 < den → HasValue w s num den → lt w zero_f ≡ Below s num
value_below nan s num den D v = absurd v
value_below (inf t) s num den D v = absurd v
value_below (fin t m e) s num den D v =
    below_zero t m e ∙ ap (λ (b : Bool). Below b (m * up e)) v.0 ∙ ap (λ (b : Bool). cond s (not b) false) (same_zero (m * up e) (down e) num den (down_pos e) D v.1)

-- ---- the cut of a number that is given as a fraction
abbrev pub Cutting : Bool → ℕ → ℕ → Option Cut
Cutting b num den = cond (ltb (num / den) (2 ^ 24)) (near b (num / den) (not (eqb (num % den) 0))) None

pub cut_of_value : (w : Float) (s : Bool) (num den : ℕ) → 0 < den → HasValue w s num den → cut_of w ≡ Cutting (Below s num) num den
cut_of_value w s num den D v = of_value w s (lt w zero_f) num den D v ∙ ap (λ (b : Bool). Cutting b num den) (value_below w s num den D v)

beyond : (s b : Bool) (num den : ℕ) → 2 ^ 128 ≤ num / den → cut_of (inf s) ≡ Cutting b num den
unfolding sized_of
beyond s b num den h = sym (ap (λ (u : Bool). cond u (near b (num / den) (not (eqb (num % den) 0))) None) (le-ltb (num / den) (2 ^ 24) (le_trans (lit≤ tt) h)))

scaled_zero : (a : ℕ) → eqb (a * 256) 0 ≡ eqb a 0
scaled_zero a = same_zero (a * 256) 256 a 1 (lit≤ tt) (lit≤ tt) (mul-one (a * 256))

-- a float times 256 cut toward zero is m * 2 ^ e * 256 cut toward zero
pub cut_scaled : (s : Bool) (m : ℕ) (e : ℤ) → T (fits binary32 (fin s m e))
    → cut_of (mul binary32 (fin s m e) (of_bits binary32 0x4380_0000)) ≡ Cutting (lt (fin s m e) zero_f) (m * up e * 256) (down e)
cut_scaled s m e t = ap cut_of (product s m e) ∙ go (ltb (m * 2 ^ pl.0) (2 ^ 277)) refl
  where
    pl : (j : ℕ) × (m * up e * 256 * 2 ^ 149 ≡ m * 2 ^ j * down e)
    pl = place m e (low_e s m e t)

    sign : Below s (m * up e * 256) ≡ lt (fin s m e) zero_f
    sign = ap (λ (b : Bool). cond s (not b) false) (scaled_zero (m * up e)) ∙ sym (below_zero s m e)

    go : (u : Bool) → ltb (m * 2 ^ pl.0) (2 ^ 277) ≡ u → cut_of (round binary32 s (m * up e * 256) (down e)) ≡ Cutting (lt (fin s m e) zero_f) (m * up e * 256) (down e)
    go true p =
        cut_of_value _ s (m * up e * 256) (down e) (down_pos e) (round_exact binary32 s (m * up e * 256) (down e) m pl.0 (down_pos e) (small_m s m e t) (ltb-true _ _ p) pl.1)
        ∙ ap (λ (b : Bool). Cutting b (m * up e * 256) (down e)) sign
    go false p =
        ap cut_of (round_over binary32 s (m * up e * 256) (down e) m pl.0 (down_pos e) (small_m s m e t) (ltb-false _ _ p) pl.1)
        ∙ beyond s (lt (fin s m e) zero_f) (m * up e * 256) (down e) (huge (m * up e * 256) (down e) (m * 2 ^ pl.0) (down_pos e) (ltb-false _ _ p) pl.1)
