-- `floor_z v` is the largest whole number that is not above v, and the float `floor_of v` is that number, with the sign of v; up is down mirrored.
-- What is not whole is below 2 ^ 24, where every whole number is a float. Assumes nothing.
use mathlib.Core.Path.{◌≡◌, refl, sym, ap, ◌∙◌, subst}
use Prim.Native.Nat.{ℕ, zero, suc, ◌+◌, ◌-◌, ◌*◌, ◌/◌, ◌%◌, ◌^◌, ◌≤◌, ◌<◌}
use native.Mathlib.Nat.{mul-one, add-zero, div-add-mod', div-mul-le_self, lt-div-mul-add, lt_of_not-le, le_of_lt}
use native.Mathlib.Numerals.{add-one}
use native.Mathlib.Omega.{arith}
use mathlib.Core.Bool.{Bool, true, false, not, cond}
use lib.Dec.{T, eqb}
use lib.IntN.{ℤ, pos, negsuc, neg_ℤ, nat_abs}
use lib.Ieee.{Float, nan, inf, fin, binary32, up, down, fits, neg, of_int}
use lib.Ieee.Fits.{down_pos, neg-fits}
use lib.Ieee.Exact.{HasValue}
use lib.Ieee.Back.{round_whole}
use borrow.Author.Tests.{eqb-true, eqb-false}
use Rattle.float.specs.Round.{floor_z, ceil_z, floor_of, ceil_of}
use Rattle.float.proofs.Fitting.{fraction_small}
use Rattle.float.proofs.Rounding.{up_whole, up_more}

-- ---- the largest whole number that is not above: n ≤ v < n + 1, and for a float with the sign -n ≤ v < -n + 1
pub floor_above_zero : (m : ℕ) (e : ℤ) (n : ℕ) → floor_z (fin false m e) ≡ pos n → (n * down e ≤ m * up e) × (m * up e < n * down e + down e)
unfolding floor_z
floor_above_zero m e n p =
    let q : m * up e / down e ≡ n = cc in
    (subst (λ (x : ℕ). x * down e ≤ m * up e) q (div-mul-le_self (m * up e) (down e)), subst (λ (x : ℕ). m * up e < x * down e + down e) q (lt-div-mul-add (down_pos e)))

pub floor_below_zero : (m : ℕ) (e : ℤ) (n : ℕ) → floor_z (fin true m e) ≡ neg_ℤ (pos n) → (m * up e ≤ n * down e) × (n * down e < m * up e + down e)
unfolding floor_z
floor_below_zero m e n p =
    let a = m * up e + (down e - 1) in
    let q : a / down e ≡ n = size_of (a / down e) n p in
    let lo : n * down e ≤ a = subst (λ (x : ℕ). x * down e ≤ a) q (div-mul-le_self a (down e)) in
    let hi : a < n * down e + down e = subst (λ (x : ℕ). a < x * down e + down e) q (lt-div-mul-add (down_pos e)) in
    (omega (arith, down_pos e), omega (arith, down_pos e))
  where
    size_of : (a b : ℕ) → neg_ℤ (pos a) ≡ neg_ℤ (pos b) → a ≡ b
    size_of zero zero h = refl
    size_of zero (suc b) h = absurd (let z : ◌≡◌ {A = ℕ} 0 1 = cc in omega arith)
    size_of (suc a) zero h = absurd (let z : ◌≡◌ {A = ℕ} 0 1 = cc in omega arith)
    size_of (suc a) (suc b) h = let z : a ≡ b = cc in ap suc z

-- ---- the float is that number
size_neg : (z : ℤ) → nat_abs (neg_ℤ z) ≡ nat_abs z
size_neg (pos zero) = refl
size_neg (pos (suc n)) = refl
size_neg (negsuc n) = refl

-- a fraction with no rest is its whole part
exact : (a d : ℕ) → a % d ≡ 0 → a * 1 ≡ a / d * d
exact a d r = mul-one a ∙ sym (div-add-mod' a d) ∙ ap (λ (x : ℕ). a / d * d + x) r ∙ add-zero (a / d * d)

stays : (s : Bool) (m : ℕ) (e : ℤ) → m * up e % down e ≡ 0 → HasValue (fin s m e) s (nat_abs (floor_z (fin s m e))) 1
unfolding floor_z
stays false m e r = (refl, exact (m * up e) (down e) r)
stays true m e r = (
  refl,
  exact (m * up e) (down e) r ∙ ap (λ (x : ℕ). x * down e) (sym (up_whole (m * up e) (down e) (down_pos e) r) ∙ sym (size_neg (pos ((m * up e + (down e - 1)) / down e)))),
)

-- a number up to 2 ^ 24 is a float
as_float : (s : Bool) (n : ℕ) → n < 2 ^ 24 → HasValue (of_int binary32 (cond s (neg_ℤ (pos (suc n))) (pos n))) s (nat_abs (cond s (neg_ℤ (pos (suc n))) (pos n))) 1
unfolding of_int
as_float false n h = round_whole binary32 false n (le_of_lt h)
as_float true n h = round_whole binary32 true (suc n) h

number : (s : Bool) (m : ℕ) (e : ℤ) → (m * up e % down e ≡ 0 → ⊥) → floor_z (fin s m e) ≡ cond s (neg_ℤ (pos (suc (m * up e / down e)))) (pos (m * up e / down e))
unfolding floor_z
number false m e r = refl
number true m e r = ap (λ (x : ℕ). neg_ℤ (pos x)) (up_more (m * up e) (down e) (down_pos e) r ∙ add-one (m * up e / down e))

moves : (s : Bool) (m : ℕ) (e : ℤ) → T (fits binary32 (fin s m e)) → (m * up e % down e ≡ 0 → ⊥) → HasValue (of_int binary32 (floor_z (fin s m e))) s (nat_abs (floor_z (fin s m e))) 1
moves s m e t r =
    let h : m * up e / down e < 2 ^ 24 = lt_of_not-le (λ (g : 2 ^ 24 ≤ m * up e / down e). r (fraction_small s m e t g)) in
    subst (λ (z : ℤ). HasValue (of_int binary32 z) s (nat_abs z) 1) (sym (number s m e r)) (as_float s (m * up e / down e) h)

pub floor_value : (s : Bool) (m : ℕ) (e : ℤ) → T (fits binary32 (fin s m e)) → HasValue (floor_of (fin s m e)) s (nat_abs (floor_z (fin s m e))) 1
unfolding floor_of
floor_value s m e t = go (eqb (m * up e % down e) 0) refl
  where
    go : (u : Bool) → eqb (m * up e % down e) 0 ≡ u → HasValue (cond u (fin s m e) (of_int binary32 (floor_z (fin s m e)))) s (nat_abs (floor_z (fin s m e))) 1
    go true p = stays s m e (eqb-true _ _ p)
    go false p = moves s m e t (eqb-false _ _ p)

mirrored : (x : Float) (s : Bool) (a c : ℕ) → HasValue x (not s) a c → HasValue (neg x) s a c
unfolding neg
mirrored nan s a c v = v
mirrored (inf t) s a c v = v
mirrored (fin t m e) s a c v = (ap not v.0 ∙ twice s, v.1)
  where
    twice : (s : Bool) → not (not s) ≡ s
    twice true = refl
    twice false = refl

pub ceil_value : (s : Bool) (m : ℕ) (e : ℤ) → T (fits binary32 (fin s m e)) → HasValue (ceil_of (fin s m e)) s (nat_abs (ceil_z (fin s m e))) 1
unfolding ceil_of ceil_z neg
ceil_value s m e t =
    subst (λ (n : ℕ). HasValue (neg (floor_of (fin (not s) m e))) s n 1) (sym (size_neg (floor_z (fin (not s) m e))))
    (mirrored (floor_of (fin (not s) m e)) s _ 1 (floor_value (not s) m e (neg-fits binary32 (fin s m e) t)))
