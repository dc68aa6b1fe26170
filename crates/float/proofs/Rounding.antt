-- A float rounded down is what is made of its cut: with no rest it stays, else it is the whole part, or, below zero, one more, negated.
-- And up is down mirrored, so the whole number above is one more where something is cut off. Assumes nothing.
use mathlib.Core.Path.{◌≡◌, refl, sym, ap, ◌∙◌, subst}
use Prim.Native.Nat.{ℕ, zero, suc, ◌+◌, ◌-◌, ◌*◌, ◌/◌, ◌%◌, ◌^◌, ◌<◌}
use native.Mathlib.Nat.{div-add-mod', mul-add-div_right, add-div_left, div-eq_of_lt, mod-lt, add_assoc, add-zero}
use native.Mathlib.Numerals.{add-one}
use native.Mathlib.Omega.{arith}
use mathlib.Core.Bool.{Bool, true, false, not, cond}
use lib.Dec.{T, ltb, eqb}
use lib.IntN.{ℤ, pos, neg_ℤ}
use lib.Ieee.{Float, nan, inf, fin, Format, binary32, prec, low, emax, up, down, odd, units, round, fits, lt, neg, of_int}
use lib.Ieee.Fits.{round_is, down_pos}
use borrow.Author.Tests.{ltb-false, eqb-false, eq-eqb}
use Rattle.float.specs.declared.Cut.{Cut}
use Rattle.std.specs.Prelude.{Option, None, Some}
use Rattle.float.specs.Cut.{zero_f, near, sized_of, cut_of}
use Rattle.float.specs.Round.{floor_z, floor_of}
use Rattle.float.proofs.Fitting.{fraction_small, sign_shown}

-- ---- a fraction a / d rounded up
split : (a d : ℕ) → 0 < d → (a + (d - 1)) / d ≡ a / d + (a % d + (d - 1)) / d
split a d h =
    ap (λ (x : ℕ). (x + (d - 1)) / d) (sym (div-add-mod' a d))
    ∙ ap (λ (x : ℕ). x / d) (add_assoc (a / d * d) (a % d) (d - 1))
    ∙ mul-add-div_right h (a / d) (a % d + (d - 1))

pub up_whole : (a d : ℕ) → 0 < d → a % d ≡ 0 → (a + (d - 1)) / d ≡ a / d
up_whole a d h r =
    let l : a % d + (d - 1) < d = omega arith in
    split a d h ∙ ap (λ (x : ℕ). a / d + x) (div-eq_of_lt l) ∙ add-zero (a / d)

pub up_more : (a d : ℕ) → 0 < d → (a % d ≡ 0 → ⊥) → (a + (d - 1)) / d ≡ a / d + 1
up_more a d h r =
    let l : a % d < d = mod-lt a h in
    let p : 0 < a % d = omega (arith, r) in
    let e : a % d + (d - 1) ≡ d + (a % d - 1) = omega arith in
    let s : a % d - 1 < d = omega arith in
    split a d h ∙ ap (λ (x : ℕ). a / d + x) (ap (λ (x : ℕ). x / d) e ∙ add-div_left (a % d - 1) h ∙ ap (λ (x : ℕ). x + 1) (div-eq_of_lt s))

-- ---- a rounded fraction is mirrored by its sign
neg_odd : (d : ℕ) (s : Bool) (q k l : ℕ) → neg (odd d s q k l) ≡ odd d (not s) q k l
unfolding odd neg
neg_odd d s zero k l = refl
neg_odd d s (suc q) k l = refl

neg_units : (f : Format) (s : Bool) (q k : ℕ) → neg (units f s q k) ≡ units f (not s) q k
unfolding units
neg_units f s q k = go (ltb (q * 2 ^ k) (2 ^ (low f + suc (emax f))))
  where
    go : (b : Bool) → neg (cond b (odd (suc (prec f)) s q k (low f)) (inf s)) ≡ cond b (odd (suc (prec f)) (not s) q k (low f)) (inf (not s))
    go true = neg_odd (suc (prec f)) s q k (low f)
    go false = unfold neg in refl

pub neg_round : (f : Format) (s : Bool) (a c : ℕ) → neg (round f s a c) ≡ round f (not s) a c
neg_round f s a c = ap neg (round_is f s a c) ∙ neg_units f s _ _ ∙ sym (round_is f (not s) a c)

neg_suc : (n : ℕ) → neg (of_int binary32 (pos (suc n))) ≡ of_int binary32 (neg_ℤ (pos (suc n)))
unfolding of_int
neg_suc n = neg_round binary32 false (suc n) 1

neg_whole : (n : ℕ) → neg (of_int binary32 (pos (n + 1))) ≡ of_int binary32 (neg_ℤ (pos (n + 1)))
neg_whole n = subst (λ (k : ℕ). neg (of_int binary32 (pos k)) ≡ of_int binary32 (neg_ℤ (pos k))) (sym (add-one n)) (neg_suc n)

-- ---- down, from the cut
unfoldable pub down_from : Float → Option Cut → Float
down_from v (Some cut) = cond cut.rest (cond cut.below (neg (of_int binary32 (pos (cut.whole + 1)))) (of_int binary32 (pos cut.whole))) v
down_from v None = v

abbrev Down : Float → Bool → ℕ → Float
Down v s n = cond s (neg (of_int binary32 (pos (n + 1)))) (of_int binary32 (pos n))

-- what is not whole
fraction : (s : Bool) (m : ℕ) (e : ℤ) → (m * up e % down e ≡ 0 → ⊥) → Down (fin s m e) s (m * up e / down e) ≡ of_int binary32 (floor_z (fin s m e))
unfolding floor_z
fraction false m e r = refl
fraction true m e r = neg_whole (m * up e / down e) ∙ ap (λ (x : ℕ). of_int binary32 (neg_ℤ (pos x))) (sym (up_more (m * up e) (down e) (down_pos e) r))

pub floor_cut : (v : Float) → T (fits binary32 v) → down_from v (cut_of v) ≡ floor_of v
unfolding sized_of down_from floor_of
floor_cut nan t = refl
floor_cut (inf s) t = refl
floor_cut (fin s m e) t =
    at (ltb (m * up e / down e) (2 ^ 24)) (eqb (m * up e % down e) 0)
    (λ h. eq-eqb _ _ (fraction_small s m e t (ltb-false _ _ h)))
    (λ h. sign_shown s m e (eqb-false _ _ h))
    (λ h. fraction s m e (eqb-false _ _ h))
  where
    at : (u r : Bool) → (u ≡ false → r ≡ true) → (r ≡ false → lt (fin s m e) zero_f ≡ s) → (r ≡ false → Down (fin s m e) s (m * up e / down e) ≡ of_int binary32 (floor_z (fin s m e)))
        → down_from (fin s m e) (cond u (near (lt (fin s m e) zero_f) (m * up e / down e) (not r)) None) ≡ cond r (fin s m e) (of_int binary32 (floor_z (fin s m e)))
    at true true p q d = refl
    at true false p q d = ap (λ (b : Bool). Down (fin s m e) b (m * up e / down e)) (q refl) ∙ d refl
    at false true p q d = refl
    at false false p q d = absurd (subst T (sym (p refl)) tt)

-- ---- the answers of the code, by what the cut is
module _ (v : Float) (x : Option Cut) (t : T (fits binary32 v)) (p : x ≡ cut_of v) where
  answer : (y : Float) → y ≡ down_from v x → y ≡ floor_of v
  answer y q = q ∙ ap (down_from v) p ∙ floor_cut v t

  module _ (cut : Cut) (q : x ≡ Some cut) where
    pub floor_below : cut.rest ≡ true → cut.below ≡ true → neg (of_int binary32 (pos (cut.whole + 1))) ≡ floor_of v
    unfolding down_from
    floor_below h k = answer _ (simp (q, h, k))

    pub floor_above : cut.rest ≡ true → cut.below ≡ false → of_int binary32 (pos cut.whole) ≡ floor_of v
    unfolding down_from
    floor_above h k = answer _ (simp (q, h, k))

    pub floor_whole : cut.rest ≡ false → v ≡ floor_of v
    unfolding down_from
    floor_whole h = answer _ (simp (q, h))

  pub floor_far : x ≡ None → v ≡ floor_of v
  unfolding down_from
  floor_far q = answer _ (simp q)
