-- Floats that are whole numbers. Each is one number, and a number up to 2^24 is rounded to itself, so that products and sums of that size are exact.
use Prim.Native.Nat.{ℕ, zero, suc, ◌+◌, ◌-◌, ◌*◌, ◌^◌, ◌≤◌, ◌<◌}
use mathlib.Core.Path.{◌≡◌, refl, sym, ap, ap₂, ◌∙◌, subst}
use mathlib.Core.Bool.{Bool, true, false, not, cond, ◌&&◌}
use mathlib.Core.Logic.{inl, inr, ⊎_elim}
use native.Mathlib.Omega.{arith}
use native.Mathlib.Nat.{mul-one, mul_comm, mul_assoc, mul_left_comm, mul-pos, add-mul, mul-sub, mul-le-mul_right, mul-lt-mul_of_pos_right, eq_of_mul-eq-mul_right}
use borrow.Author.Tests.{lt-ltb, le-ltb}
use lib.Dec.{T, ltb, lit≤}
use lib.IntN.{ℤ, pos, negsuc, neg_ℤ, nat_abs, ◌+ℤ◌, ◌*ℤ◌, neg_ℤ-+ℤ, neg_ℤ-neg_ℤ, *ℤ_comm, +ℤ_comm, pos-ne-negsuc}
use lib.Ieee.{Float, nan, inf, fin, binary32, up, down, unlike, round, sum, add, mul, fits}
use lib.Ieee.Fits.{down_pos}
use lib.Ieee.Exact.{HasValue}
use lib.Ieee.Back.{round_whole, whole_unique}
use lib.Ieee.Scale.{round_same}
use Rattle.float.proofs.Differences.{which, ⊖_up, ⊖_is}
use Rattle.fixed.proofs.Values.{signed}
use Rattle.paper.specs.Floats.{◌⊕◌, ◌⊗◌}
use Rattle.paper.specs.Combining.{Is, Same, ExactProduct, ExactSum}
use Rattle.paper.proofs.Integers.{neg_times}
use Rattle.paper.proofs.Points.{abs_signed}

signed_same : (s t : Bool) (n k : ℕ) → signed s n ≡ signed t (suc k) → (s ≡ t) × (n ≡ suc k)
signed_same false false n k h = (refl, ap nat_abs h)
signed_same false true n k h = absurd (pos-ne-negsuc n k h)
signed_same true false zero k h = absurd (let e : 0 ≡ suc k = ap nat_abs h in omega arith)
signed_same true false (suc n) k h = absurd (pos-ne-negsuc (suc k) n (sym h))
signed_same true true zero k h = absurd (pos-ne-negsuc zero k h)
signed_same true true (suc n) k h = (refl, ap nat_abs h)

-- ---- a float is one whole number, and of those that a format holds no other is it, but for zeros
is_one : (u : Float) (x y : ℤ) → Is u x → Is u y → x ≡ y
unfolding Is
is_one nan x y p q = absurd p
is_one (inf s) x y p q = absurd p
is_one (fin s m e) x y p q =
    sym p.2
    ∙ ap (signed s) (eq_of_mul-eq-mul_right (down e) (down_pos e) p.0 q.0 (sym p.1 ∙ q.1))
    ∙ q.2

has_value : (u : Float) (s : Bool) (k : ℕ) → Is u (signed s (suc k)) → HasValue u s (suc k) 1
unfolding Is
has_value nan s k p = p
has_value (inf t) s k p = p
has_value (fin t m e) s k p =
    let q = signed_same t s p.0 k p.2 in
    (q.0, mul-one (m * up e) ∙ p.1 ∙ ap (λ (n : ℕ). n * down e) q.1)

pub same : (u v : Float) (z : ℤ) → T (fits binary32 u) → T (fits binary32 v) → Is u z → Is v z → Same u v
same u v (pos zero) a b p q = inr (p, q)
same u v (pos (suc k)) a b p q = inl (whole_unique binary32 u v false (suc k) a b (has_value u false k p) (has_value v false k q))
same u v (negsuc k) a b p q = inl (whole_unique binary32 u v true (suc k) a b (has_value u true k p) (has_value v true k q))

-- ---- products and sums up to 2^24 are exact
-- a fraction that is a whole number up to 2^24 is rounded to it
rounded_is : (s : Bool) (n a c : ℕ) → 0 < c → a ≡ n * c → n ≤ 2 ^ 24 → Is (round binary32 s a c) (signed s n)
unfolding Is
rounded_is s n a c C h l =
    subst (λ (v : Float). Is v (signed s n)) (sym (round_same binary32 s a c n 1 C (lit≤ tt) (mul-one a ∙ h)))
    (go (round binary32 s n 1) (round_whole binary32 s n l))
  where
    go : (v : Float) → HasValue v s n 1 → Is v (signed s n)
    go nan v = v
    go (inf t) v = v
    go (fin t m e) v = (n, sym (mul-one (m * up e)) ∙ v.1, ap (λ (b : Bool). signed b n) v.0)

times_neg : (m n : ℕ) → pos m *ℤ neg_ℤ (pos n) ≡ neg_ℤ (pos (m * n))
times_neg m n = *ℤ_comm (pos m) (neg_ℤ (pos n)) ∙ neg_times (pos n) (pos m) ∙ ap (λ (k : ℕ). neg_ℤ (pos k)) (mul_comm n m)

signed_times : (s t : Bool) (m n : ℕ) → signed (unlike s t) (m * n) ≡ signed s m *ℤ signed t n
signed_times false false m n = refl
signed_times true false m n = sym (neg_times (pos m) (pos n))
signed_times false true m n = sym (times_neg m n)
signed_times true true m n = sym (neg_times (pos m) (neg_ℤ (pos n)) ∙ ap neg_ℤ (times_neg m n) ∙ neg_ℤ-neg_ℤ (pos (m * n)))

-- a difference, by the sign of what is taken from
gap : (m n : ℕ) → n ≤ m → pos (m - n) ≡ pos m +ℤ neg_ℤ (pos n)
gap m n h = sym (⊖_up m n h) ∙ ⊖_is m n

signed_gap : (s : Bool) (m n : ℕ) → n ≤ m → signed s (m - n) ≡ signed s m +ℤ signed (not s) n
signed_gap false m n h = gap m n h
signed_gap true m n h = ap neg_ℤ (gap m n h) ∙ neg_ℤ-+ℤ (pos m) (neg_ℤ (pos n)) ∙ ap (λ (z : ℤ). neg_ℤ (pos m) +ℤ z) (neg_ℤ-neg_ℤ (pos n))

signed_rest : (s : Bool) (m n : ℕ) → m ≤ n → signed (not s) (n - m) ≡ signed s m +ℤ signed (not s) n
signed_rest false m n h = signed_gap true n m h ∙ +ℤ_comm (neg_ℤ (pos n)) (pos m)
signed_rest true m n h = signed_gap false n m h ∙ +ℤ_comm (pos n) (neg_ℤ (pos m))

-- nothing is left where one is taken from itself, and then the sign is clear
kept_sign : (s : Bool) (m n c : ℕ) → 0 < c → n ≤ m → signed (s && ltb (n * c) (m * c)) (m - n) ≡ signed s (m - n)
kept_sign false m n c C h = refl
kept_sign true m n c C h = ⊎_elim
    (λ l. rw (lt-ltb (n * c) (m * c) (mul-lt-mul_of_pos_right l C)))
    (λ l. let z : m - n ≡ 0 = omega arith in rw (z, le-ltb (n * c) (m * c) (mul-le-mul_right c l)))
    (which n m)

times_gap : (m n c : ℕ) → m * c - n * c ≡ (m - n) * c
times_gap m n c = rw (mul_comm m c, mul_comm n c, mul_comm (m - n) c, mul-sub c m n)

module _ (c : ℕ) (C : 0 < c) (m n : ℕ) (l : m + n ≤ 2 ^ 24) where
  unlike_is : (s : Bool)
      → Is (cond (ltb (m * c) (n * c)) (round binary32 (not s) (n * c - m * c) c) (round binary32 (s && ltb (n * c) (m * c)) (m * c - n * c) c))
      (signed s m +ℤ signed (not s) n)
  unlike_is s = ⊎_elim
      (λ h. rw (lt-ltb (m * c) (n * c) (mul-lt-mul_of_pos_right h C), ← signed_rest s m n (omega arith))
      (rounded_is (not s) (n - m) (n * c - m * c) c C (times_gap n m c) (omega arith)))
      (λ h. rw (le-ltb (m * c) (n * c) (mul-le-mul_right c h), ← signed_gap s m n h, ← kept_sign s m n c C h)
      (rounded_is (s && ltb (n * c) (m * c)) (m - n) (m * c - n * c) c C (times_gap m n c) (omega arith)))
      (which m n)

  sum_rounds : (s t : Bool) → Is (sum binary32 s (m * c) t (n * c) c) (signed s m +ℤ signed t n)
  unfolding sum
  sum_rounds false false = rounded_is false (m + n) (m * c + n * c) c C (sym (add-mul m n c)) l
  sum_rounds false true = unlike_is false
  sum_rounds true false = unlike_is true
  sum_rounds true true = rw (← neg_ℤ-+ℤ (pos m) (pos n)) (rounded_is true (m + n) (m * c + n * c) c C (sym (add-mul m n c)) l)

module _ (s : Bool) (m : ℕ) (e : ℤ) (t : Bool) (n : ℕ) (d : ℤ) (X Y : ℕ) (p : m * up e ≡ X * down e) (q : n * up d ≡ Y * down d) where
  product_of : X * Y ≤ 2 ^ 24 → Is (fin s m e ⊗ fin t n d) (signed s X *ℤ signed t Y)
  unfolding mul
  product_of l =
      let c = down e * down d in
      let h : m * up e * (n * up d) ≡ X * Y * c = rw (p, q) (simp (mul_assoc, mul_left_comm)) in
      rw (← signed_times s t X Y) (rounded_is (unlike s t) (X * Y) (m * up e * (n * up d)) c (mul-pos (down_pos e) (down_pos d)) h l)

  sum_of : X + Y ≤ 2 ^ 24 → Is (fin s m e ⊕ fin t n d) (signed s X +ℤ signed t Y)
  unfolding add
  sum_of l =
      let c = down e * down d in
      let f : m * up e * down d ≡ X * c = ap (λ (k : ℕ). k * down d) p ∙ mul_assoc X (down e) (down d) in
      let g : n * up d * down e ≡ Y * c = ap (λ (k : ℕ). k * down e) q ∙ mul_assoc Y (down d) (down e) ∙ ap (λ (k : ℕ). Y * k) (mul_comm (down d) (down e)) in
      subst (λ (v : Float). Is v (signed s X +ℤ signed t Y)) (sym (ap₂ (λ (i j : ℕ). sum binary32 s i t j c) f g))
      (sum_rounds c (mul-pos (down_pos e) (down_pos d)) X Y l s t)

pub size_of : (s : Bool) (n : ℕ) (z : ℤ) → signed s n ≡ z → nat_abs z ≡ n
size_of s n z h = sym (ap nat_abs h) ∙ abs_signed s n

pub product_is : (u v : Float) (x y : ℤ) → Is u x → Is v y → nat_abs x * nat_abs y ≤ 2 ^ 24 → Is (u ⊗ v) (x *ℤ y)
unfolding Is
product_is nan v x y p q l = absurd p
product_is (inf s) v x y p q l = absurd p
product_is (fin s m e) nan x y p q l = absurd q
product_is (fin s m e) (inf t) x y p q l = absurd q
product_is (fin s m e) (fin t n d) x y (X, a, f) (Y, b, g) l =
    subst (λ (z : ℤ). Is (fin s m e ⊗ fin t n d) z) (ap₂ (λ (i j : ℤ). i *ℤ j) f g)
    (product_of s m e t n d X Y a b (rw (size_of s X x f, size_of t Y y g) at l))

pub sum_is : (u v : Float) (x y : ℤ) → Is u x → Is v y → nat_abs x + nat_abs y ≤ 2 ^ 24 → Is (u ⊕ v) (x +ℤ y)
unfolding Is
sum_is nan v x y p q l = absurd p
sum_is (inf s) v x y p q l = absurd p
sum_is (fin s m e) nan x y p q l = absurd q
sum_is (fin s m e) (inf t) x y p q l = absurd q
sum_is (fin s m e) (fin t n d) x y (X, a, f) (Y, b, g) l =
    subst (λ (z : ℤ). Is (fin s m e ⊕ fin t n d) z) (ap₂ (λ (i j : ℤ). i +ℤ j) f g)
    (sum_of s m e t n d X Y a b (rw (size_of s X x f, size_of t Y y g) at l))

-- so they come out, whichever numbers the floats are said to be
pub product_at : (u v : Float) (x y : ℤ) → Is u x → Is v y → Is (u ⊗ v) (x *ℤ y) → ExactProduct u v
product_at u v x y p q r i j f g = rw (is_one u i x f p, is_one v j y g q) r

pub sum_at : (u v : Float) (x y : ℤ) → Is u x → Is v y → Is (u ⊕ v) (x +ℤ y) → ExactSum u v
sum_at u v x y p q r i j f g = rw (is_one u i x f p, is_one v j y g q) r
