-- Differences of natural numbers as integers: what the tests and the operations say of them. By the two cases, negative or not.
use Prim.Native.Nat.{ℕ, zero, suc, ◌+◌, ◌*◌, ◌-◌, ◌<◌, ◌≤◌}
use mathlib.Core.Path.{◌≡◌, refl, sym, ap, ◌∙◌}
use mathlib.Core.Bool.{Bool, true, false, not}
use mathlib.Core.Logic.{◌⊎◌, inl, inr, ⊎_elim}
use native.Mathlib.Omega.{arith}
use native.Mathlib.Nat.{mul-sub, mul-le-mul_left}
use lib.Dec.{T, leb, ltb, ltb→lt, nltb→le}
use lib.IntN.{pos, negsuc, ◌+ℤ◌, ◌*ℤ◌, neg_ℤ, nat_abs, +ℤ_assoc, +ℤ_comm, +ℤ_idr, neg_ℤ-+ℤ, neg_ℤ-neg_ℤ, pos-+ℤ-pos, *ℤ-negsuc}
use lib.Signed.{le_z, lt_z}
use borrow.Author.Tests.{lt-ltb, le-ltb, le-leb, lt-leb}
use Rattle.float.specs.Differences.{◌⊖◌}

-- every two numbers stand so
pub which : (a b : ℕ) → (a < b) ⊎ (b ≤ a)
which a b = go (ltb a b) (ltb→lt a b) (nltb→le a b)
  where
    go : (t : Bool) → (T t → a < b) → (T (not t) → b ≤ a) → (a < b) ⊎ (b ≤ a)
    go true f g = inl (f tt)
    go false f g = inr (g tt)

-- a − b where it is not negative, and where it is
pub ⊖_up : (a b : ℕ) → b ≤ a → a ⊖ b ≡ pos (a - b)
unfolding ◌⊖◌
⊖_up a b h = rw (le-ltb a b h)

pub ⊖_down : (a b : ℕ) → a < b → a ⊖ b ≡ negsuc (b - suc a)
unfolding ◌⊖◌
⊖_down a b h = rw (lt-ltb a b h)

pub ⊖_zero : (a : ℕ) → a ⊖ 0 ≡ pos a
⊖_zero a = ⊖_up a 0 (omega arith) ∙ ap pos (omega arith)

-- as a sum of integers
pub ⊖_is : (a b : ℕ) → a ⊖ b ≡ pos a +ℤ neg_ℤ (pos b)
unfolding ◌⊖◌
⊖_is a zero = ⊖_zero a ∙ sym (+ℤ_idr (pos a))
⊖_is a (suc b) = refl

pub ⊖_add : (a b c d : ℕ) → a ⊖ b +ℤ (c ⊖ d) ≡ (a + c) ⊖ (b + d)
⊖_add a b c d =
    rw (
      ⊖_is a b,
      ⊖_is c d,
      ⊖_is (a + c) (b + d),
      ← pos-+ℤ-pos a c,
      ← pos-+ℤ-pos b d,
      neg_ℤ-+ℤ (pos b) (pos d),
      +ℤ_assoc (pos a) (neg_ℤ (pos b)) (pos c +ℤ neg_ℤ (pos d)),
      +ℤ_assoc (pos a) (pos c) (neg_ℤ (pos b) +ℤ neg_ℤ (pos d)),
      ← +ℤ_assoc (neg_ℤ (pos b)) (pos c) (neg_ℤ (pos d)),
      ← +ℤ_assoc (pos c) (neg_ℤ (pos b)) (neg_ℤ (pos d)),
      +ℤ_comm (neg_ℤ (pos b)) (pos c),
    )

pub ⊖_neg : (a b : ℕ) → neg_ℤ (a ⊖ b) ≡ b ⊖ a
⊖_neg a b = rw (⊖_is a b, ⊖_is b a, neg_ℤ-+ℤ (pos a) (neg_ℤ (pos b)), neg_ℤ-neg_ℤ (pos b), +ℤ_comm (neg_ℤ (pos a)) (pos b))

-- the same difference
pub ⊖_same : (a b c d : ℕ) → a + d ≡ c + b → a ⊖ b ≡ c ⊖ d
⊖_same a b c d e = ⊎_elim
    (λ h. ⊖_down a b h ∙ ap negsuc (omega arith) ∙ sym (⊖_down c d (omega arith)))
    (λ h. ⊖_up a b h ∙ ap pos (omega arith) ∙ sym (⊖_up c d (omega arith)))
    (which a b)

-- two tests agree where their facts do
leb_same : (a b c d : ℕ) → (a ≤ b → c ≤ d) → (b < a → d < c) → leb a b ≡ leb c d
leb_same a b c d f g =
    ⊎_elim (λ h. lt-leb a b h ∙ sym (lt-leb c d (g h))) (λ h. le-leb a b h ∙ sym (le-leb c d (f h))) (which b a)

-- the tests against 0
pub ⊖_le : (a b : ℕ) → le_z (a ⊖ b) (pos 0) ≡ leb a b
⊖_le a b = ⊎_elim
    (λ h. rw (⊖_down a b h, le-leb a b (omega arith)))
    (λ h. rw (⊖_up a b h) (leb_same (a - b) 0 a b (omega arith) (omega arith)))
    (which a b)

pub ⊖_ge : (a b : ℕ) → le_z (pos 0) (a ⊖ b) ≡ leb b a
⊖_ge a b = ⊎_elim
    (λ h. rw (⊖_down a b h, lt-leb b a h))
    (λ h. rw (⊖_up a b h) (leb_same 0 (a - b) b a (omega arith) (omega arith)))
    (which a b)

pub ⊖_gt : (a b : ℕ) → lt_z (pos 0) (a ⊖ b) ≡ ltb b a
⊖_gt a b = ⊎_elim
    (λ h. rw (⊖_down a b h, le-ltb b a (omega arith)))
    (λ h. rw (⊖_up a b h) (leb_same 1 (a - b) (suc b) a (omega arith) (omega arith)))
    (which a b)

pub ⊖_mul : (k a b : ℕ) → pos k *ℤ (a ⊖ b) ≡ (k * a) ⊖ (k * b)
⊖_mul k a b = ⊎_elim
    (λ h. rw (
      ⊖_down a b h,
      *ℤ-negsuc (pos k) (b - suc a),
      ← ⊖_neg (k * b) (k * a),
      ⊖_up (k * b) (k * a) (mul-le-mul_left k (omega arith)),
      ← mul-sub k b a,
    )
    (ap (λ n. neg_ℤ (pos (k * n))) (omega arith)))
    (λ h. rw (⊖_up a b h, ⊖_up (k * a) (k * b) (mul-le-mul_left k h), ← mul-sub k a b))
    (which a b)

pub ⊖_abs : (a b : ℕ) → nat_abs (a ⊖ b) ≡ (a - b) + (b - a)
⊖_abs a b = ⊎_elim
    (λ h. rw (⊖_down a b h) (omega arith))
    (λ h. rw (⊖_up a b h) (omega arith))
    (which a b)
