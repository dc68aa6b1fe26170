-- Integers: products go over sums, and sizes over both.
use Prim.Native.Nat.{ℕ, zero, suc, ◌+◌, ◌*◌, ◌≤◌}
use mathlib.Core.Path.{◌≡◌, refl, sym, ap, ◌∙◌}
use native.Mathlib.Omega.{arith}
use lib.IntN.{ℤ, pos, negsuc, neg_ℤ, nat_abs, sub_ℕ, ◌+ℤ◌, ◌*ℤ◌, ℤ_ind, +ℤ_idr, +ℤ_one, -ℤ_one, +ℤ_assoc, +ℤ_comm, neg_ℤ-neg_ℤ, zero-*ℤ, suc_ℤ-*ℤ, pred_ℤ-*ℤ, *ℤ_comm}
use Rattle.float.specs.Differences.{◌⊖◌}
use Rattle.float.proofs.Differences.{⊖_abs}

-- one more of a factor, and one less
more : (a c : ℤ) → (a +ℤ pos (suc zero)) *ℤ c ≡ a *ℤ c +ℤ c
more a c = ap (λ (z : ℤ). z *ℤ c) (+ℤ_one a) ∙ suc_ℤ-*ℤ a c

less : (a c : ℤ) → (a +ℤ neg_ℤ (pos (suc zero))) *ℤ c ≡ a *ℤ c +ℤ neg_ℤ c
less a c = ap (λ (z : ℤ). z *ℤ c) (-ℤ_one a) ∙ pred_ℤ-*ℤ a c

pub neg_times : (a b : ℤ) → neg_ℤ a *ℤ b ≡ neg_ℤ (a *ℤ b)
neg_times (pos zero) b = rw (zero-*ℤ b)
neg_times (pos (suc n)) (pos k) = refl
neg_times (pos (suc n)) (negsuc k) = sym (neg_ℤ-neg_ℤ (pos (suc n * suc k)))
neg_times (negsuc n) (pos k) = sym (neg_ℤ-neg_ℤ (pos (suc n * k)))
neg_times (negsuc n) (negsuc k) = refl

spread : (a b c : ℤ) → (a +ℤ b) *ℤ c ≡ a *ℤ c +ℤ b *ℤ c
spread a b c = ℤ_ind (λ (z : ℤ). (a +ℤ z) *ℤ c ≡ a *ℤ c +ℤ z *ℤ c)
    (rw (+ℤ_idr a, zero-*ℤ c, +ℤ_idr (a *ℤ c)))
    (λ n h. step (pos n) (pos (suc zero)) c (more (a +ℤ pos n) c) (more (pos n) c) h)
    (λ n h. step (neg_ℤ (pos n)) (neg_ℤ (pos (suc zero))) (neg_ℤ c) (less (a +ℤ neg_ℤ (pos n)) c) (less (neg_ℤ (pos n)) c) h)
    b
  where
    step : (z d e : ℤ) → (a +ℤ z +ℤ d) *ℤ c ≡ (a +ℤ z) *ℤ c +ℤ e → (z +ℤ d) *ℤ c ≡ z *ℤ c +ℤ e
        → (a +ℤ z) *ℤ c ≡ a *ℤ c +ℤ z *ℤ c → (a +ℤ (z +ℤ d)) *ℤ c ≡ a *ℤ c +ℤ (z +ℤ d) *ℤ c
    step z d e f g h =
        ap (λ (k : ℤ). k *ℤ c) (sym (+ℤ_assoc a z d))
        ∙ f
        ∙ ap (λ (k : ℤ). k +ℤ e) h
        ∙ +ℤ_assoc (a *ℤ c) (z *ℤ c) e
        ∙ ap (λ (k : ℤ). a *ℤ c +ℤ k) (sym g)

spread_left : (a b c : ℤ) → a *ℤ (b +ℤ c) ≡ a *ℤ b +ℤ a *ℤ c
spread_left a b c = *ℤ_comm a (b +ℤ c) ∙ spread b c a ∙ rw (*ℤ_comm b a, *ℤ_comm c a)

times_assoc : (a b c : ℤ) → a *ℤ b *ℤ c ≡ a *ℤ (b *ℤ c)
times_assoc a b c = ℤ_ind (λ (z : ℤ). z *ℤ b *ℤ c ≡ z *ℤ (b *ℤ c))
    (rw (zero-*ℤ b, zero-*ℤ c, zero-*ℤ (b *ℤ c)))
    (λ n h. step (pos n) (pos (suc zero)) b (b *ℤ c) (more (pos n) b) refl (more (pos n) (b *ℤ c)) h)
    (λ n h. step (neg_ℤ (pos n)) (neg_ℤ (pos (suc zero))) (neg_ℤ b) (neg_ℤ (b *ℤ c)) (less (neg_ℤ (pos n)) b) (neg_times b c) (less (neg_ℤ (pos n)) (b *ℤ c)) h)
    a
  where
    step : (z d e f : ℤ) → (z +ℤ d) *ℤ b ≡ z *ℤ b +ℤ e → e *ℤ c ≡ f → (z +ℤ d) *ℤ (b *ℤ c) ≡ z *ℤ (b *ℤ c) +ℤ f
        → z *ℤ b *ℤ c ≡ z *ℤ (b *ℤ c) → (z +ℤ d) *ℤ b *ℤ c ≡ (z +ℤ d) *ℤ (b *ℤ c)
    step z d e f g k l h =
        ap (λ (i : ℤ). i *ℤ c) g
        ∙ spread (z *ℤ b) e c
        ∙ (rw (h, k))
        ∙ sym l

+ℤ_left_comm : (a b c : ℤ) → a +ℤ (b +ℤ c) ≡ b +ℤ (a +ℤ c)
+ℤ_left_comm a b c = sym (+ℤ_assoc a b c) ∙ ap (λ (z : ℤ). z +ℤ c) (+ℤ_comm a b) ∙ +ℤ_assoc b a c

-- rows a b, c d and s t of one transform and the column m n k of another, and the point p q: together, and one after the other
pub columns : (p q a b c d s t m n k : ℤ)
    → p *ℤ (a *ℤ m +ℤ b *ℤ n) +ℤ q *ℤ (c *ℤ m +ℤ d *ℤ n) +ℤ (s *ℤ m +ℤ t *ℤ n +ℤ k)
    ≡ (p *ℤ a +ℤ q *ℤ c +ℤ s) *ℤ m +ℤ (p *ℤ b +ℤ q *ℤ d +ℤ t) *ℤ n +ℤ k
columns p q a b c d s t m n k = simp (spread, spread_left, times_assoc, +ℤ_assoc, +ℤ_comm, +ℤ_left_comm)

-- ---- sizes
size_neg : (z : ℤ) → nat_abs (neg_ℤ z) ≡ nat_abs z
size_neg (pos zero) = refl
size_neg (pos (suc n)) = refl
size_neg (negsuc n) = refl

pub size_times : (a b : ℤ) → nat_abs (a *ℤ b) ≡ nat_abs a * nat_abs b
size_times (pos a) (pos b) = refl
size_times (pos a) (negsuc b) = size_neg (pos (a * suc b))
size_times (negsuc a) (pos b) = size_neg (pos (suc a * b))
size_times (negsuc a) (negsuc b) = refl

size_difference : (a b : ℕ) → nat_abs (sub_ℕ a b) ≤ a + b
unfolding ◌⊖◌
size_difference a b = rw (⊖_abs a b) (omega arith)

pub size_plus : (a b : ℤ) → nat_abs (a +ℤ b) ≤ nat_abs a + nat_abs b
size_plus (pos a) (pos b) = omega arith
size_plus (pos a) (negsuc b) = size_difference a (suc b)
size_plus (negsuc a) (pos b) = omega (arith, size_difference b (suc a))
size_plus (negsuc a) (negsuc b) = omega arith
