-- Cases are counted one by one: none differs where each agrees.
use Rattle.std.proofs.Common.{◌≡◌, ℕ, ◌+◌, ◌<◌, ◌≤◌, ◌==◌, ◌↔◌, Bool, true, false, not, if◌then◌else◌, refl, arith, add-one, below_more}
use Rattle.std.specs.Int.{from_bool}
use Rattle.replay.specs.Agreeing.{accepted_of, nth}

-- the count of those that differ stays 0 where one more agrees, and is above 0 where it does not
pub one_more : (P : ℕ → Type 0) (b : Bool) (d i : ℕ) → (d ≡ 0) ↔ ((k : ℕ) → k < i → P k) → (b ≡ true) ↔ P i → (d + from_bool (not b) ≡ 0) ↔ ((k : ℕ) → k < i + 1 → P k)
one_more P true d i before here = (
  λ e. below_more P i (before.0 (omega arith)) (here.0 refl),
  λ all. let e : d ≡ 0 = before.1 (λ k h. all k (omega arith)) in omega arith,
)
one_more P false d i before here =
    (λ e. absurd (omega arith), λ all. absurd (let e : false ≡ true = here.1 (all i (omega arith)) in cc))

-- one case more is accepted or refused
pub one_counted : (b : Bool) (a r i : ℕ) → a + r ≡ i → a + from_bool b + (r + from_bool (not b)) ≡ i + 1
one_counted true a r i so_far = omega arith
one_counted false a r i so_far = omega arith

counts : (b : Bool) (a : ℕ) → a + from_bool b ≡ a + (if b then 1 else 0)
counts true a = refl
counts false a = refl

pub one_accepted : (number : ℕ → ℕ) (n a i : ℕ) → n ≡ number i → a ≡ accepted_of number i → a + from_bool (n == 0) ≡ accepted_of number (i + 1)
unfolding accepted_of
one_accepted number n a i e so_far = rw (add-one, ← e, ← so_far) (counts (n == 0) a)

pub one_at_most : (b : Bool) (d i : ℕ) → d ≤ i → d + from_bool b ≤ i + 1
one_at_most true d i few = omega arith
one_at_most false d i few = omega arith

pub nth-next : (next : ℕ → ℕ) (from k : ℕ) → nth next from (k + 1) ≡ next (nth next from k)
unfolding nth
nth-next next from k = rw add-one
