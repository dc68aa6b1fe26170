-- How often the lines of a quad double. Each time its number falls to a quarter, so a number up to 64 · 4 ^ k lets them double k times at most,
-- and more steps than that change nothing.
use Prim.Native.Nat.{ℕ, zero, suc, ◌-◌, ◌*◌, ◌/◌, ◌^◌, ◌≤◌, ◌<◌}
use mathlib.Core.Path.{◌≡◌, refl, sym, ap, ◌∙◌}
use mathlib.Core.Logic.{◌⊎◌, inl, inr, ⊎_elim}
use native.Mathlib.Omega.{arith}
use native.Mathlib.Nat.{pow-suc, le_of_suc-le-suc, eq-zero-or-pos, mul_assoc, mul-one, mul-le-mul_left}
use lib.Pow.{pow_pos, pow_mono}
use borrow.Author.Tests.{lt-ltb, le-ltb}
use Rattle.fixed.specs.declared.FixedPoint.{FixedPoint}
use Rattle.line.specs.Range.{Reach}
use Rattle.quad.specs.Quads.{bend, doublings}

no_steps : (d : ℕ) → doublings 0 d ≡ 0
unfolding doublings
no_steps d = refl

-- a number that exceeds 64, and one that does not
doubles : (n d : ℕ) → 64 < d → doublings (suc n) d ≡ suc (doublings n (d / 4))
unfolding doublings
doubles n d h = rw (lt-ltb _ _ h)

settled : (n d : ℕ) → d ≤ 64 → doublings n d ≡ 0
unfolding doublings
settled zero d h = refl
settled (suc n) d h = rw (le-ltb _ _ h)

exceeds : (d : ℕ) → (64 < d) ⊎ (d ≤ 64)
exceeds d = ⊎_elim (λ (h : d - 64 ≡ 0). inr (omega arith)) (λ (h : 0 < d - 64). inl (omega arith)) (eq-zero-or-pos (d - 64))

quarter : (k d : ℕ) → d ≤ 64 * 4 ^ suc k → d / 4 ≤ 64 * 4 ^ k
quarter k d h = omega (arith, pow-suc 4 k)

pub at_most : (k n d : ℕ) → d ≤ 64 * 4 ^ k → doublings n d ≤ k
at_most zero n d h = omega (arith, settled n d h)
at_most (suc k) zero d h = omega (arith, no_steps d)
at_most (suc k) (suc n) d h =
    ⊎_elim (λ (g : 64 < d). omega (arith, doubles n d g, at_most k n (d / 4) (quarter k d h))) (λ (g : d ≤ 64). omega (arith, settled (suc n) d g)) (exceeds d)

pub enough : (k n d : ℕ) → d ≤ 64 * 4 ^ k → k ≤ n → doublings n d ≡ doublings k d
enough zero n d h l = settled n d h ∙ sym (settled 0 d h)
enough (suc k) zero d h l = absurd (omega arith)
enough (suc k) (suc n) d h l =
    ⊎_elim (λ (g : 64 < d). doubles n d g ∙ ap suc (enough k n (d / 4) (quarter k d h) (le_of_suc-le-suc l)) ∙ sym (doubles k d g))
    (λ (g : d ≤ 64). settled (suc n) d g ∙ sym (settled (suc k) d g)) (exceeds d)

-- within reach: 8 at most, and so any number of steps from 8 on gives the same
reach_bend : (a c b : FixedPoint) → Reach a → Reach c → Reach b → bend a c b ≤ 64 * 4 ^ 8
reach_bend a c b p q r = omega arith

pub eight : (a c b : FixedPoint) → Reach a → Reach c → Reach b → (n : ℕ) → doublings n (bend a c b) ≤ 8
eight a c b p q r n = at_most 8 n (bend a c b) (reach_bend a c b p q r)

pub from_eight : (a c b : FixedPoint) → Reach a → Reach c → Reach b → (n : ℕ) → 8 ≤ n → doublings n (bend a c b) ≡ doublings 8 (bend a c b)
from_eight a c b p q r n h = enough 8 n (bend a c b) (reach_bend a c b p q r) h

-- ---- the loop: so many lines as there are by now, doubled as often as is left, are all of them
pub record Doubled (whole d n : ℕ) : Type 0 where
  pub steps : ℕ
  pub small : d ≤ 64 * 4 ^ steps
  pub same : n * 2 ^ doublings steps d ≡ 2 ^ doublings 16 whole

pub begun : (d : ℕ) → d < 2 ^ 32 → Doubled d d 1
begun d h = record { steps = 16; small = omega arith; same = omega arith }

pub doubled : {whole d n : ℕ} → Doubled whole d n → 64 < d → Doubled whole (d / 4) (n * 2)
doubled {whole} {d} {n} i h = go i.steps i.small i.same
  where
    go : (k : ℕ) → d ≤ 64 * 4 ^ k → n * 2 ^ doublings k d ≡ 2 ^ doublings 16 whole → Doubled whole (d / 4) (n * 2)
    go zero s e = absurd (omega arith)
    go (suc k) s e =
        record {
          steps = k;
          small = quarter k d s;
          same =
              mul_assoc n 2 (2 ^ doublings k (d / 4))
              ∙ ap (λ (x : ℕ). n * x) (omega (arith, pow-suc 2 (doublings k (d / 4))))
              ∙ ap (λ (x : ℕ). n * 2 ^ x) (sym (doubles k d h))
              ∙ e;
        }

pub done : {whole d n : ℕ} → Doubled whole d n → d ≤ 64 → n ≡ 2 ^ doublings 16 whole
done {whole} {d} {n} i h = sym (mul-one n) ∙ ap (λ (x : ℕ). n * 2 ^ x) (sym (settled i.steps d h)) ∙ i.same

-- they stay below 2 ^ 16
pub few : {whole d n : ℕ} → whole < 2 ^ 32 → Doubled whole d n → n ≤ 2 ^ 16
few {whole} {d} {n} w i =
    let m : doublings 16 whole ≤ 16 = at_most 16 16 whole (omega arith) in
    omega (arith, i.same, pow_mono m, mul-le-mul_left n (pow_pos (doublings i.steps d)))
