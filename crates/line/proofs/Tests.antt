-- Two tests joined: what they say of numbers, and each of them where both hold.
use Prim.Native.Nat.{ℕ, ◌<◌, ◌≤◌}
use mathlib.Core.Path.{◌≡◌, refl}
use mathlib.Core.Bool.{Bool, true, false, ◌&&◌, and-false, false≢true}
use mathlib.Core.Logic.{⊎_elim}
use lib.Dec.{leb, ltb, eqb}
use borrow.Author.Tests.{lt-ltb, le-ltb, le-leb, lt-leb, eq-eqb, ne_eqb, eqb-true}
use Rattle.float.proofs.Differences.{which}

pub both_true : (x y : Bool) → (x && y) ≡ true → (x ≡ true) × (y ≡ true)
both_true true true e = (refl, refl)
both_true true false e = absurd (false≢true e)
both_true false y e = absurd (false≢true e)

module _ (a b c d : ℕ) where
  pub no_lt : (a ≤ b → d ≤ c) → (leb a b && ltb c d) ≡ false
  no_lt f = ⊎_elim (λ h. rw (lt-leb a b h)) (λ h. rw (le-ltb c d (f h), and-false (leb a b))) (which b a)

  pub no_le : (a ≤ b → d < c) → (leb a b && leb c d) ≡ false
  no_le f = ⊎_elim (λ h. rw (lt-leb a b h)) (λ h. rw (lt-leb c d (f h), and-false (leb a b))) (which b a)

  pub no_eq : (a ≡ b → c ≡ d → ⊥) → (eqb a b && eqb c d) ≡ false
  no_eq f = go (eqb a b) refl
    where
      go : (t : Bool) → eqb a b ≡ t → (t && eqb c d) ≡ false
      go true e = ne_eqb c d (f (eqb-true a b e))
      go false e = refl

  pub yes_lt : a ≤ b → c < d → (leb a b && ltb c d) ≡ true
  yes_lt f g = rw (le-leb a b f, lt-ltb c d g)

  pub yes_le : a ≤ b → c ≤ d → (leb a b && leb c d) ≡ true
  yes_le f g = rw (le-leb a b f, le-leb c d g)

  pub yes_lts : a < b → c < d → (ltb a b && ltb c d) ≡ true
  yes_lts f g = rw (lt-ltb a b f, lt-ltb c d g)

  pub yes_eq : a ≡ b → c ≡ d → (eqb a b && eqb c d) ≡ true
  yes_eq f g = rw (eq-eqb a b f, eq-eqb c d g)
