-- The integer a − b of two natural numbers. It is kept shut, so that a proof meets it by its laws alone (proofs/Differences.antt).
use Rattle.std.specs.Prelude.{ℕ, ℤ}
use Rattle.std.proofs.Math.IntN.{sub_ℕ}

infixl 6 ◌⊖◌
unfoldable pub ◌⊖◌ : ℕ → ℕ → ℤ
a ⊖ b = sub_ℕ a b
