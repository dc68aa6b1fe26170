-- A pair as 32-bit words: a difference is taken from 2^32 more, and both products of an area are small.
use Prim.Native.Nat.{ℕ, ◌+◌, ◌*◌, ◌-◌, ◌%◌, ◌^◌, ◌<◌}
use mathlib.Core.Path.{◌≡◌, sym, ap, ◌∙◌}
use mathlib.Core.Logic.{⊎_elim}
use native.Mathlib.Omega.{arith}
use lib.IntN.{pos, ◌*ℤ◌, *ℤ_comm}
use Rattle.float.specs.Differences.{◌⊖◌}
use Rattle.float.proofs.Differences.{which, ⊖_up, ⊖_down, ⊖_mul}
use Rattle.line.specs.Walk.{word}

pub word_sub : (a b : ℕ) → a < 2 ^ 32 → b < 2 ^ 32 → (a + (4294967296 - b)) % 4294967296 ≡ word (a ⊖ b)
word_sub a b h k = ⊎_elim
    (λ g. rw (⊖_down a b g) (omega arith))
    (λ g. rw (⊖_up a b g) (omega arith))
    (which a b)

pub word_area : (w a b : ℕ) → word ((w * a) ⊖ (w * b)) ≡ word ((a ⊖ b) *ℤ pos w)
word_area w a b = ap word (sym (⊖_mul w a b) ∙ *ℤ_comm (pos w) (a ⊖ b))
