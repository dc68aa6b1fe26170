-- docs/RULES.md, "Whole numbers". ℕ has the numbers from 0 on, ℤ those with a sign: pos n is n, negsuc n is −n − 1.
use Rattle.std.specs.Prelude.{ℕ, ◌^◌, Bool, eqb, ℤ, pos, negsuc, nat_abs, ◌+ℤ◌, ◌-ℤ◌, ◌*ℤ◌}
use Rattle.std.specs.Int.Signed.{le_z, lt_z, shr_z}

abbrev pub −1 : ℤ
−1 = negsuc 0

abbrev pub +0 : ℤ
+0 = pos 0

abbrev pub +1 : ℤ
+1 = pos 1

abbrev pub +256 : ℤ
+256 = pos 256

infixl 65 ◌+ᶻ◌ ◌-ᶻ◌
abbrev pub ◌+ᶻ◌ : ℤ → ℤ → ℤ
a +ᶻ b = a +ℤ b

abbrev pub ◌-ᶻ◌ : ℤ → ℤ → ℤ
a -ᶻ b = a -ℤ b

infixl 70 ◌*ᶻ◌ ◌·◌ ◌/ᶻ◌
abbrev pub ◌*ᶻ◌ : ℤ → ℤ → ℤ
a *ᶻ b = a *ℤ b

abbrev pub ◌·◌ : ℕ → ℤ → ℤ  -- so many times
n · a = pos n *ℤ a

abbrev pub ◌/ᶻ◌ : ℤ → ℕ → ℤ  -- divided, rounded down
a /ᶻ n = shr_z a n

infix 50 ◌<ᶻ◌ ◌≤ᶻ◌ ◌==ᶻ◌
abbrev pub ◌<ᶻ◌ : ℤ → ℤ → Bool
a <ᶻ b = lt_z a b

abbrev pub ◌≤ᶻ◌ : ℤ → ℤ → Bool
a ≤ᶻ b = le_z a b

abbrev pub ◌==ᶻ◌ : ℤ → ℤ → Bool
a ==ᶻ b = eqb (nat_abs (a -ᶻ b)) 0

-- a number kept in 32 bits with a sign: the one from −2^31 to 2^31 − 1 that differs from it by a multiple of 2^32
unfoldable pub wrapped : ℤ → ℤ
wrapped a = a -ᶻ 2 ^ 32 · ((a +ᶻ pos (2 ^ 31)) /ᶻ 2 ^ 32)
