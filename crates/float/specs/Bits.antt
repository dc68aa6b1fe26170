-- docs/RULES.md, "The path list": a coordinate is an IEEE 754 binary32 in four bytes, the lowest first.
use Rattle.std.specs.Prelude.{ℕ, ◌+◌, ◌*◌, Float}
use Rattle.std.specs.Float.{binary32}
use Rattle.std.specs.Float.Ieee.{of_bits}

-- the number of four bytes, the first one lowest
abbrev pub word_of : ℕ → ℕ → ℕ → ℕ → ℕ
word_of a b c d = a + b * 0x100 + c * 0x1_0000 + d * 0x100_0000

-- the float whose bits they are; every pattern of a NaN is the one `nan`
abbrev pub float_of : ℕ → ℕ → ℕ → ℕ → Float
float_of a b c d = of_bits binary32 (word_of a b c d)
