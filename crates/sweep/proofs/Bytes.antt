-- The byte of a word is the byte of its signed number. A word from 2 ^ 31 on is below 0; its complement, 2 ^ 32 − 1 less it, is −v − 1, and a
-- shift to the right and a complement change places.
use Rattle.std.proofs.Common.{◌≡◌, ℕ, ◌-◌, ◌/◌, ◌%◌, ◌^◌, ◌<◌, ◌≤◌, ap, arith, le-ltb, lt-ltb}
use native.Mathlib.Decide.{dec_lt}
use Rattle.sweep.specs.declared.Fill.TheVariants.{EvenOdd}
use Rattle.sweep.specs.Pixels.{folded, signed, byte_of}

-- the remainder of the word is that of the signed number
even_folded : (v : ℕ) → v < 2 ^ 32 → byte_of EvenOdd (signed v) ≡ folded (v / 512 % 512)
even_folded v f = go (dec_lt v (2 ^ 31))
  where
    go : Dec (v < 2 ^ 31) → byte_of EvenOdd (signed v) ≡ folded (v / 512 % 512)
    go (yes g) = rw (lt-ltb v (2 ^ 31) g)
    go (no n) =
        let g : 2 ^ 31 ≤ v = omega arith in
        let q : 511 - (2 ^ 32 - 1 - v) / 512 % 512 ≡ v / 512 % 512 = omega arith in
        rw (le-ltb v (2 ^ 31) g) (ap folded q)
