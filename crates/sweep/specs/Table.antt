-- Bytes of values and the mask of K1, by computation.
use Rattle.std.specs.Prelude.{◌≡◌, ℕ, ◌-◌, ◌^◌, true, false, List, [], ◌∷◌, replicate, ℤ, pos, negsuc, refl}
use Rattle.storage.specs.Deposits.{Deposit, given}
use Rattle.sweep.specs.declared.Fill.TheVariants.{NonZero, EvenOdd}
use Rattle.sweep.specs.Pixels.{byte_of, signed}
use Rattle.sweep.specs.Masks.{mask_from}

-- the bytes of a value under either rule: nonzero, even-odd
abbrev pub bytes : ℤ → List ℕ
bytes v = byte_of NonZero v ∷ byte_of EvenOdd v ∷ []

-- what K1 stores: row 1 has cover 256 at column 3 and −256 at column 1
abbrev pub k1_log : List Deposit
k1_log = given 1 4 256 0 ∷ given 1 2 (2 ^ 32 - 256) 0 ∷ []

pub record Table : Type 0 where
  pub k9 : bytes (negsuc 131071) ≡ 255 ∷ 255 ∷ []
  pub k10 : bytes (pos 262144) ≡ 255 ∷ 0 ∷ []
  pub minus_1 : bytes (negsuc 0) ≡ 0 ∷ 0 ∷ []
  pub zero : bytes (pos 0) ≡ 0 ∷ 0 ∷ []
  pub last_of_0 : bytes (pos 511) ≡ 0 ∷ 0 ∷ []
  pub first_of_1 : bytes (pos 512) ≡ 1 ∷ 1 ∷ []
  pub last_of_255 : bytes (pos 131071) ≡ 255 ∷ 255 ∷ []
  pub first_of_256 : bytes (pos 131072) ≡ 255 ∷ 255 ∷ []
  pub word_of_k9 : signed (2 ^ 32 - 131072) ≡ negsuc 131071
  -- K1's mask over old bytes of 7, with pitch 5: the fifth byte of a line stays
  pub k1 :
      mask_from NonZero k1_log 3 4 false 5 0 (replicate 14 7)
      ≡ 0 ∷ 0 ∷ 0 ∷ 0 ∷ 7
      ∷ 0 ∷ 255 ∷ 255 ∷ 0 ∷ 7
      ∷ 0 ∷ 0 ∷ 0 ∷ 0 ∷ []
  -- its two last rows, as a band, from the bottom
  pub k1_up :
      mask_from NonZero (given 0 4 256 0 ∷ given 0 2 (2 ^ 32 - 256) 0 ∷ []) 2 4 true 4 0 (replicate 8 7)
      ≡ 0 ∷ 0 ∷ 0 ∷ 0
      ∷ 0 ∷ 255 ∷ 255 ∷ 0 ∷ []

pub table : Table
unfolding mask_from
table = record {
  k9 = refl;
  k10 = refl;
  minus_1 = refl;
  zero = refl;
  last_of_0 = refl;
  first_of_1 = refl;
  last_of_255 = refl;
  first_of_256 = refl;
  word_of_k9 = refl;
  k1 = refl;
  k1_up = refl;
}
