-- docs/RULES.md, "Lines, curves, cells": what is stored, told by the deposits in drawing order, the oldest first.
-- No word of the workspace is named here.
use Rattle.std.specs.Prelude.{ℕ, ◌+◌, ◌*◌, ◌%◌, ◌^◌, Bool, true, false, not, ◌||◌, List, [], ◌∷◌, ◌==◌}

-- the place of a column and a row: 8192·row + column, rows from the band's first, columns counted from 0 for column −1
abbrev pub per_row : ℕ
per_row = 8192

abbrev pub place_of : ℕ → ℕ → ℕ
place_of row column = per_row * row + column

-- a pair stored in a place; its parts are the bits of signed 32-bit numbers
pub record Deposit : Type 0 where
  pub place : ℕ
  pub cover : ℕ
  pub area : ℕ

abbrev pub given : ℕ → ℕ → ℕ → ℕ → Deposit
given row column cover area = record { place = place_of row column; cover = cover; area = area }

abbrev pub cover_of : Deposit → ℕ
cover_of d = d.cover

abbrev pub area_of : Deposit → ℕ
area_of d = d.area

abbrev pub on : Bool → ℕ → ℕ
on true n = n
on false n = 0

-- whether a place is stored
unfoldable pub known : List Deposit → ℕ → Bool
known [] p = false
known (d ∷ ds) p = p == d.place || known ds p

-- how many distinct places are
unfoldable pub distinct : List Deposit → ℕ
unfolding known
distinct [] = 0
distinct (d ∷ ds) = distinct ds + on (not (known ds d.place)) 1

-- the sum of a part over the deposits whose places pass a test
unfoldable pub total : (Deposit → ℕ) → (ℕ → Bool) → List Deposit → ℕ
total f t [] = 0
total f t (d ∷ ds) = on (t d.place) (f d) + total f t ds

-- sums wrap at 32 bits
unfoldable pub sum_of : (Deposit → ℕ) → (ℕ → Bool) → List Deposit → ℕ
unfolding total
sum_of f t ds = total f t ds % 2 ^ 32
