-- Worked values, by computation: what pairs of numbers store, and how many cells that makes.
use Rattle.std.specs.Prelude.{ℕ, ◌≡◌, refl, List, [], ◌∷◌, map}
use Rattle.storage.specs.Deposits.{Deposit, given}
use Rattle.probe.specs.Probes.{deposits_of, run_of, no_cells, cells_of}

-- what the pairs of the table store
abbrev log : List Deposit
log = given 1 2 3 4 ∷ given 0 8191 9 10 ∷ given 1 2 11 12 ∷ []

pub record Table : Type 0 where
  -- two rows: row 1, column 2, cover 3, area 4; then row 2 and column 8192, which are outside; the last column of row 0; the first
  -- place again; and three numbers too many
  pub pairs :
      deposits_of 2
      (1 ∷ 2 ∷ 3 ∷ 4
      ∷ 2 ∷ 0 ∷ 5 ∷ 6
      ∷ 0 ∷ 8192 ∷ 7 ∷ 8
      ∷ 0 ∷ 8191 ∷ 9 ∷ 10
      ∷ 1 ∷ 2 ∷ 11 ∷ 12
      ∷ 1 ∷ 1 ∷ 1 ∷ [])
      ≡ log
  -- their two places in 10 words, which have room for two cells; in 9, which have room for one; in 1, fewer than the rows
  pub cells : map (λ (words : ℕ). cells_of (run_of 2 words log)) (10 ∷ 9 ∷ 1 ∷ []) ≡ 2 ∷ no_cells ∷ no_cells ∷ []
  -- no pairs: 4,096 and 4,097 rows in 4,097 words
  pub most_rows_is : map (λ (rows : ℕ). cells_of (run_of rows 4097 [])) (4096 ∷ 4097 ∷ []) ≡ 0 ∷ no_cells ∷ []

pub table : Table
unfolding deposits_of run_of
table = record { pairs = refl; cells = refl; most_rows_is = refl }
