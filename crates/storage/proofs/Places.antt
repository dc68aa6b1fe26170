-- A place is one column and one row. A column is below `per_row`, so it fills what a row's multiple leaves open.
use Rattle.std.proofs.Common.{◌≡◌, ℕ, ◌<◌, arith}
use Rattle.storage.specs.Deposits.{per_row, place_of}

-- two columns and rows with one packed number are the same
pub one_place : (row row' column column' : ℕ) → column < per_row → column' < per_row
    → place_of row column ≡ place_of row' column' → (row ≡ row') × (column ≡ column')
one_place row row' column column' h h' e = (omega arith, omega arith)
