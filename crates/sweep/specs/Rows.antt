-- What the sweep of a row and of a cell needs and leaves. A row's pixels are its bytes from 0 on.
use Rattle.std.specs.Prelude.{◌≡◌, ℕ, ◌+◌, ◌-◌, ◌*◌, ◌%◌, ◌^◌, ◌<◌, ◌≤◌, List, length, slice_index}
use Rattle.storage.specs.Deposits.{per_row, Deposit}
use Rattle.storage.specs.Cells.{Holds}
use Rattle.storage.specs.Answers.{most_rows}
use Rattle.sweep.specs.declared.Fill.{Fill}
use Rattle.sweep.specs.Pixels.{signed, byte_of, pixel}

pub record RowFits (words out : List ℕ) (rows count row width : ℕ) : Type 0 where
  pub fits : rows + 4 * count ≤ length words
  pub few_rows : rows ≤ most_rows
  pub inside : row < rows
  pub narrow : width < per_row
  pub room : width ≤ length out

pub record RowSwept (words before after : List ℕ) (rows count row width : ℕ) (fill : Fill) : Type 0 where
  pub painted : (log : List Deposit) → Holds words rows width count log → (x : ℕ) → x < width → slice_index after x ≡ pixel fill log row x
  pub kept : (x : ℕ) → width ≤ x → slice_index after x ≡ slice_index before x

-- ---- a run of one byte, and a cell. Columns are counted from column −1, which has no byte

-- the columns from low up to high have the byte b; the others are as they were
pub record Painted (d d' : List ℕ) (low high b : ℕ) : Type 0 where
  pub inside : (x : ℕ) → low ≤ x + 1 → x + 1 < high → slice_index d' x ≡ b
  pub before : (x : ℕ) → x + 1 < low → slice_index d' x ≡ slice_index d x
  pub behind : (x : ℕ) → high ≤ x + 1 → slice_index d' x ≡ slice_index d x

-- the columns from low up to the cell's have the byte of the cover before it, and the cell's has its own; the cover is summed
pub record CellSwept (words : List ℕ) (at : ℕ) (d d' : List ℕ) (low column cover : ℕ) (fill : Fill) (r : ℕ) : Type 0 where
  pub sum : r ≡ (cover + slice_index words (at + 1)) % 2 ^ 32
  pub before : (x : ℕ) → x + 1 < low → slice_index d' x ≡ slice_index d x
  pub inside : (x : ℕ) → low ≤ x + 1 → x + 1 < column → slice_index d' x ≡ byte_of fill (signed ((512 * cover) % 2 ^ 32))
  pub here : (x : ℕ) → x + 1 ≡ column → slice_index d' x ≡ byte_of fill (signed ((512 * r + (2 ^ 32 - slice_index words (at + 2))) % 2 ^ 32))
  pub behind : (x : ℕ) → column < x + 1 → slice_index d' x ≡ slice_index d x
