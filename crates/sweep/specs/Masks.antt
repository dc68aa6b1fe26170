-- The mask: by the rule, and what `sweep` needs and leaves.
use Rattle.std.specs.Prelude.{◌≡◌, ℕ, ◌+◌, ◌-◌, ◌*◌, ◌/◌, ◌%◌, ◌<◌, ◌≤◌, Bool, cond, ◌&&◌, List, [], ◌∷◌, length, ◌≢◌, nat_lt, slice_index}
use Rattle.storage.specs.Deposits.{per_row, Deposit}
use Rattle.storage.specs.Cells.{Holds}
use Rattle.storage.specs.Answers.{most_rows}
use Rattle.sweep.specs.declared.Fill.{Fill}
use Rattle.sweep.specs.Pixels.{pixel}

-- ---- the mask, by the rule

-- which band row the line l of the mask shows: the lines go down from the first row, or up to it
abbrev pub row_at : Bool → ℕ → ℕ → ℕ
row_at up rows l = cond up (rows - 1 - l) l

-- the byte at i: a pixel where its line is a band row's and its column below the width, else what was there
abbrev pub byte_at : Fill → List Deposit → ℕ → ℕ → Bool → ℕ → ℕ → ℕ → ℕ
byte_at fill log rows width up pitch i old =
    cond (nat_lt (i / pitch) rows && nat_lt (i % pitch) width) (pixel fill log (row_at up rows (i / pitch)) (i % pitch)) old

-- the mask from the byte at i on
unfoldable pub mask_from : Fill → List Deposit → ℕ → ℕ → Bool → ℕ → ℕ → List ℕ → List ℕ
unfolding pixel
mask_from fill log rows width up pitch i [] = []
mask_from fill log rows width up pitch i (b ∷ bs) = byte_at fill log rows width up pitch i b ∷ mask_from fill log rows width up pitch (i + 1) bs

-- ---- the whole sweep

abbrev pub most_pitch : ℕ
most_pitch = 65536

-- the sizes, of words and a mask of any content
pub record Fits (words mask : List ℕ) (rows count width pitch : ℕ) : Type 0 where
  pub fits : rows + 4 * count ≤ length words
  pub few_rows : rows ≤ most_rows
  pub narrow : width < per_row
  pub pitched : width ≤ pitch
  pub near : pitch ≤ most_pitch
  pub lines : 0 < rows → pitch * (rows - 1) + width ≤ length mask

-- whatever log the words hold, each band row has the width bytes of its pixels; every other byte is as it was
pub record Swept (words before after : List ℕ) (rows count width : ℕ) (fill : Fill) (up : Bool) (pitch : ℕ) : Type 0 where
  pub painted : (log : List Deposit) → Holds words rows width count log → (l x : ℕ) → l < rows → x < width
      → slice_index after (pitch * l + x) ≡ pixel fill log (row_at up rows l) x
  pub kept : (i : ℕ) → ((l x : ℕ) → l < rows → x < width → i ≢ pitch * l + x) → slice_index after i ≡ slice_index before i
  pub long : length after ≡ length before
