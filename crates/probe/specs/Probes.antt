-- How the probes' types stand for those of the crates below.
use Rattle.std.specs.Prelude.{ℕ, ◌≡◌, true, false, cond, ◌&&◌, List, [], ◌∷◌, ◌++◌, leb, ltb, length, replicate, pos, Float, Option, None, Some}
use Rattle.float.specs.Cut.{zero_f}
use Rattle.geometry.specs.declared.Point.{Point}
use Rattle.geometry.specs.declared.Bounds.{Bounds}
use Rattle.geometry.specs.declared.Placed.{Placed}
use Rattle.geometry.specs.Affine.{point_of}
use Rattle.geometry.specs.Box.{bounds_of}
use Rattle.storage.specs.Deposits.{per_row, Deposit, given, distinct}
use Rattle.storage.specs.Answers.{most_rows, kept_of, Stored}
use Rattle.path.specs.Pouring.{pool_of}
use Rattle.label.specs.declared.Label.{Label}
use Rattle.label.specs.declared.Numbers.{Numbers}
use Rattle.label.specs.Draw.{Answer, numbers_of}
use Rattle.label.specs.Inking as inking
use Rattle.mosszephyr.specs.Face.{point_in_c, point_out_of_c}
use Rattle.probe.specs.declared.MzBox.{MzBox}
use Rattle.probe.specs.declared.MzPlaced.{MzPlaced}

abbrev pub box_out_of_c : MzBox → Bounds
box_out_of_c b = bounds_of (point_out_of_c b.min) (point_out_of_c b.max)

abbrev pub box_in_c : Bounds → MzBox
box_in_c b = record { min = point_in_c b.min; max = point_in_c b.max }

abbrev pub placed_in_c : Option Placed → MzPlaced
placed_in_c (Some p) = record {
  placed = true;
  offset = point_in_c p.offset;
  left = p.placement.left;
  top = p.placement.top;
  width = p.placement.width;
  height = p.placement.height;
}
placed_in_c None = record { placed = false; offset = record { x = zero_f; y = zero_f }; left = pos 0; top = pos 0; width = 0; height = 0 }

-- numbers, x and y alternating, as points; an odd last number is left out
unfoldable pub pairs_of : List Float → List Point
pairs_of [] = []
pairs_of (x ∷ []) = []
pairs_of (x ∷ (y ∷ zs)) = point_of x y ∷ pairs_of zs

-- the numbers of an answer with its cells in the words (`label::cells`)
pub record Celled (l : Label) (s words words' : List ℕ) (r : Numbers) : Type 0 where
  pub answer : Answer
  pub numbers : r ≡ numbers_of answer
  pub celled : inking.Celled l s 0xffff_ffff_ffff_ffff words words' answer

-- ---- pairs stored one behind the other

-- the last column of a row, counted from 0 for column −1
abbrev pub last_column : ℕ
last_column = 8191

-- what a pair stores in a pool of so many rows: nothing outside its rows or columns
abbrev pub deposit_of : ℕ → ℕ → ℕ → ℕ → ℕ → List Deposit
deposit_of rows row column cover area = cond (ltb row rows && ltb column per_row) (given row column cover area ∷ []) []

-- numbers, four a pair: row, column, cover, area; up to three numbers too many are left out
unfoldable pub deposits_of : ℕ → List ℕ → List Deposit
deposits_of rows (row ∷ (column ∷ (cover ∷ (area ∷ more)))) = deposit_of rows row column cover area ++ deposits_of rows more
deposits_of rows (row ∷ (column ∷ (cover ∷ []))) = []
deposits_of rows (row ∷ (column ∷ [])) = []
deposits_of rows (row ∷ []) = []
deposits_of rows [] = []

-- the sizes are no pool's, or the pool keeps the pairs so
pub data Run : Type 0 where
  unpooled : Run
  pooled : Option ℕ → Run

-- the run of a log in so many words
unfoldable pub run_of : ℕ → ℕ → List Deposit → Run
unfolding distinct
run_of rows words log = cond (leb rows most_rows && leb rows words) (pooled (kept_of (pool_of rows words) (distinct log))) unpooled

-- the answer where no cells are left in the words; a pool has no more than 16,384
abbrev pub no_cells : ℕ
no_cells = 65535

-- the number of cells
abbrev pub cells_of : Run → ℕ
cells_of (pooled (Some n)) = n
cells_of (pooled None) = no_cells
cells_of unpooled = no_cells

-- the words afterwards: they hold the log, or are zero, or are as they were
abbrev pub Left : ℕ → List Deposit → List ℕ → List ℕ → Run → Type 0
Left rows log before after (pooled (Some n)) = Stored after rows last_column (pool_of rows (length before)) log (Some n)
Left rows log before after (pooled None) = after ≡ replicate (length before) 0
Left rows log before after unpooled = after ≡ before

-- the run of the pairs: its answer, and what it leaves in the words
pub record Ran (rows : ℕ) (pairs before after : List ℕ) (r : ℕ) : Type 0 where
  pub told : r ≡ cells_of (run_of rows (length before) (deposits_of rows pairs))
  pub left : Left rows (deposits_of rows pairs) before after (run_of rows (length before) (deposits_of rows pairs))
