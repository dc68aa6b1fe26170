-- docs/RULES.md, "When a label is turned away": the pool, and what a list stores in it. Of the label the width and the
-- band [first, end) are told.
use Rattle.std.specs.Prelude.{ℕ, ◌+◌, ◌-◌, ◌/◌, ◌≤◌, min, ◌≡◌, List, [], length, Some, Result}
use Rattle.geometry.specs.declared.Point.{Point}
use Rattle.geometry.specs.declared.Transform.{Transform}
use Rattle.command.specs.declared.Command.{Command}
use Rattle.storage.specs.Answers.{most_rows}
use Rattle.pen.specs.declared.Frame.{Frame}
use Rattle.pen.specs.declared.boards.Board.{Board}
use Rattle.pen.specs.Drawing.{rows, width, Holding}
use Rattle.raster.specs.Path.{deposits_of}
use Rattle.path.specs.Reading.{path, read_list}
use Rattle.path.specs.declared.Overfull.{Overfull}
use Rattle.path.specs.Strokes.{strokes_of}
use Rattle.path.specs.Storing.{stored_by, Within, Filled}

-- how many cells the pool has: a quarter, rounded down, of the words that the rows leave, but no more than 16,384
abbrev pub pool_of : ℕ → ℕ → ℕ
pool_of rows words = min 16384 ((words - rows) / 4)

-- the drawing's edges, as cells
abbrev pub frame_of : ℕ → ℕ → ℕ → Frame
frame_of width first end = record { wide = 8192 + width; first = 8192 + first; end = 8192 + end }

-- a band that is not too large, and words enough for its heads
pub record Fits (width first end words : ℕ) : Type 0 where
  pub narrow : width ≤ most_rows
  pub ordered : first ≤ end
  pub low : end ≤ most_rows
  pub heads : end - first ≤ words

-- of an accepted list, where the words held nothing: what its strokes store is in them, or is too much for the pool
pub record Traced (board : Board) (ws ws' : List ℕ) (t : Transform) (o : Point) (s : List ℕ) (r : Result ℕ Overfull) : Type 0 where
  pub within : Within board.cap (length s) r
  pub same : length ws' ≡ length ws
  pub stored : (cs : List Command) → read_list t o s ≡ path cs → Holding board.frame board.cap ws (Some 0) []
      → Filled ws' (rows board.frame) (width board.frame) board.cap (deposits_of board.frame (strokes_of t o cs)) (stored_by board.frame (strokes_of t o cs)) r

-- the same of words that held anything, for a band
pub record Poured (t : Transform) (o : Point) (width first end : ℕ) (s before after : List ℕ) (r : Result ℕ Overfull) : Type 0 where
  pub within : Within (pool_of (end - first) (length before)) (length s) r
  pub same : length after ≡ length before
  pub stored : (cs : List Command) → read_list t o s ≡ path cs
      → Filled after (end - first) width (pool_of (end - first) (length before))
      (deposits_of (frame_of width first end) (strokes_of t o cs)) (stored_by (frame_of width first end) (strokes_of t o cs)) r
