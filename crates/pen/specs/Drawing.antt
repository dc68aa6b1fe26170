-- What the functions of the pen promise: from words that hold a log, the marks' deposits are added to it.
use Rattle.std.specs.Prelude.{◌≡◌, ℕ, ◌+◌, ◌-◌, ◌*◌, ◌≤◌, List, ◌++◌, length, Option, None, Some}
use Rattle.storage.specs.Deposits.{Deposit}
use Rattle.storage.specs.Answers.{Within, Stored}
use Rattle.pen.specs.declared.Frame.{Frame}
use Rattle.pen.specs.declared.Cell.{Cell}
use Rattle.pen.specs.declared.boards.Board.{Board}
use Rattle.pen.specs.declared.Pen.{Pen}
use Rattle.pen.specs.Marks.{Mark, Stand, nowhere, at, after, Pair, pair_of, left, seen}

-- the band's rows, and the width
abbrev pub rows : Frame → ℕ
rows f = f.end - f.first

abbrev pub width : Frame → ℕ
width f = f.wide - 8192

-- words with room for the band's heads and the pool's cells
pub record Ready (board : Board) (ws : List ℕ) : Type 0 where
  pub fits : board.frame.end + 4 * board.cap ≤ length ws + board.frame.first

-- the words hold the log, or the log has more places than the pool
abbrev pub Holding : Frame → ℕ → List ℕ → Option ℕ → List Deposit → Type 0
Holding f cap ws kept log = Stored ws (rows f) (width f) cap log kept

-- what is seen of the pairs is added to the log
pub record Added (board : Board) (ws ws' : List ℕ) (k k' : Option ℕ) (ds : List Pair) : Type 0 where
  pub same : length ws' ≡ length ws
  pub adds : (log : List Deposit) → Holding board.frame board.cap ws k log → Holding board.frame board.cap ws' k' (log ++ seen board.frame ds)

-- where the pen stands
abbrev pub stood : Option Cell → Stand
stood None = nowhere
stood (Some c) = at c.col c.row c.cover c.area

abbrev pub stand_of : Pen → Stand
stand_of p = stood p.cell

-- the pair that it has in its cell
abbrev pub pair_in : Cell → Pair
pair_in c = pair_of c.col c.row c.cover c.area

-- the pen has made the marks
pub record Drew (board : Board) (ws ws' : List ℕ) (p p' : Pen) (ms : List Mark) : Type 0 where
  pub within : Within board.cap p'.kept
  pub stands : stand_of p' ≡ after (stand_of p) ms
  pub added : Added board ws ws' p.kept p'.kept (left (stand_of p) ms)

unfoldable pub lifted : Pen
lifted = record { cell = None; kept = Some 0 }
