-- What the functions of the track ask and promise.
use Rattle.std.specs.Prelude.{ℕ, ◌≡◌, List}
use Rattle.pen.specs.declared.boards.Board.{Board}
use Rattle.pen.specs.Drawing.{Drew}
use Rattle.line.specs.Range.{Reach}
use Rattle.raster.specs.declared.Stroke.{Stroke}
use Rattle.raster.specs.declared.Stroke.TheVariants.{Move, Line, Quad, Cubic, Close}
use Rattle.raster.specs.declared.tracks.Track.{Track}
use Rattle.raster.specs.Path.{stroke_marks, point_after, start_after}

-- every point of a stroke is within reach
abbrev pub ReachAll : Stroke → Type 0
ReachAll (Move b) = Reach b
ReachAll (Line b) = Reach b
ReachAll (Quad c b) = Reach c × Reach b
ReachAll (Cubic c d b) = Reach c × Reach d × Reach b
ReachAll Close = Unit {0}

pub record Stroked (board : Board) (ws ws' : List ℕ) (t : Track) (s : Stroke) (t' : Track) : Type 0 where
  pub drew : Drew board ws ws' t.pen t'.pen (stroke_marks board.frame t.at t.start s)
  pub goes : t'.at ≡ point_after t.start s
  pub starts : t'.start ≡ start_after t.start s
