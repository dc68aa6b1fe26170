-- A stroke is known by the arm that was taken: what is asked and promised of it, said of that case.
use Prim.Native.Nat.{ℕ}
use mathlib.Core.Path.{◌≡◌, refl}
use mathlib.Core.List.{List, [], ◌∷◌, ◌++◌}
use Rattle.fixed.specs.declared.FixedPoint.{FixedPoint}
use Rattle.pen.specs.declared.Frame.{Frame}
use Rattle.pen.specs.declared.boards.Board.{Board}
use Rattle.pen.specs.Drawing.{Drew}
use Rattle.line.specs.Range.{Reach}
use Rattle.line.specs.Lines.{line_marks}
use Rattle.quad.specs.Quads.{quad_marks}
use Rattle.cubic.specs.Cubics.{cubic_marks}
use Rattle.raster.specs.declared.Stroke.{Stroke}
use Rattle.raster.specs.declared.Stroke.TheVariants.{Move, Line, Quad, Cubic, Close}
use Rattle.raster.specs.declared.tracks.Track.{Track}
use Rattle.raster.specs.Path.{move_marks, stroke_marks, point_after, start_after, marks_from}
use Rattle.raster.specs.Tracing.{ReachAll, Stroked}

pub told_stroked : {board : Board} {ws ws' : List ℕ} {t t' : Track} {s : Stroke} (k : Stroke) → s ≡ k → Stroked board ws ws' t k t' → Stroked board ws ws' t s t'
told_stroked k e h = rw e h

-- ---- the marks of each case, and of a path, one stroke at a time
module _ (f : Frame) (a s : FixedPoint) where
  stroke_move : (b : FixedPoint) → stroke_marks f a s (Move b) ≡ move_marks f a s b
  unfolding stroke_marks
  stroke_move b = refl

  stroke_line : (b : FixedPoint) → stroke_marks f a s (Line b) ≡ line_marks f a b
  unfolding stroke_marks
  stroke_line b = refl

  stroke_quad : (c b : FixedPoint) → stroke_marks f a s (Quad c b) ≡ quad_marks f a c b
  unfolding stroke_marks
  stroke_quad c b = refl

  stroke_cubic : (c d b : FixedPoint) → stroke_marks f a s (Cubic c d b) ≡ cubic_marks f a c d b
  unfolding stroke_marks
  stroke_cubic c d b = refl

  stroke_close : stroke_marks f a s Close ≡ line_marks f a s
  unfolding stroke_marks
  stroke_close = refl

  pub marks_end : marks_from f a s [] ≡ line_marks f a s
  unfolding marks_from
  marks_end = refl

  pub marks_stroke : (k : Stroke) (ks : List Stroke) → marks_from f a s (k ∷ ks) ≡ stroke_marks f a s k ++ marks_from f (point_after s k) (start_after s k) ks
  unfolding marks_from
  marks_stroke k ks = refl

module _ {board : Board} {ws ws' : List ℕ} {t t' : Track} where
  pub moves : (b : FixedPoint) → t'.at ≡ b → t'.start ≡ b → Drew board ws ws' t.pen t'.pen (move_marks board.frame t.at t.start b) → Stroked board ws ws' t (Move b) t'
  moves b p q d = record { drew = rw (stroke_move board.frame t.at t.start b) d; goes = p; starts = q }

  pub lines : (b : FixedPoint) → t'.at ≡ b → t'.start ≡ t.start → Drew board ws ws' t.pen t'.pen (line_marks board.frame t.at b) → Stroked board ws ws' t (Line b) t'
  lines b p q d = record { drew = rw (stroke_line board.frame t.at t.start b) d; goes = p; starts = q }

  pub bends : (c b : FixedPoint) → t'.at ≡ b → t'.start ≡ t.start → Drew board ws ws' t.pen t'.pen (quad_marks board.frame t.at c b) → Stroked board ws ws' t (Quad c b) t'
  bends c b p q d = record { drew = rw (stroke_quad board.frame t.at t.start c b) d; goes = p; starts = q }

  pub curves : (c e b : FixedPoint) → t'.at ≡ b → t'.start ≡ t.start → Drew board ws ws' t.pen t'.pen (cubic_marks board.frame t.at c e b) → Stroked board ws ws' t (Cubic c e b) t'
  curves c e b p q d = record { drew = rw (stroke_cubic board.frame t.at t.start c e b) d; goes = p; starts = q }

  pub closes : t'.at ≡ t.start → t'.start ≡ t.start → Drew board ws ws' t.pen t'.pen (line_marks board.frame t.at t.start) → Stroked board ws ws' t Close t'
  closes p q d = record { drew = rw (stroke_close board.frame t.at t.start) d; goes = p; starts = q }

-- the pen point and the start stay within reach
pub reach_point : (s : FixedPoint) (k : Stroke) → Reach s → ReachAll k → Reach (point_after s k)
reach_point s (Move b) h g = g
reach_point s (Line b) h g = g
reach_point s (Quad c b) h g = g.1
reach_point s (Cubic c d b) h g = g.2
reach_point s Close h g = h

pub reach_start : (s : FixedPoint) (k : Stroke) → Reach s → ReachAll k → Reach (start_after s k)
reach_start s (Move b) h g = g
reach_start s (Line b) h g = h
reach_start s (Quad c b) h g = h
reach_start s (Cubic c d b) h g = h
reach_start s Close h g = h
