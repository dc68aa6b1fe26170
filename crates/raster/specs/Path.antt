-- docs/RULES.md, "Lines, curves, cells": the pen's way over a path.
use Rattle.std.specs.Prelude.{List, [], ◌∷◌, ◌++◌}
use Rattle.fixed.specs.declared.FixedPoint.{FixedPoint}
use Rattle.fixed.specs.Fixed.{bias, cell}
use Rattle.storage.specs.Deposits.{Deposit}
use Rattle.pen.specs.declared.Frame.{Frame}
use Rattle.pen.specs.Marks.{Mark, enter, Stand, Pair, whole, deposits}
use Rattle.line.specs.Lines.{line_marks}
use Rattle.quad.specs.Quads.{quad_marks}
use Rattle.cubic.specs.Cubics.{cubic_marks}
use Rattle.raster.specs.declared.Stroke.{Stroke}
use Rattle.raster.specs.declared.Stroke.TheVariants.{Move, Line, Quad, Cubic, Close}

-- the label's corner, where the pen point is before the first stroke
abbrev pub corner : FixedPoint
corner = record { x = bias; y = bias }

-- MoveTo closes an open subpath (closing a closed one gives nothing) and always leaves its cell
abbrev pub move_marks : Frame → FixedPoint → FixedPoint → FixedPoint → List Mark
move_marks f a s b = line_marks f a s ++ (enter (cell b.x) (cell b.y) ∷ [])

-- a stroke from the pen point a, in a subpath that started at s
unfoldable pub stroke_marks : Frame → FixedPoint → FixedPoint → Stroke → List Mark
unfolding line_marks quad_marks cubic_marks
stroke_marks f a s (Move b) = move_marks f a s b
stroke_marks f a s (Line b) = line_marks f a b
stroke_marks f a s (Quad c b) = quad_marks f a c b
stroke_marks f a s (Cubic c d b) = cubic_marks f a c d b
stroke_marks f a s Close = line_marks f a s

-- the pen point after it, and the start. Close leaves the pen at the start, so that what closes the subpath again gives
-- nothing
abbrev pub point_after : FixedPoint → Stroke → FixedPoint
point_after s (Move b) = b
point_after s (Line b) = b
point_after s (Quad c b) = b
point_after s (Cubic c d b) = b
point_after s Close = s

abbrev pub start_after : FixedPoint → Stroke → FixedPoint
start_after s (Move b) = b
start_after s (Line b) = s
start_after s (Quad c b) = s
start_after s (Cubic c d b) = s
start_after s Close = s

-- the end closes an open subpath
unfoldable pub marks_from : Frame → FixedPoint → FixedPoint → List Stroke → List Mark
unfolding line_marks stroke_marks
marks_from f a s [] = line_marks f a s
marks_from f a s (k ∷ ks) = stroke_marks f a s k ++ marks_from f (point_after s k) (start_after s k) ks

unfoldable pub marks : Frame → List Stroke → List Mark
unfolding marks_from
marks f ks = marks_from f corner corner ks

-- what a drawing of the strokes stores, in order
unfoldable pub deposits_of : Frame → List Stroke → List Deposit
unfolding marks deposits
deposits_of f ks = deposits f (marks f ks)

-- what is left from a stand on: the last subpath is closed, the last cell is stored
abbrev pub end_of : Frame → Stand → FixedPoint → FixedPoint → List Pair
end_of f st a s = whole st (line_marks f a s)
