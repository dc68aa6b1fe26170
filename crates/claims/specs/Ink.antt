-- The ink of a path: every pair that its pen leaves in the plane, with no label, no band, and no line or curve skipped.
use Rattle.std.specs.Prelude.{List, [], ◌∷◌, ◌++◌}
use Rattle.fixed.specs.declared.FixedPoint.{FixedPoint}
use Rattle.fixed.specs.Fixed.{cell}
use Rattle.pen.specs.Marks.{Mark, enter, nowhere, after, Pair, left, whole}
use Rattle.line.specs.Lines.{marks_of, line_all}
use Rattle.quad.specs.Quads.{quad_points}
use Rattle.cubic.specs.Cubics.{cubic_points}
use Rattle.raster.specs.declared.Stroke.{Stroke}
use Rattle.raster.specs.declared.Stroke.TheVariants.{Move, Line, Quad, Cubic, Close}
use Rattle.raster.specs.Path.{corner, point_after, start_after}
use Rattle.raster.specs.Tracing.{ReachAll}

-- lines from a to each point in turn
unfoldable pub along_all : FixedPoint → List FixedPoint → List Mark
unfolding marks_of
along_all a [] = []
along_all a (b ∷ bs) = line_all a b ++ along_all b bs

-- a stroke from the pen point a, in a subpath that started at s
unfoldable pub stroke_all : FixedPoint → FixedPoint → Stroke → List Mark
unfolding along_all quad_points cubic_points
stroke_all a s (Move b) = line_all a s ++ (enter (cell b.x) (cell b.y) ∷ [])
stroke_all a s (Line b) = line_all a b
stroke_all a s (Quad c b) = along_all a (quad_points a c b)
stroke_all a s (Cubic c d b) = along_all a (cubic_points a c d b)
stroke_all a s Close = line_all a s

-- the end closes an open subpath
unfoldable pub ink_from : FixedPoint → FixedPoint → List Stroke → List Mark
unfolding stroke_all
ink_from a s [] = line_all a s
ink_from a s (k ∷ ks) = stroke_all a s k ++ ink_from (point_after s k) (start_after s k) ks

unfoldable pub ink : List Stroke → List Pair
unfolding ink_from left after
ink ks = whole nowhere (ink_from corner corner ks)

-- every point of the strokes is within reach
abbrev pub AllReach : List Stroke → Type 0
AllReach [] = Unit {0}
AllReach (k ∷ ks) = ReachAll k × AllReach ks
