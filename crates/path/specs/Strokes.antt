-- The strokes of a path: its commands in fixed numbers.
use Rattle.std.specs.Prelude.{List, map, Option, None, Some}
use Rattle.geometry.specs.declared.Point.{Point}
use Rattle.geometry.specs.declared.Transform.{Transform}
use Rattle.fixed.specs.declared.FixedPoint.{FixedPoint}
use Rattle.fixed.specs.declared.Spot.{Spot}
use Rattle.command.specs.declared.Command.{Command}
use Rattle.command.specs.declared.Command.TheVariants.{MoveTo, LineTo, QuadTo, CurveTo, Close}
use Rattle.raster.specs.declared.Stroke.{Stroke}
use Rattle.raster.specs.declared.Stroke.TheVariants as stroke
use Rattle.raster.specs.Path.{corner}
use Rattle.path.specs.Reading.{spot_at}

-- the fixed point of a spot; the corner for one outside, which no accepted list has
abbrev pub point_in : Option Spot → FixedPoint
point_in (Some s) = s.point
point_in None = corner

unfoldable pub fixed_at : Transform → Point → Point → FixedPoint
unfolding spot_at
fixed_at t o p = point_in (spot_at t o p)

unfoldable pub stroke_of : Transform → Point → Command → Stroke
unfolding fixed_at
stroke_of t o (MoveTo p) = stroke.Move (fixed_at t o p)
stroke_of t o (LineTo p) = stroke.Line (fixed_at t o p)
stroke_of t o (QuadTo c p) = stroke.Quad (fixed_at t o c) (fixed_at t o p)
stroke_of t o (CurveTo c d p) = stroke.Cubic (fixed_at t o c) (fixed_at t o d) (fixed_at t o p)
stroke_of t o Close = stroke.Close

unfoldable pub strokes_of : Transform → Point → List Command → List Stroke
unfolding stroke_of
strokes_of t o cs = map (stroke_of t o) cs
