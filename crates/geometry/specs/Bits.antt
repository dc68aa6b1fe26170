-- For worked values: a float, and a point, by their bits.
use Rattle.std.specs.Prelude.{ℕ, Float}
use Rattle.std.specs.Float.{binary32}
use Rattle.std.specs.Float.Ieee.{of_bits}
use Rattle.geometry.specs.declared.Point.{Point}
use Rattle.geometry.specs.Affine.{point_of}

abbrev pub float : ℕ → Float
float w = of_bits binary32 w

abbrev pub at : ℕ → ℕ → Point
at x y = point_of (float x) (float y)
