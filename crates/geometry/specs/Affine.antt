-- docs/RULES.md, "From floats to 24.8 numbers": points and transforms. Each product and each sum is rounded, as shown.
use Rattle.std.specs.Prelude.{Float}
use Rattle.std.specs.Float.{binary32}
use Rattle.std.specs.Float.Ieee.{of_bits, add, mul}
use Rattle.float.specs.Cut.{zero_f}
use Rattle.geometry.specs.declared.Point.{Point}
use Rattle.geometry.specs.declared.Transform.{Transform}

-- a product and a sum, each rounded once
abbrev pub times : Float → Float → Float
times a b = mul binary32 a b

abbrev pub plus : Float → Float → Float
plus a b = add binary32 a b

abbrev pub one_f : Float
one_f = of_bits binary32 0x3f80_0000

abbrev pub point_of : Float → Float → Point
point_of x y = record { x = x; y = y }

-- x' = (x·xx + y·yx) + tx, y' = (x·xy + y·yy) + ty
abbrev pub moved : Transform → Point → Point
moved t p = record {
  x = plus (plus (times p.x t.xx) (times p.y t.yx)) t.x;
  y = plus (plus (times p.x t.xy) (times p.y t.yy)) t.y;
}

-- a vector is not moved by tx and ty
abbrev pub moved_vector : Transform → Point → Point
moved_vector t p = record {
  x = plus (times p.x t.xx) (times p.y t.yx);
  y = plus (times p.x t.xy) (times p.y t.yy);
}

-- then the offset o is added
abbrev pub shifted : Point → Point → Point
shifted o p = record { x = plus p.x o.x; y = plus p.y o.y }

-- the six numbers of a transform, in this order
abbrev pub transform_of : Float → Float → Float → Float → Float → Float → Transform
transform_of xx xy yx yy x y = record { xx = xx; xy = xy; yx = yx; yy = yy; x = x; y = y }

abbrev pub identity_of : Transform
identity_of = transform_of one_f zero_f zero_f one_f zero_f zero_f

abbrev pub translation_of : Float → Float → Transform
translation_of x y = transform_of one_f zero_f zero_f one_f x y

abbrev pub scale_of : Float → Float → Transform
scale_of x y = transform_of x zero_f zero_f y zero_f zero_f

-- a followed by b: xx = a.xx·b.xx + a.xy·b.yx, xy = a.xx·b.xy + a.xy·b.yy, yx = a.yx·b.xx + a.yy·b.yx, yy = a.yx·b.xy + a.yy·b.yy,
-- x = a.x·b.xx + a.y·b.yx + b.x, y = a.x·b.xy + a.y·b.yy + b.y, added up from left to right
abbrev pub combine_of : Transform → Transform → Transform
combine_of a b = record {
  xx = plus (times a.xx b.xx) (times a.xy b.yx);
  xy = plus (times a.xx b.xy) (times a.xy b.yy);
  yx = plus (times a.yx b.xx) (times a.yy b.yx);
  yy = plus (times a.yx b.xy) (times a.yy b.yy);
  x = plus (plus (times a.x b.xx) (times a.y b.yx)) b.x;
  y = plus (plus (times a.x b.xy) (times a.y b.yy)) b.y;
}

-- `then_translate` moves by x and y
abbrev pub translated_of : Transform → Float → Float → Transform
translated_of t a b = record { xx = t.xx; xy = t.xy; yx = t.yx; yy = t.yy; x = plus t.x a; y = plus t.y b }
