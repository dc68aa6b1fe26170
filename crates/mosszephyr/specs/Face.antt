-- How the C face's types stand for those of the crates below.
use Rattle.std.specs.Prelude.{ℕ, Bool, true, false}
use Rattle.geometry.specs.declared.Point.{Point}
use Rattle.geometry.specs.declared.Transform.{Transform}
use Rattle.geometry.specs.declared.Origin.{Origin}
use Rattle.geometry.specs.declared.Origin.TheVariants.{TopLeft, BottomLeft}
use Rattle.geometry.specs.Affine.{point_of, transform_of}
use Rattle.sweep.specs.declared.Fill.{Fill}
use Rattle.sweep.specs.declared.Fill.TheVariants.{NonZero, EvenOdd}
use Rattle.label.specs.declared.Label.{Label}
use Rattle.paper.specs.Floats.{zero, identity}
use Rattle.mosszephyr.specs.declared.MzTransform.{MzTransform}
use Rattle.mosszephyr.specs.declared.MzPoint.{MzPoint}
use Rattle.mosszephyr.specs.declared.MzLabel.{MzLabel}

abbrev pub out_of_c : MzTransform → Transform
out_of_c t = transform_of t.xx t.xy t.yx t.yy t.x t.y

abbrev pub in_c : Transform → MzTransform
in_c t = record { xx = t.xx; xy = t.xy; yx = t.yx; yy = t.yy; x = t.x; y = t.y }

abbrev pub point_out_of_c : MzPoint → Point
point_out_of_c p = point_of p.x p.y

abbrev pub point_in_c : Point → MzPoint
point_in_c p = record { x = p.x; y = p.y }

abbrev pub origin_of : Bool → Origin
origin_of true = BottomLeft
origin_of false = TopLeft

abbrev pub fill_of : Bool → Fill
fill_of true = EvenOdd
fill_of false = NonZero

abbrev pub label_of : MzLabel → Label
label_of l = record {
  transform = out_of_c l.transform;
  offset = point_of l.offset_x l.offset_y;
  fill = fill_of l.even_odd;
  up = l.up;
  width = l.width;
  height = l.height;
  pitch = l.pitch;
  first = l.first;
  end = l.end;
}

-- the whole label of a size: points as they are, nonzero, down, rows without gaps
abbrev pub whole_label : ℕ → ℕ → MzLabel
whole_label width height = record {
  transform = in_c identity;
  offset_x = zero;
  offset_y = zero;
  even_odd = false;
  up = false;
  width = width;
  height = height;
  pitch = width;
  first = 0;
  end = height;
}
