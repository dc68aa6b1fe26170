-- For the curves, whose lines go along points: those lines one at a time, and means of points within reach are within reach.
use mathlib.Core.Path.{◌≡◌, refl}
use mathlib.Core.List.{List, [], ◌∷◌, ◌++◌}
use native.Mathlib.Omega.{arith}
use Rattle.fixed.specs.declared.FixedPoint.{FixedPoint}
use Rattle.fixed.proofs.Range.{Kept}
use Rattle.pen.specs.declared.Frame.{Frame}
use Rattle.line.specs.Range.{Reach}
use Rattle.line.specs.Lines.{line_marks, along}

pub along_next : (f : Frame) (a b : FixedPoint) (bs : List FixedPoint) → along f a (b ∷ bs) ≡ line_marks f a b ++ along f b bs
unfolding along
along_next f a b bs = refl

pub along_none : (f : Frame) (a : FixedPoint) → along f a [] ≡ []
unfolding along
along_none f a = refl

pub reach_kept : Kept Reach
reach_kept = record {
  two = λ p q. record { x_low = omega arith; x_high = omega arith; y_low = omega arith; y_high = omega arith };
  three = λ p q r. record { x_low = omega arith; x_high = omega arith; y_low = omega arith; y_high = omega arith };
  four = λ p q r s. record { x_low = omega arith; x_high = omega arith; y_low = omega arith; y_high = omega arith };
}
