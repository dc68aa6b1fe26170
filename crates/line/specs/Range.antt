-- How far a point may lie from the label's corner for lines and curves to be exact: as far as the point rule has it.
use Rattle.std.specs.Prelude.{◌+◌, ◌≤◌}
use Rattle.fixed.specs.declared.FixedPoint.{FixedPoint}
use Rattle.fixed.specs.Fixed.{limit, bias}

pub record Reach (p : FixedPoint) : Type 0 where
  pub x_low : bias ≤ p.x + limit
  pub x_high : p.x ≤ bias + limit
  pub y_low : bias ≤ p.y + limit
  pub y_high : p.y ≤ bias + limit
