-- For worked values: numbers and points as they are held.
use Rattle.std.specs.Prelude.{ℕ, ◌+◌, ◌-◌}
use Rattle.fixed.specs.declared.FixedPoint.{FixedPoint}
use Rattle.fixed.specs.Fixed.{bias}

-- n and −n
abbrev pub above : ℕ → ℕ
above n = bias + n

abbrev pub below : ℕ → ℕ
below n = bias - n

abbrev pub at : ℕ → ℕ → FixedPoint
at x y = record { x = x; y = y }

-- in 256ths from the corner
abbrev pub point : ℕ → ℕ → FixedPoint
point x y = at (above x) (above y)
