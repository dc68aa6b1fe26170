-- A float rounded down and up to a whole number, as IEEE 754 has it. A finite float is m * 2 ^ e, the fraction m * up e / down e.
use Rattle.std.specs.Prelude.{◌+◌, ◌-◌, ◌*◌, ◌/◌, ◌%◌, Bool, true, false, cond, eqb, ℤ, pos, neg_ℤ, Float}
use Rattle.std.specs.Float.{nan, inf, fin, binary32}
use Rattle.std.specs.Float.Ieee.{up, down, of_int, neg}

-- the largest whole number that is not above a finite float
unfoldable pub floor_z : Float → ℤ
floor_z nan = pos 0
floor_z (inf s) = pos 0
floor_z (fin false m e) = pos (m * up e / down e)
floor_z (fin true m e) = neg_ℤ (pos ((m * up e + (down e - 1)) / down e))

-- the smallest that is not below it
unfoldable pub ceil_z : Float → ℤ
unfolding floor_z neg
ceil_z v = neg_ℤ (floor_z (neg v))

-- nothing to round: no fraction, or not finite
abbrev pub whole : Float → Bool
whole nan = true
whole (inf s) = true
whole (fin s m e) = eqb (m * up e % down e) 0

-- what is whole stays, a zero with its sign
unfoldable pub floor_of : Float → Float
unfolding floor_z of_int
floor_of v = cond (whole v) v (of_int binary32 (floor_z v))

-- floor, mirrored: what lies between -1 and 0 goes to -0
unfoldable pub ceil_of : Float → Float
unfolding floor_of neg
ceil_of v = neg (floor_of (neg v))
