-- The point rule by the product with 256, rounded once as floats are, and cut: what the code computes. `proofs/Exact.antt` shows that it is `to_fixed`.
use Rattle.std.specs.Prelude.{Option, None, Some, Float}
use Rattle.std.specs.Float.{binary32}
use Rattle.std.specs.Float.Ieee.{mul, of_bits}
use Rattle.float.specs.declared.Cut.{Cut}
use Rattle.float.specs.Cut.{cut_of}
use Rattle.fixed.specs.declared.Fix.{Fix}
use Rattle.fixed.specs.Fixed.{within_limit}

-- of a float that was cut to a whole number
unfoldable pub fix_from : Option Cut → Option Fix
fix_from (Some cut) = within_limit cut.below cut.whole cut.rest
fix_from None = None

-- 256
abbrev pub scale : Float
scale = of_bits binary32 0x4380_0000

abbrev pub scaled_fixed : Float → Option Fix
scaled_fixed v = fix_from (cut_of (mul binary32 v scale))
