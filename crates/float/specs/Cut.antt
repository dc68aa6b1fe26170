-- A float cut toward zero, from its bits. A finite float is m * 2 ^ e, the fraction m * up e / down e.
use Rattle.std.specs.Prelude.{ℕ, ◌*◌, ◌/◌, ◌%◌, ◌^◌, Bool, cond, not, ltb, eqb, Option, None, Some, Float}
use Rattle.std.specs.Float.{nan, inf, fin, binary32}
use Rattle.std.specs.Float.Ieee.{up, down, of_bits, lt}
use Rattle.float.specs.declared.Cut.{Cut}

abbrev pub zero_f : Float
zero_f = of_bits binary32 0

-- the cut of these three
abbrev pub near : Bool → ℕ → Bool → Option Cut
near b n r = Some (record { below = b; whole = n; rest = r })

-- The size of a float, cut to a whole number, and whether anything was cut off. `None` from 2 ^ 24 on, and for what is not finite. b goes along.
unfoldable pub sized_of : Float → Bool → Option Cut
sized_of nan b = None
sized_of (inf s) b = None
sized_of (fin s m e) b = cond (ltb (m * up e / down e) (2 ^ 24)) (near b (m * up e / down e) (not (eqb (m * up e % down e) 0))) None

-- with whether it is below zero
abbrev pub cut_of : Float → Option Cut
cut_of w = sized_of w (lt w zero_f)
