-- docs/RULES.md, "From floats to 24.8 numbers": the point rule, and the cell and the fraction of a number.
-- A number z is held as z + `bias`, which is not below zero.
use Rattle.std.specs.Prelude.{ℕ, ◌+◌, ◌-◌, ◌*◌, ◌/◌, ◌%◌, Bool, false, not, cond, Option, None, Some, leb, eqb, ℤ, Float}
use Rattle.std.proofs.Math.IntN.{sub_ℕ}
use Rattle.std.specs.Float.{nan, inf, fin}
use Rattle.std.specs.Float.Ieee.{up, down}
use Rattle.geometry.specs.declared.Point.{Point}
use Rattle.fixed.specs.declared.Fix.{Fix}
use Rattle.fixed.specs.declared.FixedPoint.{FixedPoint}
use Rattle.fixed.specs.declared.Spot.{Spot}

-- the largest number of the point rule, either way
abbrev pub limit : ℕ
limit = 1048576

-- what is added to a number to hold it
abbrev pub bias : ℕ
bias = 2097152

-- the number of a held one: n − bias
unfoldable pub value_of : ℕ → ℤ
value_of n = sub_ℕ n bias

-- n, or −n where the sign s is set, as it is held
abbrev pub held_of : Bool → ℕ → ℕ
held_of s n = cond s (bias - n) (bias + n)

-- a coordinate and a point by the point rule
abbrev pub fix : ℕ → Bool → Option Fix
fix n r = Some (record { at = n; cut = r })

abbrev pub spot : FixedPoint → ℕ → Option Spot
spot q k = Some (record { point = q; cuts = k })

-- n 256ths with the sign s, from −limit to limit; r says whether something was cut off
abbrev pub within_limit : Bool → ℕ → Bool → Option Fix
within_limit s n r = cond (leb n limit) (fix (held_of s n) r) None

-- Whether something is cut off: 256 times the float is not whole. The float is m · 2 ^ e, or −m · 2 ^ e where its sign is set, and 2 ^ e is
-- up e / down e.
abbrev pub is_cut : Float → Bool
is_cut nan = false
is_cut (inf s) = false
is_cut (fin s m e) = not (eqb (m * up e * 256 % down e) 0)

-- The point rule: finite, and times 256, cut toward zero, from −limit to limit.
unfoldable pub to_fixed : Float → Option Fix
to_fixed nan = None
to_fixed (inf s) = None
to_fixed (fin s m e) = within_limit s (m * up e * 256 / down e) (is_cut (fin s m e))

abbrev pub one_if : Bool → ℕ
one_if b = cond b 1 0

-- how many of a point's two parts are cut
abbrev pub cut_parts : Point → ℕ
cut_parts p = one_if (is_cut p.x) + one_if (is_cut p.y)

unfoldable pub spot_from : Option Fix → Option Fix → Option Spot
spot_from (Some f) (Some g) = spot (record { x = f.at; y = g.at }) (one_if f.cut + one_if g.cut)
spot_from (Some f) None = None
spot_from None g = None

-- both parts of a point by the point rule, with how many of the two were cut
unfoldable pub spot_of : Point → Option Spot
unfolding to_fixed spot_from
spot_of p = spot_from (to_fixed p.x) (to_fixed p.y)

-- The cell is the quotient by 256, rounded down, and held with bias / 256 = 8192 added; the fraction is what remains.
abbrev pub cell : ℕ → ℕ
cell n = n / 256

abbrev pub fraction : ℕ → ℕ
fraction n = n % 256

-- |a − b|
abbrev pub apart : ℕ → ℕ → ℕ
apart a b = (a - b) + (b - a)
