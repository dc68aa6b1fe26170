-- How the code holds a whole number: with 2 ^ 24 added, so that it has no sign. No rule speaks of this; the contracts of private functions do.
use Rattle.std.specs.Prelude.{ℕ, suc, ◌+◌, ◌-◌, ◌^◌, cond, Option, None, Some, ◌&&◌, ℤ, pos, negsuc, Float}
use Rattle.std.proofs.Math.IntN.{sub_ℕ}
use Rattle.float.specs.Round.{floor_z, ceil_z}
use Rattle.geometry.specs.declared.Origin.{Origin}
use Rattle.geometry.specs.declared.Origin.TheVariants.{TopLeft, BottomLeft}
use Rattle.geometry.specs.declared.Around.{Around}
use Rattle.geometry.specs.declared.Span.{Span}
use Rattle.geometry.specs.Placing.{reaches, extent}

abbrev pub held : ℤ → ℕ
held (pos n) = 2 ^ 24 + n
held (negsuc n) = 2 ^ 24 - suc n

-- and back
abbrev pub own : ℕ → ℤ
own n = sub_ℕ n (2 ^ 24)

abbrev pub raised : Origin → ℕ → ℕ → ℕ
raised TopLeft n h = n
raised BottomLeft n h = n + h

-- the numbers around a float, and a side of a mask
abbrev pub ends : ℕ → ℕ → Option Around
ends d u = Some (record { down = d; up = u })

abbrev pub side : ℕ → ℕ → Option Span
side n k = Some (record { from = n; size = k })

unfoldable pub held_around : Float → Option Around
held_around v = cond (reaches v) (ends (held (floor_z v)) (held (ceil_z v))) None

unfoldable pub held_span : Float → Float → Option Span
held_span a b = cond (reaches a && reaches b) (side (held (floor_z a)) (extent a b)) None
