-- docs/RULES.md, "Bounds and placement": where the mask of a box lies.
use Rattle.std.specs.Prelude.{ℕ, ◌*◌, ◌^◌, Bool, false, cond, Option, None, Some, ◌&&◌, ltb, ℤ, pos, negsuc, ◌+ℤ◌, ◌-ℤ◌, Float}
use Rattle.std.specs.Float.{nan, inf, fin}
use Rattle.std.specs.Float.Ieee.{up, down, neg}
use Rattle.float.specs.Round.{floor_z, ceil_z, floor_of}
use Rattle.geometry.specs.declared.Point.{Point}
use Rattle.geometry.specs.declared.Bounds.{Bounds}
use Rattle.geometry.specs.declared.Origin.{Origin}
use Rattle.geometry.specs.declared.Origin.TheVariants.{TopLeft, BottomLeft}
use Rattle.geometry.specs.declared.Placement.{Placement}
use Rattle.geometry.specs.declared.Placed.{Placed}
use Rattle.geometry.specs.Affine.{point_of, shifted}

-- a side: from the minimum rounded down to the maximum rounded up, 0 where the maximum lies below
abbrev pub not_below : ℤ → ℕ
not_below (pos n) = n
not_below (negsuc n) = 0

abbrev pub extent : Float → Float → ℕ
extent a b = not_below (ceil_z b -ℤ floor_z a)

-- what the origin adds to the top
abbrev pub lift : Origin → ℕ → ℤ
lift TopLeft h = pos 0
lift BottomLeft h = pos h

-- the rounded minimum says where the mask is, its y lifted by the height from bottom-left
abbrev pub placement_of : Origin → Point → Point → Placement
placement_of o a b = record {
  left = floor_z a.x;
  top = floor_z a.y +ℤ lift o (extent a.y b.y);
  width = extent a.x b.x;
  height = extent a.y b.y;
}

-- the new offset: the rounded minimum with its signs turned, so that 0 gives −0
abbrev pub negated : Point → Point
negated a = point_of (neg (floor_of a.x)) (neg (floor_of a.y))

-- below 2 ^ 23 in size: from there on a difference of two floats may be rounded
unfoldable pub reaches : Float → Bool
reaches nan = false
reaches (inf s) = false
reaches (fin s m e) = ltb (m * up e) (2 ^ 23 * down e)

abbrev pub within : Point → Bool
within p = reaches p.x && reaches p.y

-- the new offset with its placement
abbrev pub placed : Point → Placement → Option Placed
placed f p = Some (record { offset = f; placement = p })

-- of the minimum and the maximum with the offset added
abbrev pub placed_between : Origin → Point → Point → Option Placed
placed_between o a b = cond (within a && within b) (placed (negated a) (placement_of o a b)) None

-- the box is moved by the offset first
abbrev pub placed_of : Origin → Point → Bounds → Option Placed
placed_of o f b = placed_between o (shifted f b.min) (shifted f b.max)
