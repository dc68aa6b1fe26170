-- What was cut off of a point that passes is what its parts say, and of two parts at most. Assumes nothing.
use mathlib.Core.Path.{◌≡◌, refl, subst}
use mathlib.Core.Bool.{Bool, true, false, cond}
use Prim.Native.Nat.{ℕ, ◌+◌, ◌*◌, ◌/◌, ◌≤◌}
use native.Mathlib.Omega.{arith}
use lib.Dec.{leb, lit≤}
use lib.Ieee.{Float, nan, inf, fin, up, down}
use Rattle.geometry.specs.declared.Point.{Point}
use Rattle.fixed.specs.declared.FixedPoint.{FixedPoint}
use Rattle.fixed.specs.declared.Fix.{Fix}
use Rattle.std.specs.Prelude.{Option, None, Some}
use Rattle.fixed.specs.declared.Spot.{Spot}
use Rattle.fixed.specs.Fixed.{limit, held_of, fix, within_limit, is_cut, to_fixed, one_if, cut_parts, spot, spot_from, spot_of}

-- a number says that something was cut off of it where c does
abbrev Says : Bool → Option Fix → Type 0
Says c (Some f) = f.cut ≡ c
Says c None = Unit

limited : (s : Bool) (n : ℕ) (r : Bool) → Says r (within_limit s n r)
limited s n r = go (leb n limit)
  where
    go : (u : Bool) → Says r (cond u (fix (held_of s n) r) None)
    go true = refl
    go false = tt

says : (v : Float) → Says (is_cut v) (to_fixed v)
unfolding to_fixed
says nan = tt
says (inf s) = tt
says (fin s m e) = limited s (m * up e * 256 / down e) (is_cut (fin s m e))

-- and a point how many parts
abbrev Counts : ℕ → Option Spot → Type 0
Counts n (Some s) = s.cuts ≡ n
Counts n None = Unit

counts : (c d : Bool) (f g : Option Fix) → Says c f → Says d g → Counts (one_if c + one_if d) (spot_from f g)
unfolding spot_from
counts c d (Some f) (Some g) p q = rw (p, q)
counts c d (Some f) None p q = tt
counts c d None g p q = tt

counted : (p : Point) → Counts (cut_parts p) (spot_of p)
unfolding spot_of
counted p = counts (is_cut p.x) (is_cut p.y) (to_fixed p.x) (to_fixed p.y) (says p.x) (says p.y)

pub spot_cuts : (p : Point) (q : FixedPoint) (k : ℕ) → spot_of p ≡ spot q k → k ≡ cut_parts p
spot_cuts p q k h = subst (Counts (cut_parts p)) h (counted p)

one_le : (b : Bool) → one_if b ≤ 1
one_le true = lit≤ tt
one_le false = lit≤ tt

pub two_parts : (p : Point) → cut_parts p ≤ 2
two_parts p = omega (arith, one_le (is_cut p.x), one_le (is_cut p.y))
