-- A fixed number stays in range: the point rule bounds it, and a split point is a mean of points, rounded down, so it stays between their bounds.
-- Assumes nothing.
use mathlib.Core.Path.{◌≡◌, refl, subst}
use mathlib.Core.Bool.{Bool, true, false, cond, not}
use mathlib.Core.List.{List}
use Prim.Native.Nat.{ℕ, zero, suc, ◌+◌, ◌-◌, ◌*◌, ◌/◌, ◌%◌, ◌≤◌, ◌<◌}
use native.Mathlib.Omega.{arith}
use lib.Dec.{leb, eqb}
use lib.Ieee.{Float, nan, inf, fin, up, down}
use borrow.Author.Tests.{leb-true}
use Rattle.geometry.specs.declared.Point.{Point}
use Rattle.fixed.specs.declared.FixedPoint.{FixedPoint}
use Rattle.fixed.specs.declared.Fix.{Fix}
use Rattle.std.specs.Prelude.{Option, None, Some}
use Rattle.fixed.specs.declared.Spot.{Spot}
use Rattle.fixed.specs.Fixed.{limit, bias, held_of, fix, within_limit, to_fixed, spot, spot_from, spot_of, cell}
use Rattle.fixed.specs.Split.{point_of, mid, mid4, mid8, split_quad, split_cubic, Between, Within, Every}

-- ---- a mean of numbers
pub half_between : {lo hi a b : ℕ} → Between lo hi a → Between lo hi b → Between lo hi ((a + b) / 2)
half_between p q = record { low = omega arith; high = omega arith }

pub quarter_between : {lo hi a b c : ℕ} → Between lo hi a → Between lo hi b → Between lo hi c → Between lo hi ((a + 2 * b + c) / 4)
quarter_between p q r = record { low = omega arith; high = omega arith }

pub eighth_between : {lo hi a b c d : ℕ} → Between lo hi a → Between lo hi b → Between lo hi c → Between lo hi d → Between lo hi ((a + 3 * b + 3 * c + d) / 8)
eighth_between p q r s = record { low = omega arith; high = omega arith }

-- ---- a mean of points
pub mid_within : {lo hi : ℕ} {a b : FixedPoint} → Within lo hi a → Within lo hi b → Within lo hi (mid a b)
mid_within p q = record { x_in = half_between p.x_in q.x_in; y_in = half_between p.y_in q.y_in }

pub mid4_within : {lo hi : ℕ} {a b c : FixedPoint} → Within lo hi a → Within lo hi b → Within lo hi c → Within lo hi (mid4 a b c)
mid4_within p q r = record { x_in = quarter_between p.x_in q.x_in r.x_in; y_in = quarter_between p.y_in q.y_in r.y_in }

pub mid8_within : {lo hi : ℕ} {a b c d : FixedPoint} → Within lo hi a → Within lo hi b → Within lo hi c → Within lo hi d → Within lo hi (mid8 a b c d)
mid8_within p q r s = record {
  x_in = eighth_between p.x_in q.x_in r.x_in s.x_in;
  y_in = eighth_between p.y_in q.y_in r.y_in s.y_in;
}

-- ---- what means of points keep, a split keeps
pub record Kept (P : FixedPoint → Type 0) : Type 0 where
  pub two : {a b : FixedPoint} → P a → P b → P (mid a b)
  pub three : {a b c : FixedPoint} → P a → P b → P c → P (mid4 a b c)
  pub four : {a b c d : FixedPoint} → P a → P b → P c → P d → P (mid8 a b c d)

pub quad_keeps : {P : FixedPoint → Type 0} {l : List FixedPoint} → Kept P → Every P 3 l → Every P 5 (split_quad l)
unfolding split_quad
quad_keeps {P} {l} k h = record { at = go }
  where
    p0 : P (point_of l 0)
    p0 = h.at 0 (omega arith)

    p1 : P (point_of l 1)
    p1 = h.at 1 (omega arith)

    p2 : P (point_of l 2)
    p2 = h.at 2 (omega arith)

    go : (i : ℕ) → i < 5 → P (point_of (split_quad l) i)
    go zero q = p0
    go (suc zero) q = k.two p0 p1
    go (suc (suc zero)) q = k.three p0 p1 p2
    go (suc (suc (suc zero))) q = k.two p1 p2
    go (suc (suc (suc (suc zero)))) q = p2
    go (suc (suc (suc (suc (suc i))))) q = absurd (omega arith)

pub cubic_keeps : {P : FixedPoint → Type 0} {l : List FixedPoint} → Kept P → Every P 4 l → Every P 7 (split_cubic l)
unfolding split_cubic
cubic_keeps {P} {l} k h = record { at = go }
  where
    p0 : P (point_of l 0)
    p0 = h.at 0 (omega arith)

    p1 : P (point_of l 1)
    p1 = h.at 1 (omega arith)

    p2 : P (point_of l 2)
    p2 = h.at 2 (omega arith)

    p3 : P (point_of l 3)
    p3 = h.at 3 (omega arith)

    go : (i : ℕ) → i < 7 → P (point_of (split_cubic l) i)
    go zero q = p0
    go (suc zero) q = k.two p0 p1
    go (suc (suc zero)) q = k.three p0 p1 p2
    go (suc (suc (suc zero))) q = k.four p0 p1 p2 p3
    go (suc (suc (suc (suc zero)))) q = k.three p1 p2 p3
    go (suc (suc (suc (suc (suc zero))))) q = k.two p2 p3
    go (suc (suc (suc (suc (suc (suc zero)))))) q = p3
    go (suc (suc (suc (suc (suc (suc (suc i))))))) q = absurd (omega arith)

-- both parts in range; one part alone, as the rows of a band want it
pub within_kept : (lo hi : ℕ) → Kept (Within lo hi)
within_kept lo hi = record { two = mid_within; three = mid4_within; four = mid8_within }

pub x_kept : (lo hi : ℕ) → Kept (λ p. Between lo hi p.x)
x_kept lo hi = record { two = half_between; three = quarter_between; four = eighth_between }

pub y_kept : (lo hi : ℕ) → Kept (λ p. Between lo hi p.y)
y_kept lo hi = record { two = half_between; three = quarter_between; four = eighth_between }

-- from a row on, and before a row
pub past_kept : (end : ℕ) → Kept (λ p. end ≤ cell p.y)
past_kept end = record { two = λ p q. omega arith; three = λ p q r. omega arith; four = λ p q r s. omega arith }

pub ahead_kept : (first : ℕ) → Kept (λ p. cell p.y < first)
ahead_kept first = record { two = λ p q. omega arith; three = λ p q r. omega arith; four = λ p q r s. omega arith }

pub quad_within : {lo hi : ℕ} {l : List FixedPoint} → Every (Within lo hi) 3 l → Every (Within lo hi) 5 (split_quad l)
quad_within h = quad_keeps (within_kept _ _) h

pub cubic_within : {lo hi : ℕ} {l : List FixedPoint} → Every (Within lo hi) 4 l → Every (Within lo hi) 7 (split_cubic l)
cubic_within h = cubic_keeps (within_kept _ _) h

-- ---- the point rule
abbrev InRange : Option Fix → Type 0
InRange (Some f) = Between (bias - limit) (bias + limit) f.at
InRange None = Unit

held_between : (s : Bool) (n : ℕ) → n ≤ limit → Between (bias - limit) (bias + limit) (held_of s n)
held_between true n h = record { low = omega arith; high = omega arith }
held_between false n h = record { low = omega arith; high = omega arith }

limited : (s : Bool) (n : ℕ) (r : Bool) → InRange (within_limit s n r)
limited s n r = go (leb n limit) refl
  where
    go : (u : Bool) → leb n limit ≡ u → InRange (cond u (fix (held_of s n) r) None)
    go true h = held_between s n (leb-true n limit h)
    go false h = tt

in_range : (v : Float) → InRange (to_fixed v)
unfolding to_fixed
in_range nan = tt
in_range (inf s) = tt
in_range (fin s m e) = limited s (m * up e * 256 / down e) (not (eqb (m * up e * 256 % down e) 0))

pub fixed_between : (v : Float) (n : ℕ) (c : Bool) → to_fixed v ≡ fix n c → Between (bias - limit) (bias + limit) n
fixed_between v n c h = subst InRange h (in_range v)

abbrev InPlace : Option Spot → Type 0
InPlace (Some s) = Within (bias - limit) (bias + limit) s.point
InPlace None = Unit

placed : (f g : Option Fix) → InRange f → InRange g → InPlace (spot_from f g)
unfolding spot_from
placed (Some f) (Some g) p q = record { x_in = p; y_in = q }
placed (Some f) None p q = tt
placed None g p q = tt

in_place : (p : Point) → InPlace (spot_of p)
unfolding spot_of
in_place p = placed (to_fixed p.x) (to_fixed p.y) (in_range p.x) (in_range p.y)

pub spot_within : (p : Point) (q : FixedPoint) (k : ℕ) → spot_of p ≡ spot q k → Within (bias - limit) (bias + limit) q
spot_within p q k h = subst InPlace h (in_place p)
