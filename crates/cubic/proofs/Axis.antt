-- On one axis: a split quarters how far a cubic's points bend, but for rounding, and a cubic that bends little is not curved.
-- With N the larger of |p0 − 2p1 + p2| and |p1 − 2p2 + p3|: 4·N(half) ≤ N + 6, and where 3N ≤ 128 the cubic is one line.
use Prim.Native.Nat.{ℕ, ◌+◌, ◌-◌, ◌*◌, ◌/◌, ◌≤◌}
use mathlib.Core.Path.{◌≡◌}
use mathlib.Core.Bool.{false}
use native.Mathlib.Omega.{arith}
use borrow.Author.Tests.{le-ltb}
use Rattle.fixed.specs.Fixed.{apart}
use Rattle.cubic.specs.Cubics.{far, bent}

-- |x − 2y + z|
unfoldable pub bend : ℕ → ℕ → ℕ → ℕ
bend x y z = apart (x + z) (2 * y)

module _ (x y z : ℕ) where
  up : x + z ≤ 2 * y + bend x y z
  unfolding bend
  up = omega arith

  down : 2 * y ≤ x + z + bend x y z
  unfolding bend
  down = omega arith

  -- it is at most what bounds both differences
  least : (m : ℕ) → x + z ≤ 2 * y + m → 2 * y ≤ x + z + m → bend x y z ≤ m
  unfolding bend
  least m p q = omega arith

  -- of three numbers that lie between two
  pub spread : (lo hi : ℕ) → lo ≤ x → lo ≤ y → lo ≤ z → x ≤ hi → y ≤ hi → z ≤ hi → bend x y z ≤ 2 * (hi - lo)
  spread lo hi a b c d e f = least (2 * (hi - lo)) (omega arith) (omega arith)

-- on one axis N is at most m
pub record Small (m p0 p1 p2 p3 : ℕ) : Type 0 where
  pub first : bend p0 p1 p2 ≤ m
  pub second : bend p1 p2 p3 ≤ m

module _ (m p0 p1 p2 p3 : ℕ) (h : Small (4 * m - 6) p0 p1 p2 p3) (g : 2 ≤ m) where
  pub start_small : Small m ((p0 + 3 * p1 + 3 * p2 + p3) / 8) ((p1 + 2 * p2 + p3) / 4) ((p2 + p3) / 2) p3
  start_small =
      record {
        first = least _ _ _ m (omega (arith, h.first, h.second, up p0 p1 p2, up p1 p2 p3)) (omega (arith, h.first, h.second, down p0 p1 p2, down p1 p2 p3));
        second = least _ _ _ m (omega (arith, h.second, up p1 p2 p3)) (omega (arith, h.second, down p1 p2 p3));
      }

  pub end_small : Small m p0 ((p0 + p1) / 2) ((p0 + 2 * p1 + p2) / 4) ((p0 + 3 * p1 + 3 * p2 + p3) / 8)
  end_small =
      record {
        first = least _ _ _ m (omega (arith, h.first, up p0 p1 p2)) (omega (arith, h.first, down p0 p1 p2));
        second = least _ _ _ m (omega (arith, h.first, h.second, up p0 p1 p2, up p1 p2 p3)) (omega (arith, h.first, h.second, down p0 p1 p2, down p1 p2 p3));
      }

near : (u v : ℕ) → u ≤ v + 128 → v ≤ u + 128 → far u v ≡ false
near u v p q = le-ltb 128 (apart u v) (omega arith)

pub unbent : (p0 p1 p2 p3 : ℕ) → Small 42 p0 p1 p2 p3 → bent p0 p1 p2 p3 ≡ false
unfolding bent
unbent p0 p1 p2 p3 h =
    rw (
      near (2 * p0 + p3) (3 * p1) (omega (arith, h.first, h.second, up p0 p1 p2, up p1 p2 p3)) (omega (arith, h.first, h.second, down p0 p1 p2, down p1 p2 p3)),
      near (p0 + 2 * p3) (3 * p2) (omega (arith, h.first, h.second, up p0 p1 p2, up p1 p2 p3)) (omega (arith, h.first, h.second, down p0 p1 p2, down p1 p2 p3)),
    )
