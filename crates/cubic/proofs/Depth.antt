-- No cubic in reach is split more than nine deep.
use Prim.Native.Nat.{ℕ, zero, suc, ◌+◌, ◌-◌, ◌*◌, ◌≤◌}
use mathlib.Core.Path.{◌≡◌}
use mathlib.Core.Bool.{false}
use native.Mathlib.Omega.{arith}
use native.Mathlib.Nat.{le_of_suc-le-suc}
use lib.Dec.{lit≤}
use Rattle.fixed.specs.declared.FixedPoint.{FixedPoint}
use Rattle.fixed.specs.Fixed.{limit, bias}
use Rattle.fixed.specs.Split.{Between, Within}
use Rattle.line.specs.Range.{Reach}
use Rattle.cubic.specs.Cubics.{Cubic, curved, start_half, end_half}
use Rattle.cubic.specs.Depth.{Flat, flat, split, Four}
use Rattle.cubic.proofs.Axis.{Small, spread, start_small, end_small, unbent}

-- on both axes
record Tame (m : ℕ) (k : Cubic) : Type 0 where
  pub on_x : Small m k.p0.x k.p1.x k.p2.x k.p3.x
  pub on_y : Small m k.p0.y k.p1.y k.p2.y k.p3.y

straight : (k : Cubic) → Tame 42 k → curved k ≡ false
unfolding curved
straight k h = rw (unbent _ _ _ _ h.on_x, unbent _ _ _ _ h.on_y)

start_tame : (m : ℕ) (k : Cubic) → 2 ≤ m → Tame (4 * m - 6) k → Tame m (start_half k)
start_tame m k g h = record { on_x = start_small m _ _ _ _ h.on_x g; on_y = start_small m _ _ _ _ h.on_y g }

end_tame : (m : ℕ) (k : Cubic) → 2 ≤ m → Tame (4 * m - 6) k → Tame m (end_half k)
end_tame m k g h = record { on_x = end_small m _ _ _ _ h.on_x g; on_y = end_small m _ _ _ _ h.on_y g }

-- how far a cubic may bend that is at most n splits deep
unfoldable pub bound : ℕ → ℕ
bound zero = 42
bound (suc n) = 4 * bound n - 6

bound_two : (n : ℕ) → 2 ≤ bound n
unfolding bound
bound_two zero = lit≤ tt
bound_two (suc n) = let h = bound_two n in omega arith

tame_flat : (n : ℕ) (k : Cubic) → Tame (bound n) k → Flat n k
unfolding bound
tame_flat zero k h = flat (straight k h)
tame_flat (suc n) k h =
    split (tame_flat n (start_half k) (start_tame (bound n) k (bound_two n) h)) (tame_flat n (end_half k) (end_tame (bound n) k (bound_two n) h))

-- points that lie in a square
module _ (n lo hi : ℕ) (g : 2 * (hi - lo) ≤ bound n) where
  axis : {p0 p1 p2 p3 : ℕ} → Between lo hi p0 → Between lo hi p1 → Between lo hi p2 → Between lo hi p3 → Small (bound n) p0 p1 p2 p3
  axis {p0} {p1} {p2} {p3} a b c d =
      record {
        first = omega (arith, spread p0 p1 p2 lo hi a.low b.low c.low a.high b.high c.high);
        second = omega (arith, spread p1 p2 p3 lo hi b.low c.low d.low b.high c.high d.high);
      }

  pub square_flat : (k : Cubic) → Four (Within lo hi) k → Flat n k
  square_flat k h =
      tame_flat n k
      (record {
        on_x = axis h.end.x_in h.near_end.x_in h.near_start.x_in h.start.x_in;
        on_y = axis h.end.y_in h.near_end.y_in h.near_start.y_in h.start.y_in;
      })

reach_within : {p : FixedPoint} → Reach p → Within (bias - limit) (bias + limit) p
reach_within r = record { x_in = record { low = omega arith; high = r.x_high }; y_in = record { low = omega arith; high = r.y_high } }

-- in reach of lines and curves, that is within the point rule, at most nine deep
pub reach_flat : (k : Cubic) → Four Reach k → Flat 9 k
unfolding bound
reach_flat k h =
    square_flat 9 (bias - limit) (bias + limit) (omega arith) k
    (record { end = reach_within h.end; near_end = reach_within h.near_end; near_start = reach_within h.near_start; start = reach_within h.start })

pub flat_more : (n m : ℕ) {k : Cubic} → n ≤ m → Flat n k → Flat m k
flat_more n m h (flat e) = flat e
flat_more (suc n) zero h (split f g) = absurd (omega (arith, h))
flat_more (suc n) (suc m) h (split f g) = split (flat_more n m (le_of_suc-le-suc h) f) (flat_more n m (le_of_suc-le-suc h) g)
