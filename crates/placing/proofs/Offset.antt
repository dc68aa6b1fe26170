-- For an empty list the offset is added to (0, 0), and the sum is rounded. What is `farthest` at most rounds to that at most, since rounding keeps the
-- order: so an offset that passes the point rule lies near there too.
use Prim.Native.Nat.{ℕ, zero, suc, ◌+◌, ◌-◌, ◌*◌, ◌^◌, ◌≤◌, ◌<◌}
use mathlib.Core.Path.{◌≡◌, refl, sym, subst}
use mathlib.Core.Bool.{Bool, true, false, cond, ◌&&◌, ◌||◌}
use mathlib.Core.List.{[]}
use native.Mathlib.Omega.{arith}
use lib.Dec.{T, ltb, eqb, ltb→lt, eqb→eq}
use lib.IntN.{ℤ, pos}
use lib.Ieee.{Float, nan, inf, fin, binary32, up, down, odd, units, round, sum, add, neg, le, of_bits}
use lib.Ieee.Fits.{down_pos, round_is}
use lib.Ieee.Order.{round_mono}
use Rattle.float.specs.Cut.{zero_f}
use Rattle.float.proofs.Rounding.{neg_round}
use Rattle.geometry.specs.declared.Point.{Point}
use Rattle.geometry.specs.declared.Transform.{Transform}
use Rattle.geometry.specs.Affine.{plus, shifted}
use Rattle.geometry.specs.Box.{box_of}
use Rattle.fixed.specs.Fixed.{spot_of}
use Rattle.path.specs.Reading.{passed}
use Rattle.placing.specs.Placing.{nowhere, path_points, path_box}
use Rattle.placing.specs.Measuring.{Lies}
use Rattle.placing.proofs.Near.{farthest, Small, small_part, spot_small, within_small}

-- ---- it rounds to itself
abbrev most : Float
most = fin false farthest (pos 0)

most_is : round binary32 false farthest 1 ≡ most
unfolding round
most_is = refl

-- ---- what is not above it is small
from_le : (a b : ℕ) → T (ltb a b || (eqb a b && true)) → a ≤ b
from_le a b t = go (ltb a b) (eqb a b) (ltb→lt a b) (eqb→eq a b) t
  where
    go : (x y : Bool) → (T x → a < b) → (T y → a ≡ b) → T (x || (y && true)) → a ≤ b
    go true y f g t = let l = f tt in omega arith
    go false true f g t = let e = g tt in omega arith
    go false false f g t = absurd t

fin_small : (m : ℕ) (e : ℤ) → T (le (fin false m e) most) → Small (fin false m e)
unfolding le
fin_small m e t = let l = from_le (m * up e * 1) (farthest * 1 * down e) t in small_part {m = m} {e = e} (omega arith)

odd_small : (d q k l : ℕ) → T (le (odd d false q k l) most) → Small (odd d false q k l)
unfolding odd
odd_small d zero k l t = fin_small zero (pos zero) t
odd_small d (suc q) k l t = fin_small _ _ t

units_small : (q k : ℕ) → T (le (units binary32 false q k) most) → Small (units binary32 false q k)
unfolding units
units_small q k t = go (ltb (q * 2 ^ k) (2 ^ 277)) t
  where
    go : (b : Bool) → T (le (cond b (odd 25 false q k 149) (inf false)) most) → Small (cond b (odd 25 false q k 149) (inf false))
    go true t = odd_small 25 q k 149 t
    go false t = absurd (unfold le in t)

module _ (a c : ℕ) (C : 0 < c) (h : a ≤ farthest * c) where
  below_most : T (le (round binary32 false a c) most)
  below_most = subst (λ (z : Float). T (le (round binary32 false a c) z)) most_is (round_mono binary32 a c farthest 1 C (omega arith) (omega arith))

  round_small : Small (round binary32 false a c)
  round_small =
      let r = round_is binary32 false a c in
      subst Small (sym r) (units_small _ _ (subst (λ (z : Float). T (le z most)) r below_most))

  negative_small : Small (round binary32 true a c)
  negative_small = subst Small (neg_round binary32 false a c) (negated round_small)
    where
      negated : {v : Float} → Small v → Small (neg v)
      negated (small_part l) = unfold neg in small_part l

-- ---- added to zero
sum_small : (s : Bool) (n c : ℕ) → 0 < c → n ≤ farthest * c → Small (sum binary32 false (0 * 1 * c) s (n * 1) (1 * c))
unfolding sum
sum_small false n c C h = round_small (0 * 1 * c + n * 1) (1 * c) (omega arith) (omega arith)
sum_small true n c C h = go (ltb (0 * 1 * c) (n * 1))
  where
    go : (u : Bool) → Small (cond u (round binary32 true (n * 1 - 0 * 1 * c) (1 * c)) (round binary32 false (0 * 1 * c - n * 1) (1 * c)))
    go true = negative_small (n * 1 - 0 * 1 * c) (1 * c) (omega arith) (omega arith)
    go false = round_small (0 * 1 * c - n * 1) (1 * c) (omega arith) (omega arith)

zero_plus : (v : Float) → Small v → Small (plus zero_f v)
unfolding add of_bits
zero_plus nan h = elim h [ ]
zero_plus (inf t) h = elim h [ ]
zero_plus (fin s m e) (small_part h) = sum_small s (m * up e) (down e) (down_pos e) h

-- ---- an empty list
pub empty_lies : (t : Transform) (o : Point) → passed (spot_of o) ≡ true → Lies o (path_box t [])
unfolding path_points path_box box_of
empty_lies t o h =
    let b = spot_small o h in
    let n = within_small (shifted o nowhere) (record { x_small = zero_plus o.x b.x_small; y_small = zero_plus o.y b.y_small }) in
    record { low = n; high = n }
