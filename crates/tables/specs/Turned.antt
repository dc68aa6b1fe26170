-- docs/RULES.md, "From floats to 24.8 numbers": points under two transforms, combined and one after the other, by values.
use Rattle.std.specs.Prelude.{◌^◌, ◌≡◌, refl, pos, neg_ℤ}
use Rattle.std.proofs.Common.{lit≤}
use Rattle.std.specs.Float.Ieee.{of_bits, add, mul}
use Rattle.geometry.specs.declared.Point.{Point}
use Rattle.geometry.specs.declared.Transform.{Transform}
use Rattle.geometry.specs.Bits.{float, at}
use Rattle.paper.specs.Floats.{moved, translation, scale, combine}
use Rattle.paper.specs.Combining.{Is, Whole, Exact, Entries, Within, Small, combine_in_rust}
use Rattle.paper.proofs.Wholes.{product_at, sum_at}
use Rattle.paper.proofs.Combining.{combining}
use Rattle.tables.specs.Lists.{−4096, −5, −2, −1, −0, n0, n1, n2, n3, n4, n5, n6, n4096, n4097}
use Rattle.tables.specs.Lists.{n1048576, n16781312, n16785408, n50356224, n50356228, 2^40, affine}

abbrev quarter : Transform  -- (1,0) to (0,1), and (0,1) to (−1,0)
quarter = affine n0 n1 −1 n0 n0 n0

abbrev wide : Transform  -- x twice as long
wide = scale (float n2) (float n1)

abbrev shear : Transform  -- y is added to x
shear = affine n1 n0 n1 n1 n0 n0

abbrev move : Transform
move = translation (float n3) (float n5)

abbrev longer : Transform  -- x 2^20 times as long
longer = scale (float n1048576) (float n1)

abbrev odd : Transform  -- x 4,097 times as long
odd = scale (float n4097) (float n1)

abbrev back : Transform  -- 4,096 times y taken from x
back = affine n1 n0 −4096 n1 n0 n0

abbrev steep : Transform  -- x 4,097 times as long, and 4,096 times y taken from it
steep = affine n4097 n0 −4096 n1 n0 n0

abbrev spread : Transform  -- x 4,097 times as long, and 4,096 times x added to y
spread = affine n4097 n4096 n0 n1 n0 n0

abbrev less : Transform  -- y taken from x
less = affine n1 n0 −1 n1 n0 n0

abbrev mirror : Transform  -- y turned over, and some zeros −0
mirror = affine n1 n0 −0 −1 −0 n0

abbrev still : Transform  -- nothing moved, and some zeros −0
still = affine n1 n0 −0 n1 −0 n0

-- where p goes: under both combined, under a and then b, and under both as the Rust combines them
pub record Sent (a b : Transform) (p combined twice inRust : Point) : Type 0 where
  pub once : moved (combine a b) p ≡ combined
  pub apart : moved b (moved a p) ≡ twice
  pub rust : moved (combine_in_rust a b) p ≡ inRust

pub record Turned : Type 0 where
  -- a quarter turn, then x twice as long
  pub turned_widened : Sent quarter wide (at n1 n0) (at n0 n1) (at n0 n1) (at n0 n2)
  pub sheared_widened : Sent shear wide (at n1 n1) (at n4 n1) (at n4 n1) (at n3 n1)
  pub turned_moved : Sent quarter move (at n1 n0) (at n3 n6) (at n3 n6) (at n3 n6)
  pub moved_turned : Sent move quarter (at n1 n0) (at −5 n4) (at −5 n4) (at n5 −2)
  -- these four are worked with exactly
  pub turned_widened_exact : Exact quarter wide (at n1 n0)
  pub sheared_widened_exact : Exact shear wide (at n1 n1)
  pub turned_moved_exact : Exact quarter move (at n1 n0)
  pub moved_turned_exact : Exact move quarter (at n1 n0)
  -- 2^20·2^20 is no small number, and exact
  pub long : Sent longer longer (at n1 n0) (at 2^40 n0) (at 2^40 n0) (at 2^40 n0)
  pub long_exact : Exact longer longer (at n1 n0)
  -- 4097·4097 is rounded, and so they part: 3·16785408, and 12291·4097
  pub rounded : Sent odd odd (at n3 n0) (at n50356224 n0) (at n50356228 n0) (at n50356224 n0)
  -- they part where 4097·4097 is met on one way alone: in combining, 4097·4097 − 4096·4097 beside (4097 − 4096)·4097;
  -- in moving the point under the combined transform; and in moving it twice
  pub only_combined : Sent steep odd (at n1 n1) (at n4096 n1) (at n4097 n1) (at n16781312 n1)
  pub only_once : Sent back odd (at n4097 n1) (at n4096 n1) (at n4097 n1) (at n16781312 n1)
  pub only_twice : Sent spread less (at n4097 n0) (at n4097 n16781312) (at n4096 n16781312) (at n16785408 n16781312)
  -- exact again, and 0 and −0, which count as one
  pub zeros : Sent mirror still (at −0 n0) (at n0 n0) (at −0 n0) (at n0 n0)
  pub zeros_exact : Exact mirror still (at −0 n0)
  -- a mirror in x, then one in y: with no xy and no yx only a zero's sign is another in the Rust
  pub mirrors : combine (scale (float −1) (float n1)) (scale (float n1) (float −1)) ≡ affine −1 −0 n0 −1 n0 n0
  pub mirrors_in_rust :
      combine_in_rust (scale (float −1) (float n1)) (scale (float n1) (float −1)) ≡ affine −1 n0 −0 −1 n0 n0

-- ---- whole numbers
abbrev Entries128 : Transform → Type 0
Entries128 t = Entries (Within 128) (Within 128) t

within : Within 128 (float n0) × Within 128 (float n1) × Within 128 (float n2) × Within 128 (float n3)
    × Within 128 (float n5) × Within 128 (float −1) × Within 128 (float −0)
unfolding Is of_bits
within = (
  (pos 0, (0, refl, refl), lit≤ tt),
  (pos 1, (1, refl, refl), lit≤ tt),
  (pos 2, (2, refl, refl), lit≤ tt),
  (pos 3, (3, refl, refl), lit≤ tt),
  (pos 5, (5, refl, refl), lit≤ tt),
  (neg_ℤ (pos 1), (1, refl, refl), lit≤ tt),
  (pos 0, (0, refl, refl), lit≤ tt),
)

turns : Entries128 quarter × Entries128 wide × Entries128 shear × Entries128 move × Entries128 mirror
    × Entries128 still
turns =
    let (o, i, two, three, five, −i, −o) = within in (
      (o, i, −i, o, o, o),
      (two, o, o, i, o, o),
      (i, o, i, i, o, o),
      (i, o, o, i, three, five),
      (i, o, −o, −i, −o, o),
      (i, o, −o, i, −o, o),
    )

is : Is (float n0) (pos 0) × Is (float n1) (pos 1) × Is (float n1048576) (pos (2 ^ 20)) × Is (float 2^40) (pos (2 ^ 40))
unfolding Is of_bits
is = ((0, refl, refl), (1, refl, refl), (2 ^ 20, refl, refl), (2 ^ 40, refl, refl))

-- each of its products and sums, by its value
long_is_exact : Exact longer longer (at n1 n0)
unfolding of_bits add mul
long_is_exact =
    let (z, i, k, m) = is in
    let 0·0 = product_at (float n0) (float n0) (pos 0) (pos 0) z z z in
    let 0·1 = product_at (float n0) (float n1) (pos 0) (pos 1) z i z in
    let 1·0 = product_at (float n1) (float n0) (pos 1) (pos 0) i z z in
    let 1·1 = product_at (float n1) (float n1) (pos 1) (pos 1) i i i in
    let 0·k = product_at (float n0) (float n1048576) (pos 0) (pos (2 ^ 20)) z k z in
    let k·0 = product_at (float n1048576) (float n0) (pos (2 ^ 20)) (pos 0) k z z in
    let 1·k = product_at (float n1) (float n1048576) (pos 1) (pos (2 ^ 20)) i k k in
    let k·k = product_at (float n1048576) (float n1048576) (pos (2 ^ 20)) (pos (2 ^ 20)) k k m in
    let 1·m = product_at (float n1) (float 2^40) (pos 1) (pos (2 ^ 40)) i m m in
    let 0+0 = sum_at (float n0) (float n0) (pos 0) (pos 0) z z z in
    let 0+1 = sum_at (float n0) (float n1) (pos 0) (pos 1) z i i in
    let k+0 = sum_at (float n1048576) (float n0) (pos (2 ^ 20)) (pos 0) k z k in
    let m+0 = sum_at (float 2^40) (float n0) (pos (2 ^ 40)) (pos 0) m z m in
    let nought : Whole (float n0) = (pos 0, z) in
    let unit : Whole (float n1) = (pos 1, i) in
    let entries : Entries Whole Whole longer = ((pos (2 ^ 20), k), nought, nought, unit, nought, nought) in
    record {
      first = entries;
      second = entries;
      point = (unit, nought);
      combined = (
        ((k·k, 0·0, m+0), (k·0, 0·1, 0+0)),
        ((0·k, 1·0, 0+0), (0·0, 1·1, 0+1)),
        (((0·k, 0·0, 0+0), 0+0), ((0·0, 0·1, 0+0), 0+0)),
      );
      once = (((1·m, 0·0, m+0), m+0), ((1·0, 0·1, 0+0), 0+0));
      here = (((1·k, 0·0, k+0), k+0), ((1·0, 0·1, 0+0), 0+0));
      there = (((k·k, 0·0, m+0), m+0), ((k·0, 0·1, 0+0), 0+0));
    }

turned : Turned
unfolding of_bits add mul
turned =
    let exact : (a b : Transform) (p : Point) → Small 128 128 a b p → Exact a b p =
    λ a b p. combining.small 128 128 a b p (lit≤ tt) (lit≤ tt) in
    let o = within.0 in
    let i = within.1 in
    record {
      turned_widened = record { once = refl; apart = refl; rust = refl };
      sheared_widened = record { once = refl; apart = refl; rust = refl };
      turned_moved = record { once = refl; apart = refl; rust = refl };
      moved_turned = record { once = refl; apart = refl; rust = refl };
      turned_widened_exact = exact quarter wide (at n1 n0) (turns.0, turns.1, i, o);
      sheared_widened_exact = exact shear wide (at n1 n1) (turns.2, turns.1, i, i);
      turned_moved_exact = exact quarter move (at n1 n0) (turns.0, turns.3, i, o);
      moved_turned_exact = exact move quarter (at n1 n0) (turns.3, turns.0, i, o);
      long = record { once = refl; apart = refl; rust = refl };
      long_exact = long_is_exact;
      rounded = record { once = refl; apart = refl; rust = refl };
      only_combined = record { once = refl; apart = refl; rust = refl };
      only_once = record { once = refl; apart = refl; rust = refl };
      only_twice = record { once = refl; apart = refl; rust = refl };
      zeros = record { once = refl; apart = refl; rust = refl };
      zeros_exact = exact mirror still (at −0 n0) (turns.4, turns.5, within.6, o);
      mirrors = refl;
      mirrors_in_rust = refl;
    }
