-- Combining does what specs/Combining.antt asks of it. Where every step is exact, both ways come to one whole number, since products go over sums
-- (`columns`); and a float is fixed by the number that it is, but for a zero's sign (`same`). Small numbers stay within 2^24, up to which all are floats.
use Prim.Native.Nat.{ℕ, ◌+◌, ◌*◌, ◌^◌, ◌≤◌}
use mathlib.Core.Path.{◌≡◌, refl, sym, subst}
use mathlib.Core.Bool.{Bool, true, false}
use mathlib.Core.Logic.{inl, inr}
use native.Mathlib.Omega.{arith}
use native.Mathlib.Nat.{one-mul, mul_assoc, add-mul, mul-add, mul-le-mul_left, mul-le-mul_right, le_trans, le_of_eq}
use lib.Dec.{lit≤}
use lib.IntN.{ℤ, pos, nat_abs, ◌+ℤ◌, ◌*ℤ◌}
use lib.Ieee.{Float, fin, binary32, add, mul, of_bits}
use lib.Ieee.Fits.{add-fits}
use lib.Ieee.Scale.{finite}
use Rattle.geometry.specs.declared.Point.{Point}
use Rattle.geometry.specs.declared.Transform.{Transform}
use Rattle.paper.specs.Floats.{◌⊕◌, ◌⊗◌, moved, zero as zero_f, one, scale, identity, combine}
use Rattle.paper.specs.Combining.{Is, Whole, Same, ExactProduct, ExactSum, ExactPair, ExactLine, ExactVector, ExactPoint, Entries, Exact, Twice, Within, Small, swap, combine_in_rust, SameEntries, Combining}
use Rattle.paper.proofs.Integers.{columns, size_times, size_plus}
use Rattle.paper.proofs.Wholes.{same, product_is, sum_is, product_at, sum_at}
use Rattle.paper.proofs.Zeros.{Zero, zero_times, right_zero, left_zero, zeros_sum}

-- ---- THE LAW
pair_is : (x a y b : Float) (X A Y B : ℤ) → ExactPair x a y b → Is x X → Is a A → Is y Y → Is b B
    → Is (x ⊗ a ⊕ y ⊗ b) (X *ℤ A +ℤ Y *ℤ B)
pair_is x a y b X A Y B (f, g, h) p q r s = h (X *ℤ A) (Y *ℤ B) (f X A p q) (g Y B r s)

line_is : (x a y b t : Float) (X A Y B Z : ℤ) → ExactLine x a y b t → Is x X → Is a A → Is y Y → Is b B → Is t Z
    → Is (x ⊗ a ⊕ y ⊗ b ⊕ t) (X *ℤ A +ℤ Y *ℤ B +ℤ Z)
line_is x a y b t X A Y B Z (f, g) p q r s u = g (X *ℤ A +ℤ Y *ℤ B) Z (pair_is x a y b X A Y B f p q r s) u

-- one part of the point, by one column of the second transform
column : (a : Transform) (p : Point) (m n k : Float)
    → Entries Whole Whole a → Whole p.x × Whole p.y → Whole m → Whole n → Whole k
    → ExactPair a.xx m a.xy n → ExactPair a.yx m a.yy n → ExactLine a.x m a.y n k
    → ExactLine p.x (a.xx ⊗ m ⊕ a.xy ⊗ n) p.y (a.yx ⊗ m ⊕ a.yy ⊗ n) (a.x ⊗ m ⊕ a.y ⊗ n ⊕ k)
    → ExactPoint a p.x p.y → ExactLine (moved a p).x m (moved a p).y n k
    → Same
    (p.x ⊗ (a.xx ⊗ m ⊕ a.xy ⊗ n) ⊕ p.y ⊗ (a.yx ⊗ m ⊕ a.yy ⊗ n) ⊕ (a.x ⊗ m ⊕ a.y ⊗ n ⊕ k))
    ((moved a p).x ⊗ m ⊕ (moved a p).y ⊗ n ⊕ k)
column a p m n k ((xx, XX), (xy, XY), (yx, YX), (yy, YY), (x, X), (y, Y)) ((q, Q), (r, R)) (i, I) (j, J) (l, L) upper lower move once (left, right) there =
    same _ _ _ (add-fits binary32 _ _) (add-fits binary32 _ _)
    (line_is p.x _ p.y _ _ q _ r _ _ once Q
    (pair_is a.xx m a.xy n xx i xy j upper XX I XY J) R
    (pair_is a.yx m a.yy n yx i yy j lower YX I YY J)
    (line_is a.x m a.y n k x i y j l move X I Y J L))
    (subst (λ (z : ℤ). Is ((moved a p).x ⊗ m ⊕ (moved a p).y ⊗ n ⊕ k) z) (sym (columns q r xx xy yx yy x y i j l))
    (line_is (moved a p).x m (moved a p).y n k _ i _ j l there
    (line_is p.x a.xx p.y a.yx a.x q xx r yx x left Q XX R YX X) I
    (line_is p.x a.xy p.y a.yy a.y q xy r yy y right Q XY R YY Y) J L))

twice : (a b : Transform) (p : Point) → Exact a b p → Twice a b p
twice a b p h =
    let f = h.first in
    let g = h.second in
    let c = h.combined in (
      column a p b.xx b.yx b.x f h.point g.0 g.2 g.4 c.0.0 c.1.0 c.2.0 h.once.0 h.here h.there.0,
      column a p b.xy b.yy b.y f h.point g.1 g.3 g.5 c.0.1 c.1.1 c.2.1 h.once.1 h.here h.there.1,
    )

-- ---- small numbers, from the entries to the last sum
product_within : (n k : ℕ) (u v : Float) → n * k ≤ 2 ^ 24 → Within n u → Within k v → ExactProduct u v × Within (n * k) (u ⊗ v)
product_within n k u v l (x, p, a) (y, q, b) =
    let h : nat_abs x * nat_abs y ≤ n * k = le_trans (mul-le-mul_left (nat_abs x) b) (mul-le-mul_right k a) in
    let r = product_is u v x y p q (le_trans h l) in
    (product_at u v x y p q r, (x *ℤ y, r, rw (size_times x y) h))

sum_within : (n k : ℕ) (u v : Float) → n + k ≤ 2 ^ 24 → Within n u → Within k v → ExactSum u v × Within (n + k) (u ⊕ v)
sum_within n k u v l (x, p, a) (y, q, b) =
    let r = sum_is u v x y p q (omega arith) in
    (sum_at u v x y p q r, (x +ℤ y, r, omega (arith, size_plus x y)))

pair_within : (n k : ℕ) (x a y b : Float) → n * k + n * k ≤ 2 ^ 24 → Within n x → Within k a → Within n y → Within k b
    → ExactPair x a y b × Within (n * k + n * k) (x ⊗ a ⊕ y ⊗ b)
pair_within n k x a y b l p q r s =
    let f = product_within n k x a (omega arith) p q in
    let g = product_within n k y b (omega arith) r s in
    let h = sum_within (n * k) (n * k) (x ⊗ a) (y ⊗ b) l f.1 g.1 in
    ((f.0, g.0, h.0), h.1)

line_within : (n k i : ℕ) (x a y b t : Float) → n * k + n * k + i ≤ 2 ^ 24 → Within n x → Within k a → Within n y → Within k b → Within i t
    → ExactLine x a y b t × Within (n * k + n * k + i) (x ⊗ a ⊕ y ⊗ b ⊕ t)
line_within n k i x a y b t l p q r s u =
    let f = pair_within n k x a y b (omega arith) p q r s in
    let g = sum_within (n * k + n * k) i (x ⊗ a ⊕ y ⊗ b) t l f.1 u in
    ((f.0, g.0), g.1)

module _ (k n m : ℕ) (t : Transform) (h : Entries (Within n) (Within m) t) (x y : Float) (p : Within k x) (q : Within k y) where
  vector_within : k * n + k * n ≤ 2 ^ 24
      → ExactVector t x y
      × Within (k * n + k * n) (x ⊗ t.xx ⊕ y ⊗ t.yx) × Within (k * n + k * n) (x ⊗ t.xy ⊕ y ⊗ t.yy)
  vector_within l =
      let f = pair_within k n x t.xx y t.yx l p h.0 q h.2 in
      let g = pair_within k n x t.xy y t.yy l p h.1 q h.3 in
      ((f.0, g.0), f.1, g.1)

  point_within : k * n + k * n + m ≤ 2 ^ 24
      → ExactPoint t x y
      × Within (k * n + k * n + m) (x ⊗ t.xx ⊕ y ⊗ t.yx ⊕ t.x) × Within (k * n + k * n + m) (x ⊗ t.xy ⊕ y ⊗ t.yy ⊕ t.y)
  point_within l =
      let f = line_within k n m x t.xx y t.yx t.x l p h.0 q h.2 h.4 in
      let g = line_within k n m x t.xy y t.yy t.y l p h.1 q h.3 h.5 in
      ((f.0, g.0), f.1, g.1)

known : (n : ℕ) (v : Float) → Within n v → Whole v
known n v h = (h.0, h.1)

all_known : (n m : ℕ) (t : Transform) → Entries (Within n) (Within m) t → Entries Whole Whole t
all_known n m t h = (
  known n t.xx h.0,
  known n t.xy h.1,
  known n t.yx h.2,
  known n t.yy h.3,
  known m t.x h.4,
  known m t.y h.5,
)

module _ (n m : ℕ) (M : 1 ≤ m) (L : m + 2 * m * n + 4 * m * n * n ≤ 2 ^ 24) where
  -- the largest sum, multiplied out
  largest : m + 2 * (m * n) + 4 * (m * (n * n)) ≤ 2 ^ 24
  largest = simp (mul_assoc) at L

  entry_fits : n * n + n * n ≤ 2 ^ 24
  entry_fits =
      let h : n * n ≤ m * (n * n) = le_trans (le_of_eq (sym (one-mul (n * n)))) (mul-le-mul_right (n * n) M) in
      omega (arith, largest)

  move_fits : m * n + m * n + m ≤ 2 ^ 24
  move_fits = omega (arith, largest)

  once_fits : m * (n * n + n * n) + m * (n * n + n * n) + (m * n + m * n + m) ≤ 2 ^ 24
  once_fits = rw (mul-add m (n * n) (n * n)) (omega (arith, largest))

  there_fits : (m * n + m * n + m) * n + (m * n + m * n + m) * n + m ≤ 2 ^ 24
  there_fits = simp (add-mul, mul_assoc) (omega (arith, largest))

  small : (a b : Transform) (p : Point) → Small n m a b p → Exact a b p
  small a b p (f, g, u, v) =
      let upper = vector_within n n m b g a.xx a.xy f.0 f.1 entry_fits in
      let lower = vector_within n n m b g a.yx a.yy f.2 f.3 entry_fits in
      let move = point_within m n m b g a.x a.y f.4 f.5 move_fits in
      let here = point_within m n m a f p.x p.y u v move_fits in
      record {
        first = all_known n m a f;
        second = all_known n m b g;
        point = (known m p.x u, known m p.y v);
        combined = (upper.0, lower.0, move.0);
        once = (point_within m (n * n + n * n) (m * n + m * n + m) (combine a b)
            (upper.1, upper.2, lower.1, lower.2, move.1, move.2) p.x p.y u v once_fits).0;
        here = here.0;
        there = (point_within (m * n + m * n + m) n m b g (moved a p).x (moved a p).y here.1 here.2 there_fits).0;
      }

-- ---- the Rust's
swapped : (a b : Transform) → combine a b ≡ swap (combine_in_rust (swap a) (swap b))
swapped a b = refl

zeros_add : (s : Bool) → (one ⊗ zero_f ⊕ fin s 0 (pos 0) ≡ zero_f) × (fin s 0 (pos 0) ⊕ one ⊗ zero_f ≡ zero_f)
unfolding of_bits add mul
zeros_add false = (refl, refl)
zeros_add true = (refl, refl)

zero_is : Is zero_f (pos 0)
unfolding Is of_bits
zero_is = (0, refl, refl)

no_more : (v : Float) → finite v ≡ true → (one ⊗ zero_f ⊕ zero_f ⊗ v ≡ zero_f) × (zero_f ⊗ v ⊕ one ⊗ zero_f ≡ zero_f)
no_more v h = let z = (zero_times zero_f v zero_is h).0 in rw z.1 (zeros_add z.0)

scaled : (x y : Float) → finite x ≡ true → finite y ≡ true → combine identity (scale x y) ≡ combine_in_rust identity (scale x y)
scaled x y h k =
    let f = no_more x h in
    let g = no_more y k in
    rw (f.1, g.0)

finite_zero : finite zero_f ≡ true
unfolding of_bits
finite_zero = refl

straight : (t : Transform) (x y : Float) → Is t.xy (pos 0) → Is t.yx (pos 0) → finite t.xx ≡ true
    → finite t.yy ≡ true → finite x ≡ true → finite y ≡ true
    → SameEntries (combine t (scale x y)) (combine_in_rust t (scale x y))
straight t x y p q f g h k =
    let xy-0 = (zero_times t.xy zero_f p finite_zero).0 in
    let yx-0 = (zero_times t.yx zero_f q finite_zero).0 in
    let xx-0 = (zero_times zero_f t.xx zero_is f).1 in
    let yy-0 = (zero_times zero_f t.yy zero_is g).1 in
    let zeros : (u v u' v' : Float) → Zero u → Zero v → Zero u' → Zero v' → Same (u ⊕ v) (u' ⊕ v') =
    λ u v u' v' a b c d. inr (zeros_sum u v a b, zeros_sum u' v' c d) in (
      rw (xy-0.1, yx-0.1) (right_zero (t.xx ⊗ x) xy-0.0 yx-0.0),
      zeros _ _ _ _ xx-0 (zero_times t.xy y p k).0 (zero_times t.xy x p h).0 yy-0,
      zeros _ _ _ _ (zero_times t.yx x q h).0 yy-0 xx-0 (zero_times t.yx y q k).0,
      rw (yx-0.1, xy-0.1) (left_zero (t.yy ⊗ y) yx-0.0 xy-0.0),
      inl refl,
      inl refl,
    )

pub combining : Combining
combining = record {
  twice = twice;
  small = λ n m a b p M L h. small n m M L a b p h;
  up_to128 = λ a b p h. twice a b p (small _ _ (lit≤ tt) (lit≤ tt) a b p h);
  up_to16 = λ a b p h. twice a b p (small _ _ (lit≤ tt) (lit≤ tt) a b p h);
  swapped = swapped;
  scaled = scaled;
  straight = straight;
}
