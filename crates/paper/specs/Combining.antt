-- What combining is for: a point moved by a transform, and then by another, goes where the two combined send it.
-- proofs/Combining.antt proves what stands here.
use Rattle.std.specs.Prelude.{ℕ, ◌+◌ as ◌+ℕ◌, ◌*◌ as ◌*ℕ◌, ◌^◌, ◌≤◌, ◌≡◌, true, cond, ◌⊎◌, ℤ, pos, neg_ℤ, nat_abs, Float}
use Rattle.std.specs.Float.{nan, inf, fin}
use Rattle.std.specs.Float.Ieee.{up, down}
use Rattle.std.specs.Float.Ieee.Scale.{finite}
use Rattle.geometry.specs.declared.Point.{Point}
use Rattle.geometry.specs.declared.Transform.{Transform}
use Rattle.paper.specs.Numbers.{◌+ᶻ◌, ◌*ᶻ◌, +0}
use Rattle.paper.specs.Floats.{◌⊕◌, ◌⊗◌, moved, scale, identity, combine}

-- the float is the whole number z; a zero of either sign is 0
unfoldable pub Is : Float → ℤ → Type 0
Is nan z = ⊥
Is (inf sign) z = ⊥
Is (fin sign m e) z = (n : ℕ) × (m *ℕ up e ≡ n *ℕ down e) × (cond sign (neg_ℤ (pos n)) (pos n) ≡ z)

abbrev pub Whole : Float → Type 0
Whole v = (z : ℤ) × Is v z

abbrev pub Same : Float → Float → Type 0  -- one float, zeros of either sign counting as one
Same u v = (u ≡ v) ⊎ (Is u +0 × Is v +0)

abbrev pub SamePoint : Point → Point → Type 0
SamePoint p q = Same p.x q.x × Same p.y q.y

-- ---- exactness, by values: of two whole numbers the float is the product, the sum
abbrev pub ExactProduct : Float → Float → Type 0
ExactProduct u v = (x y : ℤ) → Is u x → Is v y → Is (u ⊗ v) (x *ᶻ y)

abbrev pub ExactSum : Float → Float → Type 0
ExactSum u v = (x y : ℤ) → Is u x → Is v y → Is (u ⊕ v) (x +ᶻ y)

abbrev pub ExactPair : Float → Float → Float → Float → Type 0  -- x·a + y·b: both products, and their sum
ExactPair x a y b = ExactProduct x a × ExactProduct y b × ExactSum (x ⊗ a) (y ⊗ b)

abbrev pub ExactLine : Float → Float → Float → Float → Float → Type 0  -- (x·a + y·b) + t
ExactLine x a y b t = ExactPair x a y b × ExactSum (x ⊗ a ⊕ y ⊗ b) t

abbrev pub ExactVector : Transform → Float → Float → Type 0  -- the vector (x, y) under t
ExactVector t x y = ExactPair x t.xx y t.yx × ExactPair x t.xy y t.yy

abbrev pub ExactPoint : Transform → Float → Float → Type 0  -- the point (x, y) under t
ExactPoint t x y = ExactLine x t.xx y t.yx t.x × ExactLine x t.xy y t.yy t.y

abbrev pub Entries : (Float → Type 0) → (Float → Type 0) → Transform → Type 0  -- of xx, xy, yx and yy, and of x and y
Entries P Q t = P t.xx × P t.xy × P t.yx × P t.yy × Q t.x × Q t.y

-- everything that is worked out in either way comes out exactly
pub record Exact (a b : Transform) (p : Point) : Type 0 where
  pub first : Entries Whole Whole a
  pub second : Entries Whole Whole b
  pub point : Whole p.x × Whole p.y
  -- of combine: xx and xy, yx and yy, x and y
  pub combined : ExactVector b a.xx a.xy × ExactVector b a.yx a.yy × ExactPoint b a.x a.y
  -- of the point under the combined transform
  pub once : ExactPoint (combine a b) p.x p.y
  -- of the point moved twice
  pub here : ExactPoint a p.x p.y
  pub there : ExactPoint b (moved a p).x (moved a p).y

abbrev pub Twice : Transform → Transform → Point → Type 0  -- the law
Twice a b p = SamePoint (moved (combine a b) p) (moved b (moved a p))

-- ---- small numbers
abbrev pub Within : ℕ → Float → Type 0  -- a whole number of at most n in size
Within n v = (z : ℤ) × Is v z × (nat_abs z ≤ n)

-- xx, xy, yx and yy at most n in size, x, y and the point's parts at most m
abbrev pub Small : ℕ → ℕ → Transform → Transform → Point → Type 0
Small n m a b p =
    Entries (Within n) (Within m) a × Entries (Within n) (Within m) b × Within m p.x × Within m p.y

-- ---- the Rust's rule
abbrev pub swap : Transform → Transform  -- xy and yx exchanged
swap t = record { xx = t.xx; xy = t.yx; yx = t.xy; yy = t.yy; x = t.x; y = t.y }

abbrev pub combine_in_rust : Transform → Transform → Transform  -- as zeno 0.3.3 combines
combine_in_rust a b = record {
  xx = a.xx ⊗ b.xx ⊕ a.yx ⊗ b.xy;
  yx = a.xx ⊗ b.yx ⊕ a.yx ⊗ b.yy;
  xy = a.xy ⊗ b.xx ⊕ a.yy ⊗ b.xy;
  yy = a.xy ⊗ b.yx ⊕ a.yy ⊗ b.yy;
  x = a.x ⊗ b.xx ⊕ a.y ⊗ b.xy ⊕ b.x;
  y = a.x ⊗ b.yx ⊕ a.y ⊗ b.yy ⊕ b.y;
}

abbrev pub SameEntries : Transform → Transform → Type 0
SameEntries a b =
    Same a.xx b.xx × Same a.xy b.xy × Same a.yx b.yx × Same a.yy b.yy × Same a.x b.x
    × Same a.y b.y

pub record Combining : Type 0 where
  pub twice : (a b : Transform) (p : Point) → Exact a b p → Twice a b p
  -- numbers are small enough where the largest sum, m + 2·m·n + 4·m·n·n, is at most 2^24
  pub small : (n m : ℕ) (a b : Transform) (p : Point) → 1 ≤ m → m +ℕ 2 *ℕ m *ℕ n +ℕ 4 *ℕ m *ℕ n *ℕ n ≤ 2 ^ 24
      → Small n m a b p → Exact a b p
  -- two such bounds: 128 for all, and 16 beside 4,096
  pub up_to128 : (a b : Transform) (p : Point) → Small 128 128 a b p → Twice a b p
  pub up_to16 : (a b : Transform) (p : Point) → Small 16 4096 a b p → Twice a b p
  -- bit for bit, it is the Rust's with xy and yx exchanged in what goes in and in what comes out
  pub swapped : (a b : Transform) → combine a b ≡ swap (combine_in_rust (swap a) (swap b))
  -- the identity scaled by finite numbers is the Rust's as it stands
  pub scaled : (x y : Float) → finite x ≡ true → finite y ≡ true
      → combine identity (scale x y) ≡ combine_in_rust identity (scale x y)
  -- and so, but for the sign of zeros, is a transform whose xy and yx are zeros
  pub straight : (t : Transform) (x y : Float) → Is t.xy +0 → Is t.yx +0 → finite t.xx ≡ true
      → finite t.yy ≡ true → finite x ≡ true → finite y ≡ true
      → SameEntries (combine t (scale x y)) (combine_in_rust t (scale x y))
