-- The points to which a quad's lines go: 2 ^ n of them after n halvings, the last one the quad's end, and each within whatever means of points keep.
use Prim.Native.Nat.{ℕ, zero, suc, ◌^◌, ◌≤◌}
use mathlib.Core.Path.{◌≡◌, refl, sym, ap, ◌∙◌}
use mathlib.Core.List.{List, [], ◌∷◌, ◌++◌, append_assoc}
use native.Mathlib.Omega.{arith}
use native.Mathlib.Nat.{pow-suc}
use lib.ListN.{length, length-append}
use lib.Pow.{pow_mono}
use Rattle.fixed.specs.declared.FixedPoint.{FixedPoint}
use Rattle.fixed.specs.Fixed.{cell}
use Rattle.fixed.specs.Split.{mid, mid4, Between}
use Rattle.fixed.proofs.Range.{Kept, x_kept, y_kept}
use Rattle.line.specs.Range.{Reach}
use Rattle.line.proofs.Points.{reach_kept}
use Rattle.quad.specs.Quads.{bend, doublings, quad_halves, quad_points}
use Rattle.quad.proofs.Doubling.{eight}

-- ---- how many
pub halves_length : (n : ℕ) (a c b : FixedPoint) → length (quad_halves n a c b) ≡ 2 ^ n
unfolding quad_halves
halves_length zero a c b = refl
halves_length (suc n) a c b =
    omega (
      arith,
      length-append (quad_halves n a (mid a c) (mid4 a c b)) (quad_halves n (mid4 a c b) (mid c b) b),
      halves_length n a (mid a c) (mid4 a c b),
      halves_length n (mid4 a c b) (mid c b) b,
      pow-suc 2 n,
    )

pub points_length : (a c b : FixedPoint) → length (quad_points a c b) ≡ 2 ^ doublings 16 (bend a c b)
unfolding quad_points
points_length a c b = halves_length (doublings 16 (bend a c b)) a c b

-- at most 256 lines
pub few_lines : (a c b : FixedPoint) → Reach a → Reach c → Reach b → length (quad_points a c b) ≤ 256
few_lines a c b p q r = omega (arith, points_length a c b, pow_mono (eight a c b p q r 16))

-- ---- the last
pub record EndsAt (b : FixedPoint) (ps : List FixedPoint) : Type 0 where
  pub before : List FixedPoint
  pub whole : ps ≡ before ++ (b ∷ [])

halves_end : (n : ℕ) (a c b : FixedPoint) → EndsAt b (quad_halves n a c b)
unfolding quad_halves
halves_end zero a c b = record { before = []; whole = refl }
halves_end (suc n) a c b =
    let first = quad_halves n a (mid a c) (mid4 a c b) in
    let e = halves_end n (mid4 a c b) (mid c b) b in
    record { before = first ++ e.before; whole = ap (λ (ps : List FixedPoint). first ++ ps) e.whole ∙ sym (append_assoc first e.before (b ∷ [])) }

pub points_end : (a c b : FixedPoint) → EndsAt b (quad_points a c b)
unfolding quad_points
points_end a c b = halves_end (doublings 16 (bend a c b)) a c b

-- ---- where they lie: what holds of a, c and b, and of means of points of which it holds, holds of each
abbrev pub Each : (FixedPoint → Type 0) → List FixedPoint → Type 0
Each P [] = Unit {0}
Each P (p ∷ ps) = P p × Each P ps

pub each_append : (P : FixedPoint → Type 0) (ps qs : List FixedPoint) → Each P ps → Each P qs → Each P (ps ++ qs)
each_append P [] qs h g = g
each_append P (p ∷ ps) qs h g = (h.0, each_append P ps qs h.1 g)

halves_keep : (P : FixedPoint → Type 0) → Kept P → (n : ℕ) (a c b : FixedPoint) → P a → P c → P b → Each P (quad_halves n a c b)
unfolding quad_halves
halves_keep P k zero a c b p q r = (r, tt)
halves_keep P k (suc n) a c b p q r =
    let m = k.three p q r in
    each_append P (quad_halves n a (mid a c) (mid4 a c b)) (quad_halves n (mid4 a c b) (mid c b) b)
    (halves_keep P k n a (mid a c) (mid4 a c b) p (k.two p q) m)
    (halves_keep P k n (mid4 a c b) (mid c b) b m (k.two q r) r)

pub points_keep : (P : FixedPoint → Type 0) → Kept P → (a c b : FixedPoint) → P a → P c → P b → Each P (quad_points a c b)
unfolding quad_points
points_keep P k a c b p q r = halves_keep P k (doublings 16 (bend a c b)) a c b p q r

-- ---- in the box of the three
module _ (lo hi : ℕ) (a c b : FixedPoint) where
  pub points_x : Between lo hi a.x → Between lo hi c.x → Between lo hi b.x → Each (λ p. Between lo hi p.x) (quad_points a c b)
  points_x p q r = points_keep (λ p. Between lo hi p.x) (x_kept lo hi) a c b p q r

  pub points_y : Between lo hi a.y → Between lo hi c.y → Between lo hi b.y → Each (λ p. Between lo hi p.y) (quad_points a c b)
  points_y p q r = points_keep (λ p. Between lo hi p.y) (y_kept lo hi) a c b p q r

-- in their columns and their rows
pub columns_kept : (lo hi : ℕ) → Kept (λ p. Between lo hi (cell p.x))
columns_kept lo hi = record {
  two = λ p q. record { low = omega arith; high = omega arith };
  three = λ p q r. record { low = omega arith; high = omega arith };
  four = λ p q r s. record { low = omega arith; high = omega arith };
}

pub rows_kept : (lo hi : ℕ) → Kept (λ p. Between lo hi (cell p.y))
rows_kept lo hi = record {
  two = λ p q. record { low = omega arith; high = omega arith };
  three = λ p q r. record { low = omega arith; high = omega arith };
  four = λ p q r s. record { low = omega arith; high = omega arith };
}

module _ (lo hi : ℕ) (a c b : FixedPoint) where
  pub points_columns : Between lo hi (cell a.x) → Between lo hi (cell c.x) → Between lo hi (cell b.x) → Each (λ p. Between lo hi (cell p.x)) (quad_points a c b)
  points_columns p q r = points_keep (λ p. Between lo hi (cell p.x)) (columns_kept lo hi) a c b p q r

  pub points_rows : Between lo hi (cell a.y) → Between lo hi (cell c.y) → Between lo hi (cell b.y) → Each (λ p. Between lo hi (cell p.y)) (quad_points a c b)
  points_rows p q r = points_keep (λ p. Between lo hi (cell p.y)) (rows_kept lo hi) a c b p q r

-- within reach
pub points_reach : (a c b : FixedPoint) → Reach a → Reach c → Reach b → Each Reach (quad_points a c b)
points_reach a c b p q r = points_keep Reach reach_kept a c b p q r
