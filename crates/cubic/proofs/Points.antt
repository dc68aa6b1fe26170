-- Where a cubic's points lie: each is a mean of means of its four points, so what means keep holds of each, and the last is its end.
use Prim.Native.Nat.{ℕ, zero, suc, ◌≤◌}
use mathlib.Core.Path.{◌≡◌, refl}
use mathlib.Core.Bool.{Bool, true, false, ◌&&◌, false≢true}
use mathlib.Core.List.{List, [], ◌∷◌}
use native.Mathlib.Omega.{arith}
use lib.ListN.{length}
use lib.Dec.{leb}
use borrow.Author.Tests.{leb-true, le-leb, ltb-true, lt-ltb}
use Rattle.fixed.specs.declared.FixedPoint.{FixedPoint}
use Rattle.fixed.specs.Fixed.{cell}
use Rattle.fixed.specs.Split.{Between, Within}
use Rattle.fixed.proofs.Range.{Kept, x_kept, y_kept, within_kept, past_kept, ahead_kept}
use Rattle.pen.specs.declared.Frame.{Frame}
use Rattle.line.specs.Range.{Reach}
use Rattle.line.specs.Lines.{past, ahead}
use Rattle.line.proofs.Points.{reach_kept}
use Rattle.cubic.specs.Cubics.{Cubic, curved, start_half, end_half, cubic, cubic_from, cubic_points, all_past, all_ahead}
use Rattle.cubic.specs.Depth.{Four, Each, none, more, Ends, last, later, end_of}

-- ---- what means keep
data Fours (P : FixedPoint → Type 0) : List Cubic → Type 0 where
  no_four : Fours P []
  four : {k : Cubic} {ks : List Cubic} → Four P k → Fours P ks → Fours P (k ∷ ks)

module _ {P : FixedPoint → Type 0} where
  either : (s r : Bool) (x y z : List FixedPoint) → Each P x → Each P y → Each P z → Each P (elim s [ true ↦ elim r [ true ↦ x | false ↦ y ] | false ↦ z ])
  either true true x y z f g h = f
  either true false x y z f g h = g
  either false r x y z f g h = h

  module _ (m : Kept P) where
    pub start_keeps : {k : Cubic} → Four P k → Four P (start_half k)
    start_keeps h =
        record {
          end = m.four h.end h.near_end h.near_start h.start;
          near_end = m.three h.near_end h.near_start h.start;
          near_start = m.two h.near_start h.start;
          start = h.start;
        }

    pub end_keeps : {k : Cubic} → Four P k → Four P (end_half k)
    end_keeps h =
        record {
          end = h.end;
          near_end = m.two h.end h.near_end;
          near_start = m.three h.end h.near_end h.near_start;
          start = m.four h.end h.near_end h.near_start h.start;
        }

    from_keeps : (n : ℕ) (to : FixedPoint) (k : Cubic) (ks : List Cubic) → P to → Four P k → Fours P ks → Each P (cubic_from n to k ks)
    unfolding cubic_from
    from_keeps zero to k ks t h hs = more t none
    from_keeps (suc n) to k [] t h hs =
        either (curved k) true _ (to ∷ []) _ (from_keeps n to (start_half k) (end_half k ∷ []) t (start_keeps h) (four (end_keeps h) hs)) (more t none) (more h.end none)
    from_keeps (suc n) to k (w ∷ ws) t h (four g gs) =
        either (curved k) (leb (length (w ∷ ws)) 40) _ _ _
        (from_keeps n to (start_half k) (end_half k ∷ w ∷ ws) t (start_keeps h) (four (end_keeps h) (four g gs))) (more t none)
        (more h.end (from_keeps n to w ws t g gs))

    pub points_keep : (a c d b : FixedPoint) → Four P (cubic a c d b) → Each P (cubic_points a c d b)
    unfolding cubic_points
    points_keep a c d b h = from_keeps 1024 b (cubic a c d b) [] h.end h no_four

-- ---- each point is in the box of the four
module _ (lo hi : ℕ) (a c d b : FixedPoint) where
  pub x_in_box : Four (λ p. Between lo hi p.x) (cubic a c d b) → Each (λ p. Between lo hi p.x) (cubic_points a c d b)
  x_in_box h = points_keep (x_kept lo hi) a c d b h

  pub y_in_box : Four (λ p. Between lo hi p.y) (cubic a c d b) → Each (λ p. Between lo hi p.y) (cubic_points a c d b)
  y_in_box h = points_keep (y_kept lo hi) a c d b h

  pub within_box : Four (Within lo hi) (cubic a c d b) → Each (Within lo hi) (cubic_points a c d b)
  within_box h = points_keep (within_kept lo hi) a c d b h

pub in_reach : (a c d b : FixedPoint) → Four Reach (cubic a c d b) → Each Reach (cubic_points a c d b)
in_reach a c d b h = points_keep reach_kept a c d b h

-- ---- each point is past a band edge where the four are
four_of : (t : FixedPoint → Bool) (a c d b : FixedPoint) → (t a && t c && t d && t b) ≡ true → Four (λ p. t p ≡ true) (cubic a c d b)
four_of t a c d b e = go (t a) (t c) (t d) (t b) refl refl refl refl e
  where
    go : (x y z w : Bool) → t a ≡ x → t c ≡ y → t d ≡ z → t b ≡ w → (x && y && z && w) ≡ true → Four (λ p. t p ≡ true) (cubic a c d b)
    go true true true true p q r s h = record { end = s; near_end = r; near_start = q; start = p }
    go true true true false p q r s h = absurd (false≢true h)
    go true true false w p q r s h = absurd (false≢true h)
    go true false z w p q r s h = absurd (false≢true h)
    go false y z w p q r s h = absurd (false≢true h)

module _ {P Q : FixedPoint → Type 0} (m : (p : FixedPoint) → P p → Q p) where
  four_map : {k : Cubic} → Four P k → Four Q k
  four_map h = record { end = m _ h.end; near_end = m _ h.near_end; near_start = m _ h.near_start; start = m _ h.start }

  pub each_map : {ps : List FixedPoint} → Each P ps → Each Q ps
  each_map none = none
  each_map (more h hs) = more (m _ h) (each_map hs)

module _ (f : Frame) (a c d b : FixedPoint) where
  pub each_past : all_past f a c d b ≡ true → Each (λ p. past f p.y ≡ true) (cubic_points a c d b)
  each_past e =
      each_map (λ p h. le-leb f.end (cell p.y) h)
      (points_keep (past_kept f.end) a c d b (four_map (λ p h. leb-true f.end (cell p.y) h) (four_of (λ p. past f p.y) a c d b e)))

  pub each_ahead : all_ahead f a c d b ≡ true → Each (λ p. ahead f p.y ≡ true) (cubic_points a c d b)
  each_ahead e =
      each_map (λ p h. lt-ltb (cell p.y) f.first h)
      (points_keep (ahead_kept f.first) a c d b (four_map (λ p h. ltb-true (cell p.y) f.first h) (four_of (λ p. ahead f p.y) a c d b e)))

-- ---- the last point
-- the end of the lowest cubic
unfoldable bottom : Cubic → List Cubic → FixedPoint
bottom k [] = k.p0
bottom k (w ∷ ws) = bottom w ws

either_ends : {b : FixedPoint} (s r : Bool) (x y z : List FixedPoint) → Ends b x → Ends b y → Ends b z → Ends b (elim s [ true ↦ elim r [ true ↦ x | false ↦ y ] | false ↦ z ])
either_ends true true x y z f g h = f
either_ends true false x y z f g h = g
either_ends false r x y z f g h = h

only : {p b : FixedPoint} → p ≡ b → Ends b (p ∷ [])
only e = rw e last

from_ends : (n : ℕ) (to : FixedPoint) (k : Cubic) (ks : List Cubic) → bottom k ks ≡ to → Ends to (cubic_from n to k ks)
unfolding cubic_from bottom
from_ends zero to k ks e = last
from_ends (suc n) to k [] e = either_ends (curved k) true _ (to ∷ []) _ (from_ends n to (start_half k) (end_half k ∷ []) e) last (only e)
from_ends (suc n) to k (w ∷ ws) e =
    either_ends (curved k) (leb (length (w ∷ ws)) 40) _ _ _ (from_ends n to (start_half k) (end_half k ∷ w ∷ ws) e) last (later (from_ends n to w ws e))

module _ (a c d b : FixedPoint) where
  pub points_end : Ends b (cubic_points a c d b)
  unfolding cubic_points bottom
  points_end = from_ends 1024 b (cubic a c d b) [] refl

pub end_is : {b : FixedPoint} {ps : List FixedPoint} → Ends b ps → (a : FixedPoint) → end_of a ps ≡ b
unfolding end_of
end_is last a = refl
end_is (later {p} e) a = end_is e p

pub end_some : {b : FixedPoint} {ps : List FixedPoint} → Ends b ps → 1 ≤ length ps
end_some last = omega arith
end_some (later e) = omega arith

-- lines along the points end at b, and there is at least one
module _ (a c d b : FixedPoint) where
  pub last_point : end_of a (cubic_points a c d b) ≡ b
  last_point = end_is (points_end a c d b) a

  pub some_point : 1 ≤ length (cubic_points a c d b)
  some_point = end_some (points_end a c d b)
