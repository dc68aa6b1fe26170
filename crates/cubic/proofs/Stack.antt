-- The stack as an array: the cubics that stand in it, the top one first. A split at the top writes six points above the top's end, so that its
-- halves stand at the top, the start's above the end's, and those below are as they were.
use Prim.Native.Nat.{ℕ, zero, suc, ◌+◌, ◌-◌, ◌*◌, ◌/◌, ◌≤◌, ◌<◌}
use mathlib.Core.Path.{◌≡◌, refl, sym, ap, ◌∙◌, subst}
use mathlib.Core.Bool.{Bool, true, false}
use mathlib.Core.List.{List, [], ◌∷◌}
use native.Mathlib.Omega.{arith}
use native.Mathlib.Nat.{add-zero, le_of_suc-le-suc}
use lib.ListN.{length, set, length-set}
use lib.Dec.{leb}
use borrow.Author.Tests.{leb-true, leb-false}
use Rattle.fixed.specs.declared.FixedPoint.{FixedPoint}
use Rattle.fixed.specs.Split.{point_of, split_cubic, Every}
use Rattle.fixed.proofs.Stored.{puts, puts_low, puts_at}
use Rattle.cubic.specs.Cubics.{Cubic, start_half, end_half}

abbrev pub cubic_at : List FixedPoint → ℕ → Cubic
cubic_at l i = record { p0 = point_of l i; p1 = point_of l (i + 1); p2 = point_of l (i + 2); p3 = point_of l (i + 3) }

-- the k lowest
unfoldable pub cubics : List FixedPoint → ℕ → List Cubic
cubics l zero = []
cubics l (suc k) = cubic_at l (3 * k) ∷ cubics l k

-- with its top at a
abbrev pub stack : List FixedPoint → ℕ → List Cubic
stack l a = cubics l (suc (a / 3))

pub stack_top : (l : List FixedPoint) (a : ℕ) → 3 * (a / 3) ≡ a → stack l a ≡ cubic_at l a ∷ cubics l (a / 3)
unfolding cubics
stack_top l a m = ap (λ i. cubic_at l i ∷ cubics l (a / 3)) m

pub cubics_length : (l : List FixedPoint) (k : ℕ) → length (cubics l k) ≡ k
unfolding cubics
cubics_length l zero = refl
cubics_length l (suc k) = ap suc (cubics_length l k)

-- they depend on no point above them
cubics_same : (l m : List FixedPoint) (k : ℕ) → ((i : ℕ) → i ≤ 3 * k → point_of l i ≡ point_of m i) → cubics l k ≡ cubics m k
unfolding cubics
cubics_same l m zero h = refl
cubics_same l m (suc k) h =
    let r = cubics_same l m k (λ i p. h i (omega arith)) in
    rw (h (3 * k) (omega arith), h (3 * k + 1) (omega arith), h (3 * k + 2) (omega arith), h (3 * k + 3) (omega arith), r)

-- ---- a split at a, in the form that the code's stores have: six points are new, and the one at a stays
abbrev six : List FixedPoint → List FixedPoint
six s = point_of s 1 ∷ point_of s 2 ∷ point_of s 3 ∷ point_of s 4 ∷ point_of s 5 ∷ point_of s 6 ∷ []

abbrev pub put6 : List FixedPoint → ℕ → List FixedPoint → List FixedPoint
put6 l a s =
    set (set (set (set (set (set l (a + 1) (point_of s 1)) (a + 2) (point_of s 2)) (a + 3) (point_of s 3)) (a + 4) (point_of s 4)) (a + 5) (point_of s 5)) (a + 6) (point_of s 6)

put6_is : (l : List FixedPoint) (a : ℕ) (s : List FixedPoint) → put6 l a s ≡ puts l (a + 1) (six s)
put6_is l a s =
    let e2 : a + 1 + 1 ≡ a + 2 = omega arith in
    let e3 : a + 2 + 1 ≡ a + 3 = omega arith in
    let e4 : a + 3 + 1 ≡ a + 4 = omega arith in
    let e5 : a + 4 + 1 ≡ a + 5 = omega arith in
    let e6 : a + 5 + 1 ≡ a + 6 = omega arith in
    rw (e2, e3, e4, e5, e6)

pub put6_length : (l : List FixedPoint) (a : ℕ) (s : List FixedPoint) → length (put6 l a s) ≡ length l
put6_length l a s = simp length-set

-- the four points that a split is given
abbrev pub segment : List FixedPoint → ℕ → List FixedPoint
segment l a = point_of l a ∷ point_of l (a + 1) ∷ point_of l (a + 2) ∷ point_of l (a + 3) ∷ []

six_is : (s : List FixedPoint) (i : ℕ) → i < 6 → point_of (six s) i ≡ point_of s (suc i)
six_is s zero h = refl
six_is s (suc zero) h = refl
six_is s (suc (suc zero)) h = refl
six_is s (suc (suc (suc zero))) h = refl
six_is s (suc (suc (suc (suc zero)))) h = refl
six_is s (suc (suc (suc (suc (suc zero))))) h = refl
six_is s (suc (suc (suc (suc (suc (suc i)))))) h = absurd (omega arith)

first_of : (l : List FixedPoint) (a : ℕ) → point_of l a ≡ point_of (split_cubic (segment l a)) 0
unfolding split_cubic
first_of l a = refl

module _ (l : List FixedPoint) (a : ℕ) (s : List FixedPoint) (h : a + 6 < length l) where
  put6_at : (i : ℕ) → i < 6 → point_of (put6 l a s) (a + 1 + i) ≡ point_of (six s) i
  put6_at i g = rw (put6_is l a s) (puts_at l (a + 1) (six s) i (omega arith) g)

  put6_low : (i : ℕ) → i ≤ a → point_of (put6 l a s) i ≡ point_of l i
  put6_low i g = rw (put6_is l a s) (puts_low l (a + 1) (six s) i (omega arith))

  module _ (e : s ≡ split_cubic (segment l a)) where
    -- the split's points stand from a on
    split_at : (i : ℕ) → i < 7 → point_of (put6 l a s) (a + i) ≡ point_of (split_cubic (segment l a)) i
    split_at zero g = rw add-zero (put6_low a (omega arith) ∙ first_of l a)
    split_at (suc i) g =
        let u : a + suc i ≡ a + 1 + i = omega arith in
        rw u (put6_at i (le_of_suc-le-suc g) ∙ six_is s i (le_of_suc-le-suc g) ∙ ap (λ t. point_of t (suc i)) e)

    -- the halves stand at the top
    pub pushed : 3 * (a / 3) ≡ a → stack (put6 l a s) (a + 3) ≡ start_half (cubic_at l a) ∷ end_half (cubic_at l a) ∷ cubics l (a / 3)
    unfolding split_cubic
    pushed m =
        let n = put6 l a s in
        let d : (a + 3) / 3 ≡ suc (a / 3) = omega arith in
        let u : 3 * ((a + 3) / 3) ≡ a + 3 = omega arith in
        let q0 : point_of n a ≡ point_of l a = put6_low a (omega arith) in
        let q4 : point_of n (a + 3 + 1) ≡ point_of (split_cubic (segment l a)) 4 = ap (point_of n) (omega arith) ∙ split_at 4 (omega arith) in
        let q5 : point_of n (a + 3 + 2) ≡ point_of (split_cubic (segment l a)) 5 = ap (point_of n) (omega arith) ∙ split_at 5 (omega arith) in
        let q6 : point_of n (a + 3 + 3) ≡ point_of (split_cubic (segment l a)) 6 = ap (point_of n) (omega arith) ∙ split_at 6 (omega arith) in
        stack_top n (a + 3) u
        ∙ rw (d, stack_top n a m, q4, q5, q6, split_at 3 (omega arith), split_at 2 (omega arith), split_at 1 (omega arith), q0, cubics_same n l (a / 3) (λ i p. put6_low i (omega arith)))

    -- what holds of the points below the top, and of a split's seven, holds of the points below the new top
    pub pushed_every : {P : FixedPoint → Type 0} → Every P (a + 4) l → Every P 7 (split_cubic (segment l a)) → Every P (a + 7) (put6 l a s)
    pushed_every {P} f g = record { at = λ i p. go i p (leb i a) refl }
      where
        go : (i : ℕ) → i < a + 7 → (b : Bool) → leb i a ≡ b → P (point_of (put6 l a s) i)
        go i p true t = rw (put6_low i (leb-true i a t)) (f.at i (omega (arith, leb-true i a t)))
        go i p false t =
            let o = leb-false i a t in
            let u : i ≡ a + (i - a) = omega arith in
            subst (λ j. P (point_of (put6 l a s) j)) (sym u) (rw (split_at (i - a) (omega arith)) (g.at (i - a) (omega arith)))
