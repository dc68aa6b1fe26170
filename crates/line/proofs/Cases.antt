-- The cases of a line: which rule gives its marks.
use Prim.Native.Nat.{◌<◌, ◌≤◌}
use mathlib.Core.Path.{◌≡◌, refl}
use mathlib.Core.Bool.{Bool, true, false, ◌&&◌, ◌||◌, and-true, or-true, false≢true}
use mathlib.Core.Logic.{◌⊎◌, inl, inr}
use lib.Dec.{leb, ltb}
use mathlib.Core.List.{[], ◌∷◌}
use borrow.Author.Tests.{eq-eqb, ne_eqb, leb-true, ltb-true}
use native.Mathlib.Omega.{arith}
use Rattle.std.specs.List.{list_all}
use Rattle.fixed.specs.declared.FixedPoint.{FixedPoint}
use Rattle.fixed.specs.Fixed.{cell}
use Rattle.pen.specs.declared.Frame.{Frame}
use Rattle.pen.specs.Marks.{enter}
use Rattle.line.specs.declared.Ends.{Ends}
use Rattle.line.specs.Walk.{start, last, upright, row_side, p, crossed}
use Rattle.line.specs.Lines.{ends, sides, within, marks_of, past, ahead, skips, marks_in, line_marks}
use Rattle.line.specs.Range.{Reach}
use Rattle.line.specs.Course.{Bounded, rows_to}
use Rattle.line.proofs.Tests.{no_eq, yes_le, yes_lts, yes_eq}

module _ (l : Ends) where
  pub marks_within : cell l.x1 ≡ cell l.x2 → cell l.y1 ≡ cell l.y2 → marks_of l ≡ last l (start l)
  unfolding marks_of
  marks_within e g = rw (yes_eq (cell l.x1) (cell l.x2) (cell l.y1) (cell l.y2) e g)

  module _ (apart : cell l.x1 ≡ cell l.x2 → cell l.y1 ≡ cell l.y2 → ⊥) where
    out : within l ≡ false
    out = no_eq (cell l.x1) (cell l.x2) (cell l.y1) (cell l.y2) apart

    pub marks_level : l.y1 ≡ l.y2 → marks_of l ≡ enter (cell l.x2) (cell l.y2) ∷ []
    unfolding marks_of
    marks_level e = rw (out, eq-eqb l.y1 l.y2 e)

    pub marks_vertical : (l.y1 ≡ l.y2 → ⊥) → l.x1 ≡ l.x2 → marks_of l ≡ upright (sides l) (row_side l) l (start l)
    unfolding marks_of
    marks_vertical n e = rw (out, ne_eqb l.y1 l.y2 n, eq-eqb l.x1 l.x2 e)

    pub marks_slanted : (l.y1 ≡ l.y2 → ⊥) → (l.x1 ≡ l.x2 → ⊥) → marks_of l ≡ crossed (sides l) l (p l (start l)) (start l)
    unfolding marks_of
    marks_slanted n m = rw (out, ne_eqb l.y1 l.y2 n, ne_eqb l.x1 l.x2 m)

-- a vertical line crosses rows only
pub sides_vertical : (l : Ends) → l.x1 ≡ l.x2 → rows_to l (cell l.y1) ≡ sides l
sides_vertical l e = rw e (omega arith)

-- ---- the band
module _ (f : Frame) (l : Ends) where
  pub skips_past : f.end ≤ cell l.y1 → f.end ≤ cell l.y2 → skips f l ≡ true
  skips_past h g = rw (yes_le f.end (cell l.y1) f.end (cell l.y2) h g)

  pub skips_ahead : cell l.y1 < f.first → cell l.y2 < f.first → skips f l ≡ true
  skips_ahead h g = rw (yes_lts (cell l.y1) f.first (cell l.y2) f.first h g, or-true _)

  -- which edge of the band a skipped line is past
  pub skips_which : skips f l ≡ true → ((f.end ≤ cell l.y1) × (f.end ≤ cell l.y2)) ⊎ ((cell l.y1 < f.first) × (cell l.y2 < f.first))
  skips_which e = go (leb f.end (cell l.y1)) (leb f.end (cell l.y2)) (ltb (cell l.y1) f.first) (ltb (cell l.y2) f.first) refl refl refl refl e
    where
      go : (i j m n : Bool) → leb f.end (cell l.y1) ≡ i → leb f.end (cell l.y2) ≡ j → ltb (cell l.y1) f.first ≡ m → ltb (cell l.y2) f.first ≡ n
          → (i && j || m && n) ≡ true → ((f.end ≤ cell l.y1) × (f.end ≤ cell l.y2)) ⊎ ((cell l.y1 < f.first) × (cell l.y2 < f.first))
      go true true m n p q r s e = inl (leb-true _ _ p, leb-true _ _ q)
      go true false true true p q r s e = inr (ltb-true _ _ r, ltb-true _ _ s)
      go false j true true p q r s e = inr (ltb-true _ _ r, ltb-true _ _ s)
      go true false true false p q r s e = absurd (false≢true e)
      go true false false n p q r s e = absurd (false≢true e)
      go false j true false p q r s e = absurd (false≢true e)
      go false j false n p q r s e = absurd (false≢true e)

  pub marks_skipped : skips f l ≡ true → marks_in f l ≡ []
  unfolding marks_in
  marks_skipped e = rw e

  pub marks_kept : skips f l ≡ false → marks_in f l ≡ marks_of l
  unfolding marks_in
  marks_kept e = rw e

pub line_is : (f : Frame) (a b : FixedPoint) → line_marks f a b ≡ marks_in f (ends a b)
unfolding line_marks
line_is f a b = refl

-- a line is skipped where the tests of its two points say so
pub skips_is : (f : Frame) (a b : FixedPoint)
    → skips f (ends a b) ≡ (list_all (λ p. past f p.y) (a ∷ b ∷ []) || list_all (λ p. ahead f p.y) (a ∷ b ∷ []))
skips_is f a b = simp and-true

pub reach_bounded : {a b : FixedPoint} → Reach a → Reach b → Bounded (ends a b)
reach_bounded {a} {b} r s = record { bx1 = omega arith; by1 = omega arith; bx2 = omega arith; by2 = omega arith }
