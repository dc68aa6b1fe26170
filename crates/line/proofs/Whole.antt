-- What is true of every line within reach, whatever the band: the pen ends in the end cell, every cell that it enters is in the box of
-- the two end cells, a line that is not level enters |Δcolumn| + |Δrow| cells, and each crossing lies from 0 to 255
-- along its side.
use Prim.Native.Nat.{ℕ, zero, suc, ◌≤◌}
use mathlib.Core.Path.{◌≡◌, refl, ◌∙◌}
use mathlib.Core.Bool.{Bool, true, false, cond}
use mathlib.Core.List.{List, [], ◌∷◌}
use mathlib.Core.Logic.{◌⊎◌, inl, inr, ⊎_elim}
use native.Mathlib.Omega.{arith}
use lib.Dec.{eqb}
use lib.ListN.{replicate}
use borrow.Author.Tests.{eqb-true, eqb-false}
use Rattle.fixed.specs.declared.FixedPoint.{FixedPoint}
use Rattle.fixed.specs.Fixed.{cell, fraction}
use Rattle.pen.specs.declared.Frame.{Frame}
use Rattle.pen.specs.Marks.{Mark, enter, Stand, after}
use Rattle.line.specs.declared.Ends.{Ends}
use Rattle.line.specs.Range.{Reach}
use Rattle.line.specs.Walk.{start, p}
use Rattle.line.specs.Lines.{ends, sides, marks_of, line_all, skips, line_marks}
use Rattle.line.specs.Course.{Bounded}
use Rattle.line.specs.Trail.{StandsIn, Enters, none, gives, enters, moves, Boxed, Outside}
use Rattle.line.specs.Trail.{cuts, crossings, UpTo, ended, also}
use Rattle.line.proofs.Cases.{skips_which, marks_skipped, marks_kept, line_is, marks_within, marks_level, marks_vertical, marks_slanted, reach_bounded}
use Rattle.line.proofs.Trail.{Trail, there, trail_ends, trail_enters, trail_boxed, trail_moves}
use Rattle.line.proofs.Reached.{slanted_trail, slanted_cuts, vertical_trail}

-- the two end cells are not the same
abbrev pub Leaves : Ends → Type 0
Leaves l = cell l.x1 ≡ cell l.x2 → cell l.y1 ≡ cell l.y2 → ⊥

equal : (m n : ℕ) → (m ≡ n) ⊎ (m ≡ n → ⊥)
equal m n = go (eqb m n) refl
  where
    go : (t : Bool) → eqb m n ≡ t → (m ≡ n) ⊎ (m ≡ n → ⊥)
    go true e = inl (eqb-true m n e)
    go false e = inr (eqb-false m n e)

-- a line only changes cell, or it has a trail
data Shape (l : Ends) (ms : List Mark) : Type 0 where
  level : l.y1 ≡ l.y2 → Leaves l → ms ≡ enter (cell l.x2) (cell l.y2) ∷ [] → Shape l ms
  trail : Trail l (sides l) (cell l.x1) (cell l.y1) ms → Shape l ms

no_sides : (l : Ends) → cell l.x1 ≡ cell l.x2 → cell l.y1 ≡ cell l.y2 → sides l ≡ 0
no_sides l e f = omega arith

some_sides : (l : Ends) → Leaves l → sides l ≡ 0 → ⊥
some_sides l n e = n (omega arith) (omega arith)

shape : (l : Ends) → Bounded l → Shape l (marks_of l)
shape l b = ⊎_elim
    (λ x. ⊎_elim
    (λ y. trail (rw (marks_within l x y, no_sides l x y) (there x y)))
    (λ y. leaves (λ _. y))
    (equal (cell l.y1) (cell l.y2)))
    (λ x. leaves (λ e _. x e))
    (equal (cell l.x1) (cell l.x2))
  where
    leaves : Leaves l → Shape l (marks_of l)
    leaves o = ⊎_elim
        (λ y. level y o (marks_level l o y))
        (λ y. ⊎_elim
        (λ x. trail (rw (marks_vertical l o y x) (vertical_trail l x)))
        (λ x. trail (rw (marks_slanted l o y x) (slanted_trail l b (record { wide = x; high = y }))))
        (equal l.x1 l.x2))
        (equal l.y1 l.y2)

ends_in : (l : Ends) {ms : List Mark} → Shape l ms → (s : Stand) → StandsIn s (cell l.x1) (cell l.y1) → StandsIn (after s ms) (cell l.x2) (cell l.y2)
unfolding after
ends_in l (level y o e) s h = rw e (refl, refl)
ends_in l (trail t) s h = trail_ends t s h

enters_end : (l : Ends) {ms : List Mark} → Shape l ms → Leaves l → (s : Stand) → StandsIn (after s ms) (cell l.x2) (cell l.y2)
unfolding after
enters_end l (level y o e) n s = rw e (refl, refl)
enters_end l {ms} (trail t) n s = go (sides l) (some_sides l n) t
  where
    go : (m : ℕ) → (m ≡ 0 → ⊥) → Trail l m (cell l.x1) (cell l.y1) ms → StandsIn (after s ms) (cell l.x2) (cell l.y2)
    go zero z t = absurd (z refl)
    go (suc m) z t = trail_enters t s

in_box : (l : Ends) {ms : List Mark} → Shape l ms → Enters (Boxed l) ms
in_box l (level y o e) = rw e (enters {c = cell l.x2} {r = cell l.y2} (record { west = omega arith; east = omega arith; first = omega arith; last = omega arith }) none)
in_box l (trail t) = trail_boxed t

moves_are : (l : Ends) {ms : List Mark} → Shape l ms → (l.y1 ≡ l.y2 → ⊥) → moves ms ≡ sides l
moves_are l (level y o e) n = absurd (n y)
moves_are l (trail t) n = trail_moves t

pub enters_map : {P Q : ℕ → ℕ → Type 0} → ((c r : ℕ) → P c r → Q c r) → {ms : List Mark} → Enters P ms → Enters Q ms
enters_map f none = none
enters_map f (gives e) = gives (enters_map f e)
enters_map f (enters {c} {r} h e) = enters (f c r h) (enters_map f e)

all_alike : (m n k : ℕ) → k ≤ m → UpTo m (replicate n k)
all_alike m zero k h = ended
all_alike m (suc n) k h = also h (all_alike m n k h)

at_most : (l : Ends) → Bounded l → UpTo 255 (crossings l)
unfolding crossings
at_most l b = go (eqb l.y1 l.y2) (eqb l.x1 l.x2) refl refl
  where
    go : (s t : Bool) → eqb l.y1 l.y2 ≡ s → eqb l.x1 l.x2 ≡ t
        → UpTo 255 (cond s [] (cond t (replicate (sides l) (fraction l.x1)) (cuts (sides l) l (p l (start l)))))
    go true t e f = ended
    go false true e f = all_alike 255 (sides l) (fraction l.x1) (omega arith)
    go false false e f = slanted_cuts l b (record { wide = eqb-false _ _ f; high = eqb-false _ _ e })

module _ (a b : FixedPoint) (ra : Reach a) (rb : Reach b) where
  of_line : Shape (ends a b) (line_all a b)
  of_line = shape (ends a b) (reach_bounded ra rb)

  -- a pen that was in the start cell is in the end cell
  pub line_ends : (s : Stand) → StandsIn s (cell a.x) (cell a.y) → StandsIn (after s (line_all a b)) (cell b.x) (cell b.y)
  line_ends = ends_in (ends a b) of_line

  -- and so is any pen, where the two cells are not the same
  pub line_enters : Leaves (ends a b) → (s : Stand) → StandsIn (after s (line_all a b)) (cell b.x) (cell b.y)
  line_enters = enters_end (ends a b) of_line

  -- every cell that is entered is in the box of the two
  pub line_boxed : Enters (Boxed (ends a b)) (line_all a b)
  line_boxed = in_box (ends a b) of_line

  -- a line that is not level takes |Δcolumn| + |Δrow| moves
  pub line_moves : (a.y ≡ b.y → ⊥) → moves (line_all a b) ≡ sides (ends a b)
  line_moves = moves_are (ends a b) of_line

  -- each crossing lies from 0 to 255 along its side
  pub line_crossings : UpTo 255 (crossings (ends a b))
  line_crossings = at_most (ends a b) (reach_bounded ra rb)

  -- a skipped line has no marks, and any other all of them
  pub line_none : (f : Frame) → skips f (ends a b) ≡ true → line_marks f a b ≡ []
  line_none f e = line_is f a b ∙ marks_skipped f (ends a b) e

  pub line_whole : (f : Frame) → skips f (ends a b) ≡ false → line_marks f a b ≡ line_all a b
  line_whole f e = line_is f a b ∙ marks_kept f (ends a b) e

  -- it begins outside the band, and would enter no cell of it
  pub line_outside : (f : Frame) → skips f (ends a b) ≡ true → Outside f (cell a.x) (cell a.y)
  line_outside f e = ⊎_elim (λ h. inl h.0) (λ h. inr h.0) (skips_which f (ends a b) e)

  pub line_skipped : (f : Frame) → skips f (ends a b) ≡ true → Enters (Outside f) (line_all a b)
  line_skipped f e = ⊎_elim
      (λ h. enters_map (λ c r k. inl (let g = k.first in omega arith)) line_boxed)
      (λ h. enters_map (λ c r k. inr (let g = k.last in omega arith)) line_boxed)
      (skips_which f (ends a b) e)
