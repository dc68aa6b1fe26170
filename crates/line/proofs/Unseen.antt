-- What a band sees of marks that enter none of its cells: nothing. So the rule that skips a line is an economy.
use Prim.Native.Nat.{ℕ}
use mathlib.Core.Path.{◌≡◌, refl, ◌∙◌}
use mathlib.Core.Bool.{Bool, true, false, not, ◌&&◌, and-false}
use mathlib.Core.List.{List, []}
use mathlib.Core.Logic.{inl, inr}
use lib.Dec.{eqb, leb, ltb}
use borrow.Author.Tests.{le-ltb, lt-leb}
use Rattle.fixed.specs.declared.FixedPoint.{FixedPoint}
use Rattle.fixed.specs.Fixed.{cell}
use Rattle.pen.specs.declared.Frame.{Frame}
use Rattle.pen.specs.Marks.{Mark, Stand, nowhere, at, gave, after, pair_of, when, leaving, left, inside, seen}
use Rattle.pen.specs.Laws.{seen_append}
use Rattle.line.specs.Range.{Reach}
use Rattle.line.specs.Lines.{ends, line_all, skips}
use Rattle.line.specs.Trail.{StandsIn, Enters, none, gives, enters, Outside}
use Rattle.line.proofs.Whole.{line_outside, line_skipped}

module _ (f : Frame) where
  -- the pen is in no cell of the band
  abbrev pub StandsOutside : Stand → Type 0
  StandsOutside nowhere = Unit {0}
  StandsOutside (at c r v a) = Outside f c r

  pub stands_outside : (s : Stand) (c r : ℕ) → StandsIn s c r → Outside f c r → StandsOutside s
  stands_outside (at c' r' v a) c r h o = rw h.1 o
  stands_outside nowhere c r h o = absurd h

  pub gave_outside : (s : Stand) (v a : ℕ) → StandsOutside s → StandsOutside (gave s v a)
  gave_outside (at c r v' a') v a o = o
  gave_outside nowhere v a o = o

  pub not_inside : (c r v a : ℕ) → Outside f c r → inside f (pair_of c r v a) ≡ false
  not_inside c r v a (inl h) = rw (le-ltb r f.end h) (and-false (ltb c f.wide && leb f.first r))
  not_inside c r v a (inr h) = rw (lt-leb f.first r h, and-false (ltb c f.wide))

  pub leaving_unseen : (s : Stand) → StandsOutside s → seen f (leaving s) ≡ []
  unfolding seen
  leaving_unseen nowhere o = refl
  leaving_unseen (at c r v a) o = go (not (eqb v 0 && eqb a 0))
    where
      go : (t : Bool) → seen f (when t (pair_of c r v a) []) ≡ []
      go true = rw (not_inside c r v a o)
      go false = refl

  -- nothing of such marks is seen, and the pen stays outside
  pub unseen_left : {ms : List Mark} → Enters (Outside f) ms → (s : Stand) → StandsOutside s → seen f (left s ms) ≡ []
  unfolding left seen
  unseen_left none s o = refl
  unseen_left (gives {v} {a} e) s o = unseen_left e (gave s v a) (gave_outside s v a o)
  unseen_left (enters {c} {r} h e) s o = seen_append f (leaving s) _ ∙ rw (leaving_unseen s o) (unseen_left e (at c r 0 0) h)

  pub unseen_after : {ms : List Mark} → Enters (Outside f) ms → (s : Stand) → StandsOutside s → StandsOutside (after s ms)
  unfolding after
  unseen_after none s o = o
  unseen_after (gives {v} {a} e) s o = unseen_after e (gave s v a) (gave_outside s v a o)
  unseen_after (enters {c} {r} h e) s o = unseen_after e (at c r 0 0) h

  -- a skipped line, drawn by a pen in its start cell, would leave the band nothing
  pub line_unseen : (a b : FixedPoint) → Reach a → Reach b → skips f (ends a b) ≡ true → (s : Stand) → StandsIn s (cell a.x) (cell a.y) → seen f (left s (line_all a b)) ≡ []
  line_unseen a b ra rb e s h = unseen_left (line_skipped a b ra rb f e) s (stands_outside s (cell a.x) (cell a.y) h (line_outside a b ra rb f e))
