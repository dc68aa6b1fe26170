-- The rule that skips is an economy: a band sees the same of a pen that makes all marks and of one that leaves out those in rows outside it.
-- A pen in a row outside the band leaves the band nothing until it enters another cell, so it is as good as a pen in no cell.
use mathlib.Core.Path.{◌≡◌, refl, sym, ap, ◌∙◌}
use mathlib.Core.Bool.{Bool, true, false}
use mathlib.Core.List.{List, [], ◌∷◌, ◌++◌, append_assoc}
use mathlib.Core.Logic.{◌⊎◌, inl, inr}
use Rattle.fixed.specs.declared.FixedPoint.{FixedPoint}
use Rattle.fixed.specs.Fixed.{cell}
use Rattle.pen.specs.declared.Frame.{Frame}
use Rattle.pen.specs.Marks.{Mark, enter, give, Stand, nowhere, at, gave, after, Pair, leaving, left, last_of, whole, seen}
use Rattle.pen.specs.Laws.{after_append, whole_append, seen_append}
use Rattle.line.specs.Range.{Reach}
use Rattle.line.specs.Lines.{ends, line_all, skips, line_marks}
use Rattle.line.specs.Trail.{StandsIn, Enters, Outside}
use Rattle.line.proofs.Whole.{line_ends, line_none, line_whole, line_outside, line_skipped}
use Rattle.line.proofs.Unseen.{StandsOutside, not_inside, gave_outside, leaving_unseen, unseen_left, unseen_after}

-- ---- a pen outside the band
module _ (f : Frame) where
  last_unseen : (s : Stand) → StandsOutside f s → seen f (last_of s) ≡ []
  unfolding seen
  last_unseen nowhere o = refl
  last_unseen (at c r v a) o = rw (not_inside f c r v a o)

  -- a stale cell never shows
  pub stale : (ms : List Mark) (s : Stand) → StandsOutside f s → seen f (whole s ms) ≡ seen f (whole nowhere ms)
  unfolding left after
  stale [] s o = last_unseen s o ∙ sym (last_unseen nowhere tt)
  stale (enter c r ∷ ms) s o = drop (left (at c r 0 0) ms) (last_of (after (at c r 0 0) ms))
    where
      drop : (xs ys : List Pair) → seen f ((leaving s ++ xs) ++ ys) ≡ seen f (xs ++ ys)
      drop xs ys = rw (append_assoc (leaving s) xs ys) (seen_append f (leaving s) (xs ++ ys) ∙ rw (leaving_unseen f s o))
  stale (give v a ∷ ms) s o = stale ms (gave s v a) (gave_outside f s v a o)

  -- marks in rows outside the band can be left out
  pub skipped : {ns : List Mark} → Enters (Outside f) ns → (s : Stand) (ys : List Mark) → StandsOutside f s → seen f (whole s ys) ≡ seen f (whole s (ns ++ ys))
  skipped {ns} e s ys o =
      stale ys s o ∙ sym (stale ys (after s ns) (unseen_after f e s o))
      ∙ sym (rw (whole_append s ns ys) (seen_append f (left s ns) (whole (after s ns) ys) ∙ rw (unseen_left f e s o)))

-- ---- a pen that makes all marks is in the cell of the pen point, or in none yet
abbrev pub Follows : Stand → FixedPoint → Type 0
Follows nowhere a = Unit {0}
Follows (at c r v x) a = (c ≡ cell a.x) × (r ≡ cell a.y)

follows_in : (s : Stand) (a : FixedPoint) → StandsIn s (cell a.x) (cell a.y) → Follows s a
follows_in nowhere a h = tt
follows_in (at c r v x) a h = h

follows_outside : (f : Frame) (s : Stand) (a : FixedPoint) → Outside f (cell a.x) (cell a.y) → Follows s a → StandsOutside f s
follows_outside f nowhere a o h = tt
follows_outside f (at c r v x) a o h = rw h.1 o

-- from no cell the marks enter none, or it does not matter where the pen was
from_nowhere : (ms : List Mark) (s : Stand) → (after nowhere ms ≡ nowhere) ⊎ (after s ms ≡ after nowhere ms)
unfolding after
from_nowhere [] s = inl refl
from_nowhere (enter c r ∷ ms) s = inr refl
from_nowhere (give v a ∷ ms) s = from_nowhere ms (gave s v a)

line_follows : (a b : FixedPoint) → Reach a → Reach b → (s : Stand) → Follows s a → Follows (after s (line_all a b)) b
line_follows a b ra rb (at c r v x) h = follows_in (after (at c r v x) (line_all a b)) b (line_ends a b ra rb (at c r v x) h)
line_follows a b ra rb nowhere h = go (from_nowhere (line_all a b) there)
  where
    there : Stand
    there = at (cell a.x) (cell a.y) 0 0

    go : (after nowhere (line_all a b) ≡ nowhere) ⊎ (after there (line_all a b) ≡ after nowhere (line_all a b)) → Follows (after nowhere (line_all a b)) b
    go (inl e) = rw e tt
    go (inr e) = rw e at (follows_in (after there (line_all a b)) b (line_ends a b ra rb there (refl, refl)))

-- ---- the marks ms save what the band does not see of the marks ns, which go from a to b
pub record Economy (f : Frame) (a b : FixedPoint) (ms ns : List Mark) : Type 0 where
  pub goes : (s : Stand) → Follows s a → Follows (after s ns) b
  pub same : (s : Stand) (ys : List Mark) → Follows s a → seen f (whole s (ms ++ ys)) ≡ seen f (whole s (ns ++ ys))

module _ (f : Frame) where
  pub behind : (s : Stand) (ns xs ys : List Mark) → seen f (whole (after s ns) xs) ≡ seen f (whole (after s ns) ys) → seen f (whole s (ns ++ xs)) ≡ seen f (whole s (ns ++ ys))
  behind s ns xs ys e =
      rw (whole_append s ns xs, whole_append s ns ys)
      (seen_append f (left s ns) (whole (after s ns) xs) ∙ ap (λ z. seen f (left s ns) ++ z) e ∙ sym (seen_append f (left s ns) (whole (after s ns) ys)))

  pub economy_all : {a b : FixedPoint} {ns : List Mark} → ((s : Stand) → Follows s a → Follows (after s ns) b) → Economy f a b ns ns
  economy_all g = record { goes = g; same = λ s ys h. refl }

  pub economy_join : {a b c : FixedPoint} {ms ns ms' ns' : List Mark} → Economy f a b ms ns → Economy f b c ms' ns' → Economy f a c (ms ++ ms') (ns ++ ns')
  economy_join {ms = ms} {ns} {ms'} {ns'} e g =
      record {
        goes = λ s h. rw (after_append s ns ns') (g.goes (after s ns) (e.goes s h));
        same = λ s ys h. rw (append_assoc ms ms' ys, append_assoc ns ns' ys)
            (e.same s (ms' ++ ys) h ∙ behind s ns (ms' ++ ys) (ns' ++ ys) (g.same (after s ns) ys (e.goes s h)));
      }

  pub economy_line : (a b : FixedPoint) → Reach a → Reach b → Economy f a b (line_marks f a b) (line_all a b)
  economy_line a b ra rb = go (skips f (ends a b)) refl
    where
      go : (t : Bool) → skips f (ends a b) ≡ t → Economy f a b (line_marks f a b) (line_all a b)
      go true e =
          record {
            goes = line_follows a b ra rb;
            same = λ s ys h. rw (line_none a b ra rb f e) (skipped f (line_skipped a b ra rb f e) s ys (follows_outside f s a (line_outside a b ra rb f e) h));
          }
      go false e = rw (line_whole a b ra rb f e) (economy_all (line_follows a b ra rb))
