-- How marks compose.
use Rattle.std.specs.Prelude.{◌≡◌, Bool, true, false, List, [], ◌∷◌, ◌++◌, refl}
use Rattle.std.proofs.Common.{ap, ◌∙◌, append_assoc}
use Rattle.pen.specs.declared.Frame.{Frame}
use Rattle.pen.specs.Marks.{Mark, enter, give, Stand, at, gave, after, Pair, when, left, whole, inside, placed, seen}

pub after_append : (s : Stand) (xs ys : List Mark) → after s (xs ++ ys) ≡ after (after s xs) ys
unfolding after
after_append s [] ys = refl
after_append s (enter c r ∷ ms) ys = after_append (at c r 0 0) ms ys
after_append s (give v a ∷ ms) ys = after_append (gave s v a) ms ys

pub left_append : (s : Stand) (xs ys : List Mark) → left s (xs ++ ys) ≡ left s xs ++ left (after s xs) ys
unfolding left after
left_append s [] ys = refl
left_append s (enter c r ∷ ms) ys = rw (left_append (at c r 0 0) ms ys, append_assoc)
left_append s (give v a ∷ ms) ys = left_append (gave s v a) ms ys

pub whole_append : (s : Stand) (xs ys : List Mark) → whole s (xs ++ ys) ≡ left s xs ++ whole (after s xs) ys
whole_append s xs ys = rw (left_append s xs ys, after_append s xs ys, append_assoc)

when_append {ℓ} : {A : Type ℓ} (b : Bool) (d : A) (ds es : List A) → when b d (ds ++ es) ≡ when b d ds ++ es
when_append true d ds es = refl
when_append false d ds es = refl

pub seen_append : (f : Frame) (ds es : List Pair) → seen f (ds ++ es) ≡ seen f ds ++ seen f es
unfolding seen
seen_append f [] es = refl
seen_append f (d ∷ ds) es = ap (when (inside f d) (placed f d)) (seen_append f ds es) ∙ when_append (inside f d) (placed f d) (seen f ds) (seen f es)
