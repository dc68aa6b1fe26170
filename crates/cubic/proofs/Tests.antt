-- The marks of a cubic that is past one band edge, and of any other.
use mathlib.Core.Path.{◌≡◌, sym, ◌∙◌}
use mathlib.Core.Bool.{true, false, and-true}
use mathlib.Core.List.{[], ◌∷◌}
use Rattle.std.proofs.Math.Bool.{and_assoc}
use Rattle.std.specs.List.{list_all}
use Rattle.fixed.specs.declared.FixedPoint.{FixedPoint}
use Rattle.pen.specs.declared.Frame.{Frame}
use Rattle.line.specs.Lines.{past, ahead, along}
use Rattle.cubic.specs.Cubics.{cubic_points, all_past, all_ahead, cubic_marks}

module _ (f : Frame) (a c d b : FixedPoint) where
  -- the tests of the four points
  is_past : list_all (λ p. past f p.y) (a ∷ c ∷ d ∷ b ∷ []) ≡ all_past f a c d b
  is_past = simp (and-true, and_assoc)

  is_ahead : list_all (λ p. ahead f p.y) (a ∷ c ∷ d ∷ b ∷ []) ≡ all_ahead f a c d b
  is_ahead = simp (and-true, and_assoc)

  pub past_none : list_all (λ p. past f p.y) (a ∷ c ∷ d ∷ b ∷ []) ≡ true → cubic_marks f a c d b ≡ []
  unfolding cubic_marks
  past_none h = rw (sym is_past ∙ h)

  module _ (h : list_all (λ p. past f p.y) (a ∷ c ∷ d ∷ b ∷ []) ≡ false) where
    pub all_ahead_is : list_all (λ p. ahead f p.y) (a ∷ c ∷ d ∷ b ∷ []) ≡ true → cubic_marks f a c d b ≡ []
    unfolding cubic_marks
    all_ahead_is k = rw (sym is_past ∙ h, sym is_ahead ∙ k)

    pub not_all : list_all (λ p. ahead f p.y) (a ∷ c ∷ d ∷ b ∷ []) ≡ false → cubic_marks f a c d b ≡ along f a (cubic_points a c d b)
    unfolding cubic_marks
    not_all k = rw (sym is_past ∙ h, sym is_ahead ∙ k)
