-- The marks of a quad that is past one band edge, and of any other.
use mathlib.Core.Path.{◌≡◌, sym, ◌∙◌}
use mathlib.Core.Bool.{true, false, and-true}
use mathlib.Core.List.{[], ◌∷◌}
use Rattle.std.proofs.Math.Bool.{and_assoc}
use Rattle.std.specs.List.{list_all}
use Rattle.fixed.specs.declared.FixedPoint.{FixedPoint}
use Rattle.pen.specs.declared.Frame.{Frame}
use Rattle.line.specs.Lines.{past, ahead, along}
use Rattle.quad.specs.Quads.{quad_points, all_past, all_ahead, quad_marks}

module _ (f : Frame) (a c b : FixedPoint) where
  -- the tests of the three points
  is_past : list_all (λ p. past f p.y) (a ∷ c ∷ b ∷ []) ≡ all_past f a c b
  is_past = simp (and-true, and_assoc)

  is_ahead : list_all (λ p. ahead f p.y) (a ∷ c ∷ b ∷ []) ≡ all_ahead f a c b
  is_ahead = simp (and-true, and_assoc)

  pub past_marks : list_all (λ p. past f p.y) (a ∷ c ∷ b ∷ []) ≡ true → quad_marks f a c b ≡ []
  unfolding quad_marks
  past_marks p = rw (sym is_past ∙ p)

  pub ahead_marks : list_all (λ p. past f p.y) (a ∷ c ∷ b ∷ []) ≡ false → list_all (λ p. ahead f p.y) (a ∷ c ∷ b ∷ []) ≡ true → quad_marks f a c b ≡ []
  unfolding quad_marks
  ahead_marks p q = rw (sym is_past ∙ p, sym is_ahead ∙ q)

  pub drawn_marks : list_all (λ p. past f p.y) (a ∷ c ∷ b ∷ []) ≡ false → list_all (λ p. ahead f p.y) (a ∷ c ∷ b ∷ []) ≡ false
      → quad_marks f a c b ≡ along f a (quad_points a c b)
  unfolding quad_marks
  drawn_marks p q = rw (sym is_past ∙ p, sym is_ahead ∙ q)
