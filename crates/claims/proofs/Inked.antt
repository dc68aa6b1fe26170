-- What a drawing stores is the path's ink, seen through its band and its width: stroke by stroke nothing that the band would see is left out.
use mathlib.Core.Path.{◌≡◌, refl, ◌∙◌}
use mathlib.Core.List.{List, [], ◌∷◌, ◌++◌, append-nil}
use Rattle.fixed.specs.declared.FixedPoint.{FixedPoint}
use Rattle.pen.specs.declared.Frame.{Frame}
use Rattle.pen.specs.Marks.{Stand, nowhere, after, seen, deposits, whole}
use Rattle.line.specs.Range.{Reach}
use Rattle.line.specs.Lines.{line_all}
use Rattle.raster.specs.declared.Stroke.{Stroke}
use Rattle.raster.specs.declared.Stroke.TheVariants.{Move, Line, Quad, Cubic, Close}
use Rattle.raster.specs.Path.{corner, stroke_marks, point_after, start_after, marks_from, marks, deposits_of}
use Rattle.raster.specs.Tracing.{ReachAll}
use Rattle.raster.proofs.Told.{marks_end, marks_stroke, reach_point, reach_start}
use Rattle.path.proofs.Points.{corner_near}
use Rattle.claims.specs.Ink.{stroke_all, ink_from, ink, AllReach}
use Rattle.claims.proofs.Economy.{Follows, Economy, behind, economy_all, economy_join, economy_line}
use Rattle.claims.proofs.Curves.{economy_quad, economy_cubic}

module _ (f : Frame) where
  economy_stroke : (a s : FixedPoint) (k : Stroke) → Reach a → Reach s → ReachAll k → Economy f a (point_after s k) (stroke_marks f a s k) (stroke_all a s k)
  unfolding stroke_marks stroke_all after
  economy_stroke a s (Move b) ra rs rk = economy_join f (economy_line f a s ra rs) (economy_all f (λ _ _. (refl, refl)))
  economy_stroke a s (Line b) ra rs rk = economy_line f a b ra rk
  economy_stroke a s (Quad c b) ra rs rk = economy_quad f a c b ra rk.0 rk.1
  economy_stroke a s (Cubic c d b) ra rs rk = economy_cubic f a c d b ra rk.0 rk.1 rk.2
  economy_stroke a s Close ra rs rk = economy_line f a s ra rs

  ink_end : (a s : FixedPoint) → ink_from a s [] ≡ line_all a s
  unfolding ink_from
  ink_end a s = refl

  ink_stroke : (a s : FixedPoint) (k : Stroke) (ks : List Stroke) → ink_from a s (k ∷ ks) ≡ stroke_all a s k ++ ink_from (point_after s k) (start_after s k) ks
  unfolding ink_from
  ink_stroke a s k ks = refl

  ink_from_is : (a s : FixedPoint) (ks : List Stroke) → Reach a → Reach s → AllReach ks → (st : Stand) → Follows st a
      → seen f (whole st (marks_from f a s ks)) ≡ seen f (whole st (ink_from a s ks))
  ink_from_is a s [] ra rs rk st h = rw (marks_end f a s, ink_end a s) (simp append-nil at ((economy_line f a s ra rs).same st [] h))
  ink_from_is a s (k ∷ ks) ra rs rk st h =
      let e = economy_stroke a s k ra rs rk.0 in
      rw (marks_stroke f a s k ks, ink_stroke a s k ks)
      (e.same st (marks_from f (point_after s k) (start_after s k) ks) h
      ∙ behind f st (stroke_all a s k) (marks_from f (point_after s k) (start_after s k) ks) (ink_from (point_after s k) (start_after s k) ks)
      (ink_from_is (point_after s k) (start_after s k) ks (reach_point s k rs rk.0) (reach_start s k rs rk.0) rk.1 (after st (stroke_all a s k)) (e.goes st h)))

  deposits_left : (ks : List Stroke) → deposits_of f ks ≡ seen f (whole nowhere (marks_from f corner corner ks))
  unfolding deposits_of deposits marks
  deposits_left ks = refl

  ink_left : (ks : List Stroke) → ink ks ≡ whole nowhere (ink_from corner corner ks)
  unfolding ink
  ink_left ks = refl

  -- the rows outside the band and the columns from the width on are dropped, and columns below −1 count as −1; no skipping shows
  pub ink_seen : (ks : List Stroke) → AllReach ks → deposits_of f ks ≡ seen f (ink ks)
  ink_seen ks rk = rw (deposits_left ks, ink_left ks) (ink_from_is corner corner ks corner_near corner_near rk nowhere tt)
