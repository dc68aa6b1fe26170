-- Curves: one all of whose points lie past one edge of the band has all its lines there, so that the rule that skips lines skips them already.
use Prim.Native.Nat.{◌≤◌, ◌<◌}
use mathlib.Core.Path.{◌≡◌, refl, sym}
use mathlib.Core.Bool.{Bool, true, false, cond, ◌&&◌, ◌||◌, false≢true}
use mathlib.Core.List.{List, [], ◌∷◌, ◌++◌}
use borrow.Author.Tests.{leb-true, ltb-true}
use Rattle.fixed.specs.declared.FixedPoint.{FixedPoint}
use Rattle.fixed.specs.Fixed.{cell}
use Rattle.fixed.proofs.Range.{past_kept, ahead_kept}
use Rattle.pen.specs.declared.Frame.{Frame}
use Rattle.pen.specs.Marks.{Mark, after}
use Rattle.line.specs.Range.{Reach}
use Rattle.line.specs.Lines.{ends, skips, past, ahead, along}
use Rattle.line.proofs.Tests.{both_true}
use Rattle.line.proofs.Cases.{skips_past, skips_ahead, marks_skipped, line_is}
use Rattle.quad.specs.Quads.{quad_points, quad_marks}
use Rattle.quad.proofs.Points as quads
use Rattle.cubic.specs.Cubics.{cubic_points, cubic_marks}
use Rattle.cubic.specs.Depth.{Each, none, more, end_of}
use Rattle.cubic.proofs.Points as cubics
use Rattle.claims.specs.Ink.{along_all}
use Rattle.claims.proofs.Economy.{Economy, economy_all, economy_join, economy_line}

each_of : {P : FixedPoint → Type 0} (ps : List FixedPoint) → quads.Each P ps → Each P ps
each_of [] h = none
each_of (p ∷ ps) h = more h.0 (each_of ps h.1)

first : (x y z w : Bool) → (x && y && z && w) ≡ true → x ≡ true
first true y z w e = refl
first false y z w e = absurd (false≢true e)

module _ (f : Frame) where
  -- ---- lines that are all skipped
  along_none : (P : FixedPoint → Type 0) → ((a b : FixedPoint) → P a → P b → skips f (ends a b) ≡ true) → (a : FixedPoint) {ps : List FixedPoint} → P a → Each P ps → along f a ps ≡ []
  unfolding along
  along_none P k a h none = refl
  along_none P k a h (more {p} g gs) = rw (line_is f a p, marks_skipped f (ends a p) (k a p h g)) (along_none P k p g gs)

  abbrev Past : FixedPoint → Type 0
  Past p = f.end ≤ cell p.y

  abbrev Ahead : FixedPoint → Type 0
  Ahead p = cell p.y < f.first

  past_none : (a : FixedPoint) {ps : List FixedPoint} → Past a → Each Past ps → along f a ps ≡ []
  past_none a h hs = along_none Past (λ a b h g. skips_past f (ends a b) h g) a h hs

  ahead_none : (a : FixedPoint) {ps : List FixedPoint} → Ahead a → Each Ahead ps → along f a ps ≡ []
  ahead_none a h hs = along_none Ahead (λ a b h g. skips_ahead f (ends a b) h g) a h hs

  is_past : (p : FixedPoint) → past f p.y ≡ true → Past p
  is_past p e = leb-true f.end (cell p.y) e

  is_ahead : (p : FixedPoint) → ahead f p.y ≡ true → Ahead p
  is_ahead p e = ltb-true (cell p.y) f.first e

  choose : (x y : Bool) (ms : List Mark) → (x ≡ true → ms ≡ []) → (y ≡ true → ms ≡ []) → cond (x || y) [] ms ≡ ms
  choose true y ms h g = sym (h refl)
  choose false true ms h g = sym (g refl)
  choose false false ms h g = refl

  -- ---- the rule that skips curves adds nothing to the one that skips lines
  module _ (a c b : FixedPoint) where
    quad_past : (past f a.y && past f c.y && past f b.y) ≡ true → along f a (quad_points a c b) ≡ []
    quad_past e =
        let h = both_true (past f a.y && past f c.y) (past f b.y) e in
        let g = both_true (past f a.y) (past f c.y) h.0 in
        past_none a (is_past a g.0) (each_of (quad_points a c b) (quads.points_keep Past (past_kept f.end) a c b (is_past a g.0) (is_past c g.1) (is_past b h.1)))

    quad_ahead : (ahead f a.y && ahead f c.y && ahead f b.y) ≡ true → along f a (quad_points a c b) ≡ []
    quad_ahead e =
        let h = both_true (ahead f a.y && ahead f c.y) (ahead f b.y) e in
        let g = both_true (ahead f a.y) (ahead f c.y) h.0 in
        ahead_none a (is_ahead a g.0) (each_of (quad_points a c b) (quads.points_keep Ahead (ahead_kept f.first) a c b (is_ahead a g.0) (is_ahead c g.1) (is_ahead b h.1)))

    pub quad_along : quad_marks f a c b ≡ along f a (quad_points a c b)
    unfolding quad_marks
    quad_along = choose (past f a.y && past f c.y && past f b.y) (ahead f a.y && ahead f c.y && ahead f b.y) (along f a (quad_points a c b)) quad_past quad_ahead

  module _ (a c d b : FixedPoint) where
    cubic_past : (past f a.y && past f c.y && past f d.y && past f b.y) ≡ true → along f a (cubic_points a c d b) ≡ []
    cubic_past e = past_none a (is_past a (first (past f a.y) (past f c.y) (past f d.y) (past f b.y) e)) (cubics.each_map is_past (cubics.each_past f a c d b e))

    cubic_ahead : (ahead f a.y && ahead f c.y && ahead f d.y && ahead f b.y) ≡ true → along f a (cubic_points a c d b) ≡ []
    cubic_ahead e = ahead_none a (is_ahead a (first (ahead f a.y) (ahead f c.y) (ahead f d.y) (ahead f b.y) e)) (cubics.each_map is_ahead (cubics.each_ahead f a c d b e))

    pub cubic_along : cubic_marks f a c d b ≡ along f a (cubic_points a c d b)
    unfolding cubic_marks
    cubic_along =
        choose (past f a.y && past f c.y && past f d.y && past f b.y) (ahead f a.y && ahead f c.y && ahead f d.y && ahead f b.y)
        (along f a (cubic_points a c d b)) cubic_past cubic_ahead

  -- ---- lines from point to point
  economy_along : (a : FixedPoint) {ps : List FixedPoint} → Reach a → Each Reach ps → Economy f a (end_of a ps) (along f a ps) (along_all a ps)
  unfolding along along_all end_of after
  economy_along a ra none = economy_all f (λ s h. h)
  economy_along a ra (more {p} rp rs) = economy_join f (economy_line f a p ra rp) (economy_along p rp rs)

  end_snoc : (a b : FixedPoint) (ps : List FixedPoint) → end_of a (ps ++ (b ∷ [])) ≡ b
  unfolding end_of
  end_snoc a b [] = refl
  end_snoc a b (p ∷ ps) = end_snoc p b ps

  quad_end : (a c b : FixedPoint) → end_of a (quad_points a c b) ≡ b
  quad_end a c b = let e = quads.points_end a c b in rw e.whole (end_snoc a b e.before)

  pub economy_quad : (a c b : FixedPoint) → Reach a → Reach c → Reach b → Economy f a b (quad_marks f a c b) (along_all a (quad_points a c b))
  economy_quad a c b ra rc rb =
      let g = economy_along a ra (each_of (quad_points a c b) (quads.points_reach a c b ra rc rb)) in
      rw (quad_along a c b) (rw (quad_end a c b) at g)

  pub economy_cubic : (a c d b : FixedPoint) → Reach a → Reach c → Reach d → Reach b → Economy f a b (cubic_marks f a c d b) (along_all a (cubic_points a c d b))
  economy_cubic a c d b ra rc rd rb =
      let g = economy_along a ra (cubics.in_reach a c d b (record { end = rb; near_end = rd; near_start = rc; start = ra })) in
      rw (cubic_along a c d b) (rw (cubics.last_point a c d b) at g)
