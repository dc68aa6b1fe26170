-- Each arm is a case of `stroke_of`, and `fixed_at` promises the reach.
use Rattle.path.specs.Strokes.{stroke_of}
use Rattle.path.proofs.View.stroke.Goals as goal

pub returns-in-MoveTo : goal.returns-in-MoveTo
unfolding stroke_of
returns-in-MoveTo c = (rw (c.in-MoveTo.is, c.fixed.ensures.0), c.fixed.ensures.1)

pub returns-in-LineTo : goal.returns-in-LineTo
unfolding stroke_of
returns-in-LineTo c = (rw (c.in-LineTo.is, c.fixed-in-LineTo.ensures.0), c.fixed-in-LineTo.ensures.1)

pub returns-in-QuadTo : goal.returns-in-QuadTo
unfolding stroke_of
returns-in-QuadTo c =
    (rw (c.in-QuadTo.is, c.fixed-in-QuadTo.ensures.0, c.fixed-in-QuadTo-2.ensures.0), (c.fixed-in-QuadTo.ensures.1, c.fixed-in-QuadTo-2.ensures.1))

pub returns-in-CurveTo : goal.returns-in-CurveTo
unfolding stroke_of
returns-in-CurveTo c = (
  rw (c.in-CurveTo.is, c.fixed-in-CurveTo.ensures.0, c.fixed-in-CurveTo-2.ensures.0, c.fixed-in-CurveTo-3.ensures.0),
  (c.fixed-in-CurveTo.ensures.1, c.fixed-in-CurveTo-2.ensures.1, c.fixed-in-CurveTo-3.ensures.1),
)

pub returns-in-Close : goal.returns-in-Close
unfolding stroke_of
returns-in-Close c = (rw c.in-Close.is, tt)
