-- Each arm adds the points of its command, transformed, one after the other.
use Rattle.geometry.specs.Box.{box_from}
use Rattle.placing.proofs.grow.Goals as goal

pub returns-in-MoveTo : goal.returns-in-MoveTo
unfolding box_from
returns-in-MoveTo c = rw (c.in-MoveTo.is, c.add.ensures, c.transform_point.ensures)

pub returns-in-LineTo : goal.returns-in-LineTo
unfolding box_from
returns-in-LineTo c = rw (c.in-LineTo.is, c.add-in-LineTo.ensures, c.transform_point-in-LineTo.ensures)

pub returns-in-QuadTo : goal.returns-in-QuadTo
unfolding box_from
returns-in-QuadTo c = rw (c.in-QuadTo.is, c.add-in-QuadTo-2.ensures, c.transform_point-in-QuadTo-2.ensures, c.add-in-QuadTo.ensures, c.transform_point-in-QuadTo.ensures)

pub returns-in-CurveTo : goal.returns-in-CurveTo
unfolding box_from
returns-in-CurveTo c = rw (c.in-CurveTo.is, c.add-in-CurveTo-3.ensures, c.transform_point-in-CurveTo-3.ensures, c.add-in-CurveTo-2.ensures, c.transform_point-in-CurveTo-2.ensures, c.add-in-CurveTo.ensures, c.transform_point-in-CurveTo.ensures)

pub returns-in-Close : goal.returns-in-Close
unfolding box_from
returns-in-Close c = rw c.in-Close.is
