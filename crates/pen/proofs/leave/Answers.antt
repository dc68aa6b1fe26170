-- A pen in no cell leaves nothing, and so does one whose pair is zero.
use Rattle.pen.proofs.Adding.{none_added}
use Rattle.pen.proofs.leave.Goals as goal

pub returns-in-None-clause-added : goal.returns-in-None-clause-added
returns-in-None-clause-added c = rw c.in-None.is (none_added _ _ _)

pub returns-in-Some-clause-added : goal.returns-in-Some-clause-added
returns-in-Some-clause-added c = rw (c.in-Some.is, c.if-cell-eq0.true, c.if-cell-eq0-2.true) (none_added _ _ _)
