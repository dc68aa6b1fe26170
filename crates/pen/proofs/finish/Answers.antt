-- A pen in no cell has no last cell.
use Rattle.pen.proofs.Adding.{none_added}
use Rattle.pen.proofs.finish.Goals as goal

pub returns-in-None-clause-added : goal.returns-in-None-clause-added
returns-in-None-clause-added c = rw c.in-None.is (none_added _ _ _)
