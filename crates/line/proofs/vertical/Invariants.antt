-- Each turn of the loop is one row of the rules; the line is in the end's row when there are none left.
use Rattle.line.specs.Walk.{upright}
use Rattle.line.specs.Course.{rows_to}
use Rattle.line.proofs.Walking.{row_way, Rising}
use Rattle.line.proofs.vertical.Given as goal

abbrev pub invariant-loop-at : goal.invariant-loop-at
invariant-loop-at l = Rising l.board l.l l.next l.initial.ws l.initial.drawn (upright (rows_to l.l l.initial.at.row) (row_way l.next) l.l l.initial.at) l.ws l.at l.drawn

abbrev pub decreases-loop-at : goal.decreases-loop-at
decreases-loop-at l = rows_to l.l l.at.row
