-- Each turn of the loop is one side of the rules; the line is in the end cell when there are none left.
use Rattle.float.specs.Differences.{◌⊖◌}
use Rattle.line.specs.Walk.{crossed}
use Rattle.line.specs.Course.{B, togo}
use Rattle.line.proofs.Walking.{Running}
use Rattle.line.proofs.walk.Given as goal

abbrev pub invariant-loop-here : goal.invariant-loop-here
invariant-loop-here l = Running l.board l.l l.initial.ws l.initial.drawn (crossed (togo l.l l.initial.here.col l.initial.here.row) l.l (l.initial.prod ⊖ B) l.initial.here) l.ws l.prod l.here l.drawn

abbrev pub decreases-loop-here : goal.decreases-loop-here
decreases-loop-here l = togo l.l l.here.col l.here.row
