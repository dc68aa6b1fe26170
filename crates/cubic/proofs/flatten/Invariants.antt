-- The loop keeps `Going`: the marks made, and then the lines along the stack's points, are the curve's marks. Each turn takes one of the steps that
-- the stack has left, and the stack is never full. Assumes nothing.
use Rattle.fixed.specs.Split.{point_of}
use Rattle.line.specs.Lines.{along}
use Rattle.cubic.specs.Cubics.{cubic_points}
use Rattle.cubic.proofs.Run.{steps}
use Rattle.cubic.proofs.Stack.{stack}
use Rattle.cubic.proofs.Going.{Going}
use Rattle.cubic.proofs.flatten.Given as goal

abbrev pub invariant-loop-arc : goal.invariant-loop-arc
invariant-loop-arc l = Going l.board l.initial.ws l.initial.pen (along l.board.frame l.initial.from (cubic_points l.initial.from (point_of l.initial.arc 2) (point_of l.initial.arc 1) l.b)) l.ws l.arc l.top l.pen l.from

abbrev pub decreases-loop-arc : goal.decreases-loop-arc
decreases-loop-arc l = steps (stack l.arc l.top)
