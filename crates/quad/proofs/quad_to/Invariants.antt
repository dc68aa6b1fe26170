-- While the loop runs, the marks made and the marks of the lines to the points left on the stack are all the marks. The number of lines left falls, or `rest` is halved.
use Prim.Native.Nat.{◌+◌, ◌*◌}
use Rattle.quad.proofs.Drawing.{all_marks, Going}
use Rattle.quad.proofs.quad_to.Given as goal

abbrev pub invariant-loop-rest : goal.invariant-loop-rest
invariant-loop-rest l = Going l.board (all_marks l.board.frame l.initial.from l.initial.arc) l.initial.ws l.initial.drawn l.ws l.arc l.top l.draw l.rest l.from l.drawn

abbrev pub decreases-loop-rest : goal.decreases-loop-rest
decreases-loop-rest l = 257 * l.draw + l.rest
