-- The four stores are those of the rule, with the five points that the split hands back.
use Rattle.quad.specs.Stack.{halved}
use Rattle.quad.proofs.halve.Goals as goal

pub returns : goal.returns
unfolding halved
returns c = rw c.split_quad-five.ensures
