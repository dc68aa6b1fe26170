-- The lines so far, doubled as often as the number that is left wants, are all the lines.
use Rattle.quad.proofs.Doubling.{Doubled}
use Rattle.quad.proofs.lines_of.Given as goal

abbrev pub invariant-loop-d : goal.invariant-loop-d
invariant-loop-d l = Doubled l.bend l.d l.n

abbrev pub decreases-loop-d : goal.decreases-loop-d
decreases-loop-d l = l.d
