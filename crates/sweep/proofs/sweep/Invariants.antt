-- `sweep::sweep` meets its contract, line by line.
use Rattle.sweep.proofs.Lines.{Lines}
use Rattle.sweep.proofs.sweep.Given as goal

abbrev pub invariant-loop-l : goal.invariant-loop-l
invariant-loop-l l = Lines l.ws l.initial.mask l.mask l.rows l.count l.width l.fill l.up l.pitch l.l
