-- `sweep::sweep_row` meets its contract, by the laws of the sweep. The walk ends since the column that it has come to rises, up to the width.
use Rattle.std.proofs.Common.{◌+◌, ◌-◌}
use Rattle.sweep.proofs.Sweeps.{Sweep}
use Rattle.sweep.proofs.sweep_row.Given as goal

abbrev pub invariant-loop-next : goal.invariant-loop-next
invariant-loop-next l = Sweep l.ws l.initial.out l.out l.rows l.count l.row l.width l.fill l.low l.cover l.next

abbrev pub decreases-loop-next : goal.decreases-loop-next
decreases-loop-next l = l.width + 1 - l.low
