-- `storage::walk_on` meets its contract, by the laws of the walk. The walk ends since the place it has come to rises, up to the one that is sought.
use Rattle.std.proofs.Common.{◌+◌, ◌-◌}
use Rattle.storage.proofs.Walk.{Walk}
use Rattle.storage.proofs.walk_on.Given as goal

abbrev pub invariant-loop-next : goal.invariant-loop-next
invariant-loop-next l = Walk l.ws l.sizes.rows l.sizes.count l.row l.place l.last l.low l.next

abbrev pub decreases-loop-next : goal.decreases-loop-next
decreases-loop-next l = l.place + 1 - l.low
