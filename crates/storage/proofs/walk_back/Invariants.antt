-- `storage::walk_back` meets its contract, since each place that it meets is tested. The walk ends since the places fall.
use Rattle.storage.proofs.walk_back.Given as goal

abbrev pub invariant-loop-link : goal.invariant-loop-link
invariant-loop-link l = Unit {0}

abbrev pub decreases-loop-link : goal.decreases-loop-link
decreases-loop-link l = l.high
