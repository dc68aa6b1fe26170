-- The loop keeps the box of the points that were passed (`Growing`), up to where the commands go on.
use Rattle.std.proofs.Common.{◌≡◌}
use Rattle.placing.proofs.Growing.{Growing}
use Rattle.placing.proofs.box_list.Given as goal

abbrev pub invariant-loop-command : goal.invariant-loop-command
invariant-loop-command l =
    (goal.iterator-loop-command).can_next l.command-iterator ×
    (goal.iterator-loop-command).is_finite l.command-iterator ×
    (l.command-iterator.list.now ≡ l.list) ×
    Growing l.t l.list l.b l.command-iterator.at
