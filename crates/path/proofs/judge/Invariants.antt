-- The loop keeps what is left to judge (`Going`), up to where the commands go on.
use Rattle.std.proofs.Common.{◌≡◌, ◌≤◌, length}
use Rattle.path.proofs.Walk.{Going}
use Rattle.path.proofs.judge.Given as goal

abbrev pub invariant-loop-command : goal.invariant-loop-command
invariant-loop-command l =
    (goal.iterator-loop-command).can_next l.command-iterator ×
    (goal.iterator-loop-command).is_finite l.command-iterator ×
    (l.command-iterator.list.now ≡ l.list) ×
    Going l.view.transform l.view.offset l.list l.command-iterator.at l.n l.cut l.closed ×
    (length l.list ≤ 65536)
