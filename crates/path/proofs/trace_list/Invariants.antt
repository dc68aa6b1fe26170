-- The loop keeps the marks that are done and those that are left (`Tracking`), up to where the commands go on.
use Rattle.std.proofs.Common.{◌≡◌}
use Rattle.pen.specs.Drawing.{Ready}
use Rattle.path.proofs.Tracking.{Tracking}
use Rattle.path.proofs.trace_list.Given as goal

abbrev pub invariant-loop-command : goal.invariant-loop-command
invariant-loop-command l =
    (goal.iterator-loop-command).can_next l.command-iterator ×
    (goal.iterator-loop-command).is_finite l.command-iterator ×
    (l.command-iterator.list.now ≡ l.list) ×
    Tracking l.board l.initial.ws l.view.transform l.view.offset l.list l.ws l.track l.command-iterator.at l.n ×
    Ready l.board l.ws
