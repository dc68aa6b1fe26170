-- A full pool stays full, a cell that is outside is not seen, and `store` promises the rest.
use Rattle.std.proofs.Common.{refl}
use Rattle.pen.proofs.Adding.{right_added, high_added, low_added, store_added, full_added, renamed}
use Rattle.pen.proofs.set.Goals as goal
use Rattle.pen.proofs.set.Goals.{then-f-cell-via-then-f-cell, then-f-cell-via-else-f-cell+then-cell-f, then-f-cell-via-else-f-cell+else-cell-f+then-f-cell-2}

pub returns-in_err-n-clause-added : goal.returns-in_err-n-clause-added
returns-in_err-n-clause-added c = renamed _ c.in_err-n.was (rw c.from_residual.ensures (full_added _ _ _))

pub returns-then-f-cell-clause-added : goal.returns-then-f-cell-clause-added
returns-then-f-cell-clause-added c =
    elim c.then-f-cell.branch [
      | then-f-cell-via-then-f-cell w ↦ right_added _ _ _ _ _ _ _ w.if-f-cell.true
      | then-f-cell-via-else-f-cell+then-cell-f w ↦ high_added _ _ _ _ _ _ _ w.if-f-cell.false w.if-cell-f.true
      | then-f-cell-via-else-f-cell+else-cell-f+then-f-cell-2 w ↦ low_added _ _ _ _ _ _ _ w.if-f-cell.false w.if-cell-f.false w.if-f-cell-2.true
    ]

pub returns-clause-added : goal.returns-clause-added
returns-clause-added c =
    renamed _ c.in_ok-n.was
    (store_added c.args.board _ _ _ _ c.args.ws.now c.store.new.ws _ _ _ refl refl (rw c.column_of.ensures refl) c.column_of.ensures
    c.if-f-cell.false c.if-cell-f.false c.if-f-cell-2.false c.store.ensures)
