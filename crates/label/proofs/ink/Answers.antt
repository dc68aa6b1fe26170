-- What was poured is told by the answer: a full pool is 13, else the rows are swept; the words are wiped either way.
use Rattle.label.proofs.Pouring.{inked_full, inked_cells}
use Rattle.label.proofs.ink.Goals as goal
use Rattle.label.proofs.ink.Goals.{in-Ok, in_default}

pub returns : goal.returns
returns c =
    let k = c.args.checked in
    elim c.match-cells.branch [
      | in-Ok w ↦ rw (c.told.ensures, w.cells-is, w.mask-is) (inked_cells k.label k.sized _ _ _ _ _ _ _ _ w.in-Ok.is c.pour-cells.ensures _ w.sweep.ensures _ c.wipe.ensures)
      | in_default w ↦ rw (c.told.ensures, w.cells-is, w.in_default.is, w.mask-is) (inked_full k.label k.sized _ _ _ _ _ _ _ _ w.in_default.is c.pour-cells.ensures _ c.wipe.ensures)
    ]
