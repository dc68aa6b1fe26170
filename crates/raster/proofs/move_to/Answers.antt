-- The subpath is closed, and then the cell is entered.
use Rattle.pen.proofs.Adding.{drew_then}
use Rattle.raster.proofs.move_to.Goals as goal

pub returns : goal.returns
returns c =
    drew_then _ c.line_to-closed.ensures (rw (c.trunc.ensures, c.trunc-2.ensures) at c.set_cell.ensures)
