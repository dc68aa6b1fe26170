-- The subpath is closed, and then the last cell is stored.
use Rattle.pen.proofs.Adding.{added_then}
use Rattle.raster.proofs.finish.Goals as goal

pub returns : goal.returns
returns c =
    record { within = c.finish.ensures.within; added = added_then _ c.line_to-closed.ensures.added (rw c.line_to-closed.ensures.stands at c.finish.ensures.added) }
