-- What `leave` stores is what entering a cell leaves behind.
use Rattle.std.proofs.Common.{refl}
use Rattle.pen.specs.Marks.{after}
use Rattle.pen.proofs.Standing.{left_enter}
use Rattle.pen.proofs.set_cell.Goals as goal

pub returns : goal.returns
unfolding after
returns c =
    record { within = c.leave-kept.ensures.within; stands = refl; added = rw (left_enter _ _ _) c.leave-kept.ensures.added }
