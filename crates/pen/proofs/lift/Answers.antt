use Rattle.std.proofs.Common.{refl}
use Rattle.pen.specs.Drawing.{lifted}
use Rattle.pen.proofs.lift.Goals as goal

pub returns : goal.returns
unfolding lifted
returns c = refl
