-- `float::ceil` meets its contract. Assumes nothing.
use mathlib.Core.Path.{ap}
use lib.Ieee.{neg}
use Rattle.float.specs.Round.{ceil_of}
use Rattle.float.proofs.ceil.Goals as goal

pub returns : goal.returns
unfolding ceil_of
returns c = ap neg c.floor.ensures
