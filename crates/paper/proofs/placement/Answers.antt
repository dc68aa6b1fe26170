-- What `placing` promises, in the paper's words.
use mathlib.Core.Path.{sym}
use Rattle.paper.proofs.Placing.{placement_held}
use Rattle.paper.proofs.placement.Goals as goal

pub returns : goal.returns
returns c = rw (c.into.ensures, c.placement.ensures) (sym (placement_held _ _ _ _))
