-- What `placing` promises, in the paper's words.
use mathlib.Core.Path.{sym}
use Rattle.paper.proofs.Placing.{bounds_held}
use Rattle.paper.proofs.bounds.Goals as goal

pub returns : goal.returns
returns c = rw (c.into.ensures, c.bounds.ensures) (sym (bounds_held _ _))
