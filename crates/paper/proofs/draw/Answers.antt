-- What `label` promises, in the paper's words.
use Rattle.paper.proofs.Draws.{call_draws}
use Rattle.paper.proofs.draw.Goals as goal

pub returns : goal.returns
returns c = call_draws _ _ _ _ _ _ _ _ c.into.ensures c.draw.ensures
