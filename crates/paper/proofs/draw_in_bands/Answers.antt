-- What `bands` promises, in the paper's words.
use Rattle.paper.proofs.Draws.{call_draws_in_bands}
use Rattle.paper.proofs.draw_in_bands.Goals as goal

pub returns : goal.returns
returns c = call_draws_in_bands _ _ _ _ _ _ _ _ _ c.into.ensures c.draw_in_bands.ensures.told
