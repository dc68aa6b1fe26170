-- The points are those that the three calls give. Assumes nothing.
use Rattle.fixed.specs.Split.{split_quad}
use Rattle.fixed.proofs.split_quad.Goals as goal

pub returns : goal.returns
unfolding split_quad
returns c = rw (c.mid_line.ensures, c.mid_quad.ensures, c.mid_line-2.ensures)
