-- The points are those that the five calls give. Assumes nothing.
use Rattle.fixed.specs.Split.{split_cubic}
use Rattle.fixed.proofs.split_cubic.Goals as goal

pub returns : goal.returns
unfolding split_cubic
returns c = rw (c.mid_line.ensures, c.mid_quad.ensures, c.mid_cubic.ensures, c.mid_quad-2.ensures, c.mid_line-2.ensures)
