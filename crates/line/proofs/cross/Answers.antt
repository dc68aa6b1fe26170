-- A pair is given, and then the next cell entered.
use Rattle.pen.proofs.Adding.{drew_then, drew_give}
use Rattle.line.proofs.cross.Goals as goal

pub returns : goal.returns
returns c =
    let g = c.give-given.ensures in
    drew_then _ (drew_give _ _ _ c.requires.within g.0 g.1) c.set_cell.ensures
