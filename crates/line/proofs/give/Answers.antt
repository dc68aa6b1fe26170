-- Both products are small, and their difference is the product of the rules.
use mathlib.Core.Path.{◌∙◌}
use Rattle.line.proofs.Pairs.{word_area}
use Rattle.line.proofs.give.Goals as goal

pub returns : goal.returns
returns c =
    let e = c.word_of.ensures in
    let g = c.word_of-2.ensures ∙ word_area _ _ _ in
    (c.add.ensures.0, rw (← e, ← g) c.add.ensures.1)
