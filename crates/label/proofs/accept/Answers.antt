-- Where no check refuses, the list is short enough to be judged, and the label has the sizes of one that is drawn.
use mathlib.Core.Path.{sym, ◌∙◌}
use lib.ListN.{length}
use Rattle.label.proofs.Sizes.{fitting, short_list}
use Rattle.label.proofs.accept.Goals as goal

pub judge-requires : goal.judge-requires
judge-requires c =
    short_list c.args.l _ c.args.mask c.args.words (sym c.check.ensures ∙ c.in_ok-check.was)

pub invariant_of-result : goal.invariant_of-result
invariant_of-result c =
    record { sized = (fitting c.args.l (length c.args.list.now) c.args.mask c.args.words (sym c.check.ensures ∙ c.in_ok-check.was)).sized }
