-- The number of the product with 256 is that of the float's own digits (`proofs/Exact.antt`), since a parameter fits its format. Assumes nothing.
use mathlib.Core.Path.{sym, ap, ◌∙◌}
use denote.Floats.{passes}
use Rattle.fixed.specs.Scaled.{fix_from}
use Rattle.fixed.proofs.Exact.{scaled_is}
use Rattle.fixed.proofs.to_fixed.Goals as goal

pub returns-in_err-cut_float : goal.returns-in_err-cut_float
unfolding fix_from
returns-in_err-cut_float c =
    let cut = sym c.in_err-cut_float.was ∙ c.cut_float.ensures in
    c.from_residual.ensures ∙ ap fix_from cut ∙ scaled_is c.args.v (passes _ c.well_formed.0.1)

pub returns : goal.returns
unfolding fix_from
returns c =
    let cut = sym c.in_ok-cut_float.was ∙ c.cut_float.ensures in
    c.fix_of.ensures ∙ ap fix_from cut ∙ scaled_is c.args.v (passes _ c.well_formed.0.1)
