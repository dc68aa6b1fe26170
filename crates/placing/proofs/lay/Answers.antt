-- The box lies near, so geometry's placement is not outside, and its parts are those of the rule.
use mathlib.Core.Path.{sym, ap, ◌∙◌}
use Rattle.std.specs.Result.{result_ok}
use Rattle.placing.proofs.Answers.{lays, never_outside}
use Rattle.placing.proofs.lay.Goals as goal

pub returns : goal.returns
returns c =
    lays _ _ _ c.requires _ _ (sym c.compute.ensures ∙ c.ok_or.ensures.ok_part ∙ ap result_ok c.in_ok-placed.was)

pub returns-in_err-placed : goal.returns-in_err-placed
returns-in_err-placed c =
    absurd (never_outside _ _ _ c.requires (sym c.compute.ensures ∙ c.ok_or.ensures.ok_part ∙ ap result_ok c.in_err-placed.was))
