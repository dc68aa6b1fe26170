-- 6 and 7 first; a list that passed 7 is short enough to judge.
use mathlib.Core.Path.{sym, ◌∙◌}
use Rattle.path.proofs.Telling.{handed_on}
use Rattle.placing.proofs.Answers.{short, checked_fine, checked_faulty}
use Rattle.placing.proofs.judge_inputs.Goals as goal

pub judge-requires : goal.judge-requires
judge-requires c = short _ _ c.args.list.now (sym c.check_inputs.ensures ∙ c.in_ok-check_inputs.was)

pub returns : goal.returns
returns c = c.judge.ensures ∙ checked_fine _ _ _ (sym c.check_inputs.ensures ∙ c.in_ok-check_inputs.was)

pub returns-in_err-check_inputs : goal.returns-in_err-check_inputs
returns-in_err-check_inputs c =
    handed_on _ _ c.from_residual.ensures.1 ∙ checked_faulty _ _ _ _ (sym c.check_inputs.ensures ∙ c.in_err-check_inputs.was)
