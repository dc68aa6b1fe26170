-- What was judged with offset zero, and the box of an accepted list.
use mathlib.Core.Path.{sym, ◌∙◌}
use Rattle.path.proofs.Telling.{handed_on}
use Rattle.placing.proofs.Answers.{boxed_at, boxed_away}
use Rattle.placing.proofs.bounds.Goals as goal

pub returns : goal.returns
returns c =
    boxed_at _ _ _ _ _ (rw c.zero_point.ensures at (sym c.in_ok-judge_inputs.was ∙ c.judge_inputs.ensures)) c.box_list.ensures

pub returns-in_err-judge_inputs : goal.returns-in_err-judge_inputs
returns-in_err-judge_inputs c =
    handed_on _ _ c.from_residual.ensures.1 ∙ boxed_away _ _ _ _ (rw c.zero_point.ensures at (sym c.in_err-judge_inputs.was ∙ c.judge_inputs.ensures))
