-- What was judged, the offset of an empty list, and the box of an accepted list, which lies near.
use mathlib.Core.Path.{sym, ◌∙◌}
use Rattle.path.proofs.Telling.{handed_on}
use Rattle.placing.proofs.Answers.{offset_refused, some_records, offset_passed, box_lies, laid_at, laid_away}
use Rattle.placing.proofs.placement.Goals as goal
use Rattle.placing.proofs.placement.Goals.{else-judged-eq0-via-then-judged-eq0+else-not-offset_passes, else-judged-eq0-via-else-judged-eq0}

pub returns-then-not-offset_passes : goal.returns-then-not-offset_passes
returns-then-not-offset_passes c =
    rw c.into.ensures
    (offset_refused _ _ _ _ _ _ (sym c.in_ok-judged.was ∙ c.judge_inputs.ensures) c.if-judged-eq0.true
    (sym c.offset_passes.ensures ∙ c.if-not-offset_passes.true))

pub lay-requires : goal.lay-requires
lay-requires c =
    box_lies _ _ _ c.in_ok-judged.judged.count _ (sym c.in_ok-judged.was ∙ c.judge_inputs.ensures)
    (elim c.else-judged-eq0.branch [
      | else-judged-eq0-via-then-judged-eq0+else-not-offset_passes w ↦ offset_passed _ _ (sym w.offset_passes.ensures ∙ w.if-not-offset_passes.false)
      | else-judged-eq0-via-else-judged-eq0 w ↦ some_records _ _ w.if-judged-eq0.false
    ])
    _ c.box_list-around.ensures

pub returns : goal.returns
returns c =
    c.lay.ensures ∙ laid_at _ _ _ _ c.in_ok-judged.judged.count _ (sym c.in_ok-judged.was ∙ c.judge_inputs.ensures)
    (elim c.else-judged-eq0.branch [
      | else-judged-eq0-via-then-judged-eq0+else-not-offset_passes w ↦ offset_passed _ _ (sym w.offset_passes.ensures ∙ w.if-not-offset_passes.false)
      | else-judged-eq0-via-else-judged-eq0 w ↦ some_records _ _ w.if-judged-eq0.false
    ])
    _ c.box_list-around.ensures

pub returns-in_err-judged : goal.returns-in_err-judged
returns-in_err-judged c =
    handed_on _ _ c.from_residual.ensures.1 ∙ laid_away _ _ _ _ _ _ (sym c.in_err-judged.was ∙ c.judge_inputs.ensures)
