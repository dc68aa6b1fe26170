-- A label that is accepted is inked, and one that is not is sent away: each answer is a case of `draw_of`.
use mathlib.Core.Path.{◌∙◌}
use Rattle.path.proofs.Telling.{handed_on}
use Rattle.label.proofs.Sizes.{fitting, short_list}
use Rattle.label.proofs.Drawing.{draw_is, drawn, passes, sent_away}
use Rattle.label.proofs.draw.Goals as goal

pub ink-requires-clause-lent : goal.ink-requires-clause-lent
ink-requires-clause-lent c =
    let a = rw c.in_ok-checked.was at c.accept.ensures in
    rw a.0 (fitting c.args.l _ _ _ (passes _ _ _ _ _ a.1).0).lent

pub ink-requires-clause-few_bytes : goal.ink-requires-clause-few_bytes
ink-requires-clause-few_bytes c =
    let a = rw c.in_ok-checked.was at c.accept.ensures in
    short_list c.args.l _ _ _ (passes _ _ _ _ _ a.1).0

pub returns-in_err-checked : goal.returns-in_err-checked
returns-in_err-checked c =
    rw (handed_on _ _ c.from_residual.ensures.1) (sent_away _ _ _ _ _ _ (rw c.in_err-checked.was at c.accept.ensures) ∙ draw_is _ _ _ _)

pub returns : goal.returns
returns c =
    let a = rw c.in_ok-checked.was at c.accept.ensures in
    let p = passes _ _ _ _ _ a.1 in
    drawn _ _ _ _ _ p.0 _ _ _ p.1 (rw a.0 at c.ink.ensures) ∙ draw_is _ _ _ _
