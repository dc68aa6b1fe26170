-- A label that is accepted is inked band by band, and one that is not is sent away: each answer is a case of `draw_in_bands_of`.
use Rattle.path.proofs.Telling.{handed_on}
use Rattle.label.proofs.Sizes.{fitting, short_list}
use Rattle.label.proofs.Drawing.{drawn, passes, sent_away}
use Rattle.bands.proofs.Whole.{promised}
use Rattle.bands.proofs.draw_in_bands.Goals as goal

pub ink-requires : goal.ink-requires
ink-requires c =
    let a = rw c.in_ok-checked.was at c.accept.ensures in
    let q = (passes _ _ _ _ _ a.1).0 in
    record { lent = rw a.0 (fitting c.args.l _ _ _ q).lent; few_bytes = short_list c.args.l _ _ _ q }

pub returns-in_err-checked : goal.returns-in_err-checked
returns-in_err-checked c =
    let u = promised _ _ _ _ _ _ (sent_away _ _ _ _ _ _ (rw c.in_err-checked.was at c.accept.ensures)) in
    rw (handed_on _ _ c.from_residual.ensures.1) (record { told = u.0; as_at_once = u.1 })

pub returns : goal.returns
returns c =
    let a = rw c.in_ok-checked.was at c.accept.ensures in
    let p = passes _ _ _ _ _ a.1 in
    let u = promised _ _ _ _ _ _ (drawn _ _ _ _ _ p.0 _ _ _ p.1 (rw (a.0, c.rows_of.ensures) at c.ink.ensures)) in
    record { told = u.0; as_at_once = u.1 }
