-- The same way as `draw`, up to the cells.
use mathlib.Core.Path.{sym, ◌∙◌}
use Rattle.path.proofs.Telling.{handed_on}
use Rattle.label.proofs.Sizes.{fitting, short_list}
use Rattle.label.proofs.Pouring.{tellable}
use Rattle.label.proofs.Drawing.{passes}
use Rattle.label.proofs.Celling.{celled_away, celled_wiped, celled_kept}
use Rattle.label.proofs.cells.Goals as goal
use Rattle.label.proofs.cells.Goals.{then-is_err, else-is_err}

pub pour-stored-requires : goal.pour-stored-requires
pour-stored-requires c =
    let a = rw c.in_ok-checked.was at c.accept.ensures in
    rw a.0 (fitting c.args.l _ _ _ (passes _ _ _ _ _ a.1).0).lent.heads

pub told-requires : goal.told-requires
told-requires c =
    let a = rw c.in_ok-checked.was at c.accept.ensures in
    tellable c.in_ok-checked.checked.label _ _ _ (short_list c.args.l _ _ _ (passes _ _ _ _ _ a.1).0) c.pour-stored.ensures.within

pub returns-in_err-checked : goal.returns-in_err-checked
returns-in_err-checked c =
    rw (handed_on _ _ c.from_residual.ensures.1) (celled_away _ _ _ _ _ (rw c.in_err-checked.was at c.accept.ensures))

pub returns : goal.returns
returns c =
    let k = c.in_ok-checked in
    let a = rw k.was at c.accept.ensures in
    let p = passes _ _ _ _ _ a.1 in
    let f = (fitting c.args.l _ _ _ p.0).sized in
    let poured = rw a.0 at c.pour-stored.ensures in
    rw c.told.ensures
    (elim c.if-is_err.branch [
      | then-is_err w ↦ rw w.words-is (celled_wiped _ _ _ _ p.0 f _ _ p.1 _ _ poured (sym c.is_err.ensures.value ∙ w.if-is_err.true) _ w.wipe.ensures)
      | else-is_err w ↦ rw w.words-is (celled_kept _ _ _ _ p.0 f _ _ p.1 _ _ poured (sym c.is_err.ensures.value ∙ w.if-is_err.false))
    ])
