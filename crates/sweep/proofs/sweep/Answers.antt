use Rattle.std.proofs.Common.{◌≡◌, ◌+◌, ◌-◌, ◌*◌, ◌≤◌, length, arith}
use Rattle.sweep.proofs.Lines.{lines_more, line_fits, lines_all, row_up, row_down}
use Rattle.sweep.specs.Masks.{row_at}
use Rattle.sweep.proofs.sweep.Goals as goal
use Rattle.sweep.proofs.sweep.Goals.{then-up, else-up}

pub loop-l-preserved : goal.loop-l-preserved
loop-l-preserved c =
    let a = c.args in
    let l = c.loop-l.l in
    let joined : c.if-up.row ≡ row_at a.up a.rows l =
    elim c.if-up.branch [ then-up w ↦ row_up a.up a.rows l c.if-up.row w.if-up.true w.row-is | else-up w ↦ row_down a.up a.rows l c.if-up.row w.if-up.false w.row-is ] in
    let room : a.pitch * l + a.width ≤ length a.mask.now = line_fits c.requires l c.loop-l-test.true in
    lines_more c.requires.pitched c.loop-l.invariant c.loop-l-test.true room (a.pitch * l + a.width - a.pitch * l) c.sweep_row.new.out c.if-up.row (omega arith)
    (omega (arith, c.sweep_row.auto.out)) joined c.sweep_row.ensures.painted

pub returns : goal.returns
returns c = lines_all c.loop-l.invariant c.loop-l-test.false
