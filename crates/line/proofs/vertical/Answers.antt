use mathlib.Core.Path.{refl, ap, ◌∙◌}
use mathlib.Core.List.{[]}
use lib.Dec.{ltb}
use native.Mathlib.Omega.{arith}
use Rattle.pen.proofs.Adding.{drew_then, drew_none, drew_give}
use Rattle.line.specs.declared.At.{At}
use Rattle.line.specs.Walk.{upright, row_side}
use Rattle.line.specs.Course.{rows_to}
use Rattle.line.proofs.Walking.{drawn_more, drawn_all, drew_as, upright_step, upright_last, row_level, row_few, row_point, row_start}
use Rattle.line.proofs.vertical.Goals as goal

pub loop-at-init : goal.loop-at-init
loop-at-init c =
    let e = c.begin-at.ensures in
    record {
      point = rw e (record { inx = omega arith; iny = omega arith });
      few = rw e (let h = c.args.line.bounded.by1 in omega arith);
      level = rw e (row_start c.args.line.ends);
      done = [];
      drew = drew_none _ c.requires.within;
      same = refl;
    }

pub loop-at-preserved : goal.loop-at-preserved
loop-at-preserved c =
    let h = c.loop-at in
    let i = h.invariant in
    let l = c.args.line.ends in
    let b = ltb l.y1 l.y2 in
    let n = c.loop-at-test.true in
    let e = c.step_row-to.ensures in
    let v = row_level l b h.at i.level n in
    rw e
    (record {
      point = row_point b h.at i.point;
      few = row_few b h.at l c.args.line.bounded.by2 i.few v;
      level = v;
      done = _;
      drew = drew_then _ i.drew (rw (e, c.row_side-out.ensures) at c.cross-drawn.ensures);
      same = drawn_more i.done _ _ i.same (upright_step l b h.at i.level n);
    })

pub returns : goal.returns
returns c =
    let i = c.loop-at.invariant in
    let l = c.args.line.ends in
    let g = c.give.ensures in
    drew_as
    (drawn_all i.done i.same (upright_last l (ltb l.y1 l.y2) _ c.loop-at-test.false)
    ∙ ap (λ (a : At). upright (rows_to l a.row) (row_side l) l a) c.begin-at.ensures)
    (drew_then _ i.drew (drew_give _ _ _ i.drew.within g.0 g.1))
