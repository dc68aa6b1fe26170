use mathlib.Core.Path.{refl}
use mathlib.Core.List.{[]}
use Rattle.pen.proofs.Adding.{drew_then, drew_none, drew_give}
use Rattle.line.proofs.Walking.{drawn_more, drawn_all, drew_as, crossed_step, crossed_last}
use Rattle.line.proofs.walk.Goals as goal

pub loop-here-init : goal.loop-here-init
loop-here-init c =
    record { under = c.requires.under; done = []; drew = drew_none _ c.requires.within; same = refl }

pub loop-here-preserved : goal.loop-here-preserved
loop-here-preserved c =
    let t = c.step-t.ensures in
    let i = c.loop-here.invariant in
    record {
      under = t.under;
      done = _;
      drew = drew_then _ i.drew c.cross-drawn.ensures;
      same = drawn_more i.done _ _ i.same (crossed_step _ _ _ _ t);
    }

pub returns : goal.returns
returns c =
    let i = c.loop-here.invariant in
    let g = c.give.ensures in
    drew_as
    (drawn_all i.done i.same (crossed_last _ _ _ c.if-here-col.false c.if-here-row.false))
    (drew_then _ i.drew (drew_give _ _ _ i.drew.within g.0 g.1))
