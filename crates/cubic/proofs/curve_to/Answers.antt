-- A curve all of whose points lie past one edge of the band makes no marks; any other is handed to `flatten`. Assumes nothing.
use mathlib.Core.Path.{◌≡◌, sym, ◌∙◌}
use mathlib.Core.List.{[]}
use Rattle.pen.proofs.Adding.{drew_none}
use Rattle.cubic.specs.Cubics.{cubic_marks}
use Rattle.cubic.proofs.Tests.{past_none, all_ahead_is, not_all}
use Rattle.cubic.proofs.curve_to.Goals as goal
use Rattle.cubic.proofs.curve_to.Goals.{then-all_past-via-then-all_past, then-all_past-via-else-all_past+then-all_ahead}

pub returns-then-all_past : goal.returns-then-all_past
returns-then-all_past c =
    let p = c.args in
    let e = c.all_past.ensures in
    let none : cubic_marks p.board.frame p.cubic.a p.cubic.c p.cubic.d p.cubic.b ≡ [] =
    elim c.then-all_past.branch [
      | then-all_past-via-then-all_past w ↦ past_none p.board.frame p.cubic.a p.cubic.c p.cubic.d p.cubic.b (sym e ∙ w.if-all_past.true)
      | then-all_past-via-else-all_past+then-all_ahead w ↦ all_ahead_is p.board.frame p.cubic.a p.cubic.c p.cubic.d p.cubic.b (sym e ∙ w.if-all_past.false) (sym w.all_ahead.ensures ∙ w.if-all_ahead.true)
    ]
    in
    rw none (drew_none _ c.requires.within)

pub returns : goal.returns
returns c =
    let p = c.args in
    rw (not_all p.board.frame p.cubic.a p.cubic.c p.cubic.d p.cubic.b (sym c.all_past.ensures ∙ c.if-all_past.false) (sym c.all_ahead.ensures ∙ c.if-all_ahead.false)) c.flatten.ensures
