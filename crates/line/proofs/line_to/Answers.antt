-- The points as the ends of a line, which is skipped where both are past the band, or both before it.
use mathlib.Core.Path.{◌≡◌, sym, ◌∙◌}
use mathlib.Core.Bool.{true}
use Rattle.pen.proofs.Adding.{drew_none}
use Rattle.line.specs.Lines.{ends, skips}
use Rattle.line.proofs.Cases.{line_is, skips_is, marks_skipped, marks_kept}
use Rattle.line.proofs.line_to.Goals as goal
use Rattle.line.proofs.line_to.Goals.{then-all_past-via-then-all_past, then-all_past-via-else-all_past+then-all_ahead}

pub returns-then-all_past : goal.returns-then-all_past
returns-then-all_past c =
    let p = c.args in
    let skipped : skips p.board.frame (ends p.a p.b) ≡ true =
    elim c.then-all_past.branch [
      | then-all_past-via-then-all_past w ↦ rw (skips_is p.board.frame p.a p.b, sym c.all_past.ensures ∙ w.if-all_past.true)
      | then-all_past-via-else-all_past+then-all_ahead w ↦ rw (skips_is p.board.frame p.a p.b, sym c.all_past.ensures ∙ w.if-all_past.false, sym w.all_ahead.ensures ∙ w.if-all_ahead.true)
    ]
    in
    rw (line_is p.board.frame p.a p.b, marks_skipped p.board.frame (ends p.a p.b) skipped) (drew_none _ c.requires.within)

pub returns : goal.returns
returns c =
    let p = c.args in
    let e = marks_kept p.board.frame (ends p.a p.b) (rw (skips_is p.board.frame p.a p.b, sym c.all_past.ensures ∙ c.if-all_past.false, sym c.all_ahead.ensures ∙ c.if-all_ahead.false)) in
    rw (line_is p.board.frame p.a p.b, e) (rw c.line_of.ensures at c.draw.ensures)
