-- Each way through the tests is a case of the rule.
use mathlib.Core.Path.{sym}
use mathlib.Core.Logic.{◌⊎◌, ⊎_elim}
use Rattle.pen.proofs.Adding.{drew_give}
use Rattle.line.proofs.Cases.{marks_within, marks_level, marks_vertical, marks_slanted, sides_vertical}
use Rattle.line.proofs.Walking.{drew_as}
use Rattle.line.proofs.draw.Goals as goal

-- the tests for the end's cell: one of the two fails
not_both : {A B : Type 0} → (A × (B → ⊥)) ⊎ (A → ⊥) → A → B → ⊥
not_both w a b = ⊎_elim (λ v. v.1 b) (λ v. v a) w

pub returns-then-from-row : goal.returns-then-from-row
returns-then-from-row c =
    let g = rw c.begin-from.ensures at c.give.ensures in
    drew_as
    (sym (marks_within c.args.line.ends (rw c.begin-from.ensures at c.if-from-col.true) (rw c.begin-from.ensures at c.if-from-row.true)))
    (drew_give _ _ _ c.requires.within g.0 g.1)

pub returns-then-l : goal.returns-then-l
returns-then-l c =
    drew_as
    (sym (marks_level c.args.line.ends (not_both (rw c.begin-from.ensures at c.else-from-col.either)) c.if-l.true))
    c.set_cell.ensures

pub returns-then-l-2 : goal.returns-then-l-2
returns-then-l-2 c =
    let l = c.args.line.ends in
    drew_as
    (sym (marks_vertical l (not_both (rw c.begin-from.ensures at c.else-from-col.either)) c.if-l.false c.if-l-2.true))
    (rw (sides_vertical l c.if-l-2.true) at c.vertical.ensures)

pub returns : goal.returns
returns c =
    drew_as
    (sym (marks_slanted c.args.line.ends (not_both (rw c.begin-from.ensures at c.else-from-col.either)) c.if-l.false c.if-l-2.false))
    (rw c.slope_of.ensures at c.slanted.ensures)
