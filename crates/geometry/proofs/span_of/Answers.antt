-- `geometry::span_of` meets its contract, by what the two ends say (`proofs/Sides.antt`). Assumes nothing.
use mathlib.Core.Path.{sym, ap, ◌∙◌}
use Rattle.geometry.specs.Held.{side}
use Rattle.geometry.proofs.Sides.{Found, found, lost, over, first_lost, second_lost}
use Rattle.geometry.proofs.span_of.Goals as goal

pub returns-in_err-first : goal.returns-in_err-first
returns-in_err-first c = c.from_residual.ensures ∙ first_lost c.args.a c.args.b (lost c.args.a (sym c.around_float.ensures ∙ c.in_err-first.was))

pub returns-in_err-last : goal.returns-in_err-last
returns-in_err-last c =
    let first : Found c.args.a c.in_ok-first.first = found c.args.a _ (sym c.around_float.ensures ∙ c.in_ok-first.was) in
    c.from_residual-in_err-last.ensures ∙ second_lost c.args.a c.args.b _ first (lost c.args.b (sym c.around_float-2.ensures ∙ c.in_err-last.was))

pub returns : goal.returns
returns c =
    let first : Found c.args.a c.in_ok-first.first = found c.args.a _ (sym c.around_float.ensures ∙ c.in_ok-first.was) in
    let last : Found c.args.b c.in_ok-last.last = found c.args.b _ (sym c.around_float-2.ensures ∙ c.in_ok-last.was) in
    ap (side c.in_ok-first.first.down) c.saturating_sub.ensures ∙ over c.args.a c.args.b _ _ first last
