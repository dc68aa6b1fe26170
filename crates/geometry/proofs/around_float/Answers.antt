-- `geometry::around_float` meets its contract, by what the cut says (`proofs/Reach.antt`). Assumes nothing.
use mathlib.Core.Path.{◌≡◌, sym, ap, ◌∙◌}
use Rattle.std.specs.Prelude.{ℕ, ◌+◌, ◌-◌, ◌^◌, Some}
use Rattle.float.specs.Cut.{cut_of}
use Rattle.geometry.specs.Held.{ends}
use Rattle.geometry.proofs.Reach.{too_far, around_below, around_above, around_far}
use Rattle.geometry.proofs.around_float.Goals as goal

pub returns-in_err-cut : goal.returns-in_err-cut
returns-in_err-cut c = c.from_residual.ensures ∙ around_far c.args.v (sym c.cut_float.ensures ∙ c.in_err-cut.was)

pub returns-then-cut-ge-REACH : goal.returns-then-cut-ge-REACH
returns-then-cut-ge-REACH c =
    let near : cut_of c.args.v ≡ Some c.in_ok-cut.cut = sym c.cut_float.ensures ∙ c.in_ok-cut.was in
    too_far c.args.v _ near c.if-cut-ge-REACH.true

pub returns-then-cut : goal.returns-then-cut
returns-then-cut c =
    let near : cut_of c.args.v ≡ Some c.in_ok-cut.cut = sym c.cut_float.ensures ∙ c.in_ok-cut.was in
    let n = c.in_ok-cut.cut.whole in
    ap (λ (r : ℕ). ends (2 ^ 24 - (n + r)) (2 ^ 24 - n)) c.from.ensures ∙ around_below c.args.v _ near c.if-cut-ge-REACH.false c.if-cut.true

pub returns : goal.returns
returns c =
    let near : cut_of c.args.v ≡ Some c.in_ok-cut.cut = sym c.cut_float.ensures ∙ c.in_ok-cut.was in
    let n = c.in_ok-cut.cut.whole in
    ap (λ (r : ℕ). ends (2 ^ 24 + n) (2 ^ 24 + (n + r))) c.from.ensures ∙ around_above c.args.v _ near c.if-cut-ge-REACH.false c.if-cut.false
