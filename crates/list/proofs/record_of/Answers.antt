-- `list::record_of` meets its contract: each answer is the case of `record_of` that its tests lead to. Assumes nothing.
use mathlib.Core.Path.{◌≡◌, ◌∙◌}
use native.Mathlib.Omega.{arith}
use Rattle.std.proofs.Common.{rules}
use Rattle.std.specs.Prelude.{Err}
use Rattle.list.specs.declared.Reason.TheVariants.{Kind}
use Rattle.list.proofs.Cases.{kind_wrong, length_wrong, body_cut, whole}
use Rattle.list.proofs.record_of.Goals as goal

pub returns-in_err-verb : goal.returns-in_err-verb
returns-in_err-verb c =
    let refuses : c.from_residual.result ≡ Err Kind = search rules in
    refuses ∙ kind_wrong _ _ _ _ (grind (arith, c.in_err-verb.ensures.1))

pub returns-then-size-length_of : goal.returns-then-size-length_of
returns-then-size-length_of c = length_wrong _ _ _ _ c.in_ok-verb.verb (omega (arith, c.in_ok-verb.ensures)) (λ e. omega arith)

pub returns-then-list-at : goal.returns-then-list-at
returns-then-list-at c = body_cut _ _ _ _ c.in_ok-verb.verb (omega (arith, c.in_ok-verb.ensures)) (omega arith) (omega arith)

pub returns : goal.returns
returns c = whole _ _ _ _ c.in_ok-verb.verb (omega (arith, c.in_ok-verb.ensures)) (omega arith) (omega arith) _ c.body_of.ensures _ (omega arith)
