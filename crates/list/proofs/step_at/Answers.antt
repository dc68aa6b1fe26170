-- `list::step_at` meets its contract: each answer is the case of `step_at` that its tests lead to. Assumes nothing.
use mathlib.Core.Path.{◌≡◌, ap, ◌∙◌}
use native.Mathlib.Omega.{arith}
use Rattle.std.proofs.Common.{rules}
use Rattle.std.specs.Prelude.{Err}
use Rattle.list.specs.Records.{step_of}
use Rattle.list.proofs.Cases.{ended, header_cut, header_whole}
use Rattle.list.proofs.step_at.Goals as goal

pub returns-then-list-at : goal.returns-then-list-at
returns-then-list-at c = ended _ _ (omega arith)

pub returns-then-list-at-lt4 : goal.returns-then-list-at-lt4
returns-then-list-at-lt4 c = header_cut _ _ (omega arith) (omega arith)

pub returns : goal.returns
returns c = ap step_of c.in_ok-record_of.ensures ∙ header_whole _ _ _ _ (omega arith) c.half_at-size.ensures c.half_at-kind.ensures

pub returns-in_err-record_of : goal.returns-in_err-record_of
returns-in_err-record_of c =
    let refuses : c.from_residual.result ≡ Err c.in_err-record_of.field-0.0 = search rules in
    refuses ∙ ap step_of c.in_err-record_of.ensures ∙ header_whole _ _ _ _ (omega arith) c.half_at-size.ensures c.half_at-kind.ensures
