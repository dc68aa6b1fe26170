-- What the iterator gave is a record that is read or a reason to refuse, and a record is ruled fine or at fault: `Going` has a law for each.
use mathlib.Core.Path.{sym, ◌∙◌}
use native.Mathlib.Omega.{arith}
use Rattle.std.proofs.Common.{rules}
use Rattle.list.specs.declared.Reason.{Reason}
use Rattle.list.proofs.Given.{gave_end, gave_fault, gave, same_list}
use Rattle.path.specs.declared.Refusal.{Refusal}
use Rattle.path.specs.Refusals.{refusal_of}
use Rattle.path.proofs.Telling.{fine_before, told}
use Rattle.path.proofs.Walk.{started, ended, turned, faulty, few_more, goes_on}
use Rattle.path.proofs.judge.Goals as goal

pub loop-command-init : goal.loop-command-init
loop-command-init c =
    let into = c.into_iter-command-iterator.ensures.into_iter_gives in
    let new = c.new-command-items.ensures in
    (tt, tt, rw into new.whole, rw (into, new.start) (started _ _ _), c.requires)

pub returns-in_err-command : goal.returns-in_err-command
returns-in_err-command c =
    let l = c.loop-command in
    let t = told c.in-Some.command (λ (w : Reason). record { why = refusal_of w; «record» = l.n }) c.map_err.result _ c.from_residual.result c.map_err.ensures.cases (λ w z h. search rules) c.in_err-command.was c.from_residual.ensures.1 in
    t.is ∙ turned _ _ _ _ l.n l.cut l.invariant.3 t.why (gave_fault l.invariant.2 (rw (c.in-Some.is, t.was) at c.next.ensures.steps))

pub returns-in_err-cut : goal.returns-in_err-cut
returns-in_err-cut c =
    let l = c.loop-command in
    let e = fine_before c.in-Some.command _ _ c.in_ok-command.command c.map_err.ensures.cases c.in_ok-command.was in
    let g = gave l.invariant.2 (rw (c.in-Some.is, e) at c.next.ensures.steps) in
    let t = told c.rule.result (λ (w : Refusal). record { why = w; «record» = l.n }) c.map_err-in-loop-command.result _ c.from_residual-in_err-cut.result c.map_err-in-loop-command.ensures.cases (λ w z h. search rules) c.in_err-cut.was c.from_residual-in_err-cut.ensures.1 in
    t.is ∙ faulty _ _ _ _ l.n l.cut l.invariant.3 _ _ g _ (sym t.was ∙ c.rule.ensures)

pub overflow_add-cut : goal.overflow_add-cut
overflow_add-cut c =
    let l = c.loop-command in
    let i = l.invariant.3 in
    let e = fine_before c.in-Some.command _ _ c.in_ok-command.command c.map_err.ensures.cases c.in_ok-command.was in
    let g = gave l.invariant.2 (rw (c.in-Some.is, e) at c.next.ensures.steps) in
    let f = fine_before c.rule.result _ _ c.in_ok-cut.field-0 c.map_err-in-loop-command.ensures.cases c.in_ok-cut.was in
    let m = few_more _ _ _ _ l.n l.cut i _ _ g _ (sym f ∙ c.rule.ensures) in
    omega (arith, i.few, i.few_cut, i.inside, l.invariant.4)

pub loop-command-preserved : goal.loop-command-preserved
loop-command-preserved c =
    let l = c.loop-command in
    let e = fine_before c.in-Some.command _ _ c.in_ok-command.command c.map_err.ensures.cases c.in_ok-command.was in
    let g = rw (c.in-Some.is, e) at c.next.ensures.steps in
    let f = fine_before c.rule.result _ _ c.in_ok-cut.field-0 c.map_err-in-loop-command.ensures.cases c.in_ok-cut.was in
    (tt, tt, same_list l.invariant.2 g, goes_on _ _ _ _ l.n l.cut l.invariant.3 _ _ (gave l.invariant.2 g) _ c.is_close-closed.ensures (sym f ∙ c.rule.ensures), l.invariant.4)

pub returns : goal.returns
returns c =
    let l = c.loop-command in
    ended _ _ _ _ l.n l.cut l.invariant.3 (gave_end l.invariant.2 (rw c.in-None.is at c.next.ensures.steps))
