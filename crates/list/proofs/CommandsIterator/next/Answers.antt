-- Behind a record less of the list is left, and behind a reason to refuse nothing.
use mathlib.Core.Path.{sym, ◌∙◌}
use native.Mathlib.Omega.{arith}
use Rattle.list.proofs.Next.{further, refused_at}
use Rattle.list.proofs.CommandsIterator.next.Goals as goal

pub returns-in-Ok-Some-clause-goes : goal.returns-in-Ok-Some-clause-goes
returns-in-Ok-Some-clause-goes c =
    let less = further _ _ _ _ (sym (rw c.in-Ok-Some.field-0-is at c.in-Ok-Some.ensures)) in
    record { on = λ _. (tt, tt, omega arith); keeps = tt; rests = λ _. tt }

pub returns-in-Err-clause-goes : goal.returns-in-Err-clause-goes
returns-in-Err-clause-goes c =
    let h = refused_at _ _ _ (sym c.step_at.ensures ∙ c.in-Err.is) in
    record { on = λ _. (tt, tt, omega arith); keeps = tt; rests = λ _. tt }
