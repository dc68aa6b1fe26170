-- Each branch's tests are the tests of one side, with p, q, s and t held 2^40 higher.
use mathlib.Core.Path.{sym}
use mathlib.Core.Logic.{⊎_elim}
use native.Mathlib.Omega.{arith}
use borrow.Author.Tests.{ltb-true, leb-true}
use Rattle.line.proofs.Ways.{to_left, to_next, to_right, to_previous}
use Rattle.line.proofs.way_out.Goals as goal

pub returns-then-q-gt-BIAS : goal.returns-then-q-gt-BIAS
returns-then-q-gt-BIAS c = sym (to_left _ _ (omega arith) (omega (arith, ltb-true)))

pub returns-then-s-gt-BIAS : goal.returns-then-s-gt-BIAS
returns-then-s-gt-BIAS c = sym (to_next _ _ (omega arith) (omega (arith, ltb-true)))

pub returns-then-t-ge-BIAS : goal.returns-then-t-ge-BIAS
returns-then-t-ge-BIAS c =
    sym (to_right _ _
    (λ h. ⊎_elim (λ w. omega arith) (λ w. omega arith) c.else-p-le-BIAS.either)
    (omega arith)
    (omega (arith, leb-true)))

pub returns-else-s-le-BIAS : goal.returns-else-s-le-BIAS
returns-else-s-le-BIAS c =
    sym (to_previous _ _
    (λ h. ⊎_elim (λ w. omega arith) (λ w. omega arith) c.else-p-le-BIAS.either)
    (λ h. ⊎_elim (λ w. omega arith) (λ w. omega arith) c.else-q-le-BIAS.either)
    (λ h. ⊎_elim (λ w. omega arith) (λ w. omega arith) c.else-s-le-BIAS.either))
