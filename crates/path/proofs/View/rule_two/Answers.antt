-- One point behind the other, and none behind one that strays.
use mathlib.Core.Path.{refl, sym, ◌∙◌}
use mathlib.Core.List.{[], ◌∷◌}
use native.Mathlib.Omega.{arith}
use lib.Dec.{lit≤}
use Rattle.std.specs.Prelude.{Ok, Err}
use Rattle.path.proofs.Points.{both_told, few_told}
use Rattle.path.proofs.Telling.{handed_on}
use Rattle.path.proofs.View.rule_two.Goals as goal

pub returns-in_err-rule_point : goal.returns-in_err-rule_point
returns-in_err-rule_point c =
    handed_on _ _ c.from_residual.ensures.1 ∙ both_told _ _ (_ ∷ []) (_ ∷ []) (Err _) _ (sym c.rule_point.ensures ∙ c.in_err-rule_point.was) refl

pub returns-in_err-rule_point-2 : goal.returns-in_err-rule_point-2
returns-in_err-rule_point-2 c =
    handed_on _ _ c.from_residual-in_err-rule_point-2.ensures.1
    ∙ both_told _ _ (_ ∷ []) (_ ∷ []) (Ok _) (Err _) (sym c.rule_point.ensures ∙ c.in_ok-rule_point.was) (sym c.rule_point-2.ensures ∙ c.in_err-rule_point-2.was)

pub overflow_add-result : goal.overflow_add-result
overflow_add-result c =
    omega (arith, few_told _ _ (_ ∷ []) (_ ∷ []) _ _ (lit≤ tt) (lit≤ tt) (sym c.rule_point.ensures ∙ c.in_ok-rule_point.was) (sym c.rule_point-2.ensures ∙ c.in_ok-rule_point-2.was))

pub returns : goal.returns
returns c =
    both_told _ _ (_ ∷ []) (_ ∷ []) (Ok _) (Ok _) (sym c.rule_point.ensures ∙ c.in_ok-rule_point.was) (sym c.rule_point-2.ensures ∙ c.in_ok-rule_point-2.was)
