-- Each arm rules the points of its command, a curve's one behind the other.
use mathlib.Core.Path.{refl, sym, ◌∙◌}
use mathlib.Core.List.{[], ◌∷◌}
use native.Mathlib.Omega.{arith}
use lib.Dec.{lit≤}
use Rattle.std.specs.Prelude.{Ok, Err}
use Rattle.path.proofs.Points.{no_points, both_told, few_told}
use Rattle.path.proofs.Telling.{handed_on}
use Rattle.path.proofs.View.rule_points.Goals as goal

pub returns-in_err-rule_point-in-CurveTo : goal.returns-in_err-rule_point-in-CurveTo
returns-in_err-rule_point-in-CurveTo c =
    rw c.in-CurveTo.is
    (handed_on _ _ c.from_residual.ensures.1 ∙ both_told _ _ (_ ∷ []) (_ ∷ _ ∷ []) (Err _) _ (sym c.rule_point-in-CurveTo.ensures ∙ c.in_err-rule_point-in-CurveTo.was) refl)

pub returns-in_err-rule_two-in-CurveTo : goal.returns-in_err-rule_two-in-CurveTo
returns-in_err-rule_two-in-CurveTo c =
    rw c.in-CurveTo.is
    (handed_on _ _ c.from_residual-in_err-rule_two-in-CurveTo.ensures.1
    ∙ both_told _ _ (_ ∷ []) (_ ∷ _ ∷ []) (Ok _) (Err _) (sym c.rule_point-in-CurveTo.ensures ∙ c.in_ok-rule_point-in-CurveTo.was) (sym c.rule_two-in-CurveTo.ensures ∙ c.in_err-rule_two-in-CurveTo.was))

pub overflow_add-result : goal.overflow_add-result
overflow_add-result c =
    omega (arith, few_told _ _ (_ ∷ []) (_ ∷ _ ∷ []) _ _ (lit≤ tt) (lit≤ tt) (sym c.rule_point-in-CurveTo.ensures ∙ c.in_ok-rule_point-in-CurveTo.was) (sym c.rule_two-in-CurveTo.ensures ∙ c.in_ok-rule_two-in-CurveTo.was))

pub returns-in_ok-rule_two-in-CurveTo : goal.returns-in_ok-rule_two-in-CurveTo
returns-in_ok-rule_two-in-CurveTo c =
    rw c.in-CurveTo.is
    (both_told _ _ (_ ∷ []) (_ ∷ _ ∷ []) (Ok _) (Ok _) (sym c.rule_point-in-CurveTo.ensures ∙ c.in_ok-rule_point-in-CurveTo.was) (sym c.rule_two-in-CurveTo.ensures ∙ c.in_ok-rule_two-in-CurveTo.was))

pub returns-in-Close : goal.returns-in-Close
returns-in-Close c = rw c.in-Close.is (no_points _ _)
