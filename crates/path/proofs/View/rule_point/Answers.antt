-- A spot is the case of the point rule that passes, and none the one that refuses.
use mathlib.Core.Path.{sym, ap, ◌∙◌}
use Rattle.std.specs.Prelude.{Err}
use Rattle.std.specs.Result.{result_ok}
use Rattle.path.proofs.Telling.{same_err, handed_on}
use Rattle.path.proofs.Points.{point_passes, point_strays}
use Rattle.path.proofs.View.rule_point.Goals as goal

pub returns : goal.returns
returns c =
    point_passes _ _ _ _ (sym c.spot.ensures ∙ c.ok_or.ensures.ok_part ∙ ap result_ok c.in_ok-spot.was)

pub returns-in_err-spot : goal.returns-in_err-spot
returns-in_err-spot c =
    let none = c.ok_or.ensures.ok_part ∙ ap result_ok c.in_err-spot.was in
    let outside = same_err (sym c.in_err-spot.was ∙ rw none at c.ok_or.ensures.value) in
    handed_on _ _ c.from_residual.ensures.1 ∙ ap Err outside ∙ point_strays _ _ _ (sym c.spot.ensures ∙ none)
