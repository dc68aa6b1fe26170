-- The transform, the offset and the point rule, one after the other; there is no spot of a point whose x strays.
use mathlib.Core.Path.{sym, ap, ◌∙◌}
use Rattle.geometry.specs.declared.Point.{Point}
use Rattle.fixed.specs.Fixed.{to_fixed, spot_of, spot_from}
use Rattle.path.specs.Reading.{spot_at}
use Rattle.path.proofs.View.spot.Goals as goal

pub returns-in_err-to_fixed : goal.returns-in_err-to_fixed
unfolding spot_at spot_of spot_from
returns-in_err-to_fixed c =
    rw (c.from_residual.ensures, sym (c.to_fixed.ensures ∙ ap (λ (p : Point). to_fixed p.x) c.place.ensures) ∙ c.in_err-to_fixed.was)

pub returns : goal.returns
unfolding spot_at
returns c = rw (c.from_point.ensures, c.place-2.ensures)
