-- A spot inside is within the point rule, and so within reach; the corner is.
use mathlib.Core.Path.{sym, ◌∙◌}
use Rattle.path.proofs.Points.{fixed_in, fixed_out, spot_near, corner_near}
use Rattle.path.proofs.View.fixed.Goals as goal

pub returns-in-Some : goal.returns-in-Some
returns-in-Some c =
    let a = c.args in
    let e = sym c.spot.ensures ∙ c.in-Some.is in
    (fixed_in a.self.transform a.self.offset a.p _ e, spot_near a.self.transform a.self.offset a.p _ e)

pub returns-in-None : goal.returns-in-None
returns-in-None c =
    let a = c.args in
    (fixed_out a.self.transform a.self.offset a.p (sym c.spot.ensures ∙ c.in-None.is), corner_near)
