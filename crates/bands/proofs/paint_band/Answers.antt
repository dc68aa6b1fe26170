-- What was poured is swept into the band's part of the mask.
use Rattle.bands.proofs.Painting.{band_swept}
use Rattle.bands.proofs.paint_band.Goals as goal

pub returns-in-Ok : goal.returns-in-Ok
returns-in-Ok c =
    band_swept c.args.b.label c.args.b.sized _ _ _ _ _ _ c.in-Ok.is c.pour.ensures c.sweep.ensures
