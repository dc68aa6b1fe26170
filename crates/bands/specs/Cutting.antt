-- How the iterator over a label's bands cuts them off.
use Rattle.std.specs.Prelude.{◌≡◌, ◌<◌, ◌≤◌, Option, Some, None}
use Rattle.std.specs.NonZero.{non_zero_usize_get}
use Rattle.label.specs.declared.checked.Checked.{Checked}
use Rattle.claims.specs.Bands.{band_of}
use Rattle.bands.specs.declared.Bands.{Bands}
use Rattle.bands.specs.InBands.{band_end}

-- a band that starts at a row of the label
pub record Band (before : Bands) (band : Checked) (after : Bands) : Type 0 where
  pub left : before.at < before.whole.label.end
  pub ends : after.at ≡ band_end (non_zero_usize_get before.step) before.at before.whole.label.end
  pub is : band.label ≡ band_of before.whole.label before.at after.at
  pub whole : after.whole ≡ before.whole
  pub step : after.step ≡ before.step

-- or nothing, behind the last
abbrev pub Cut : Bands → Option Checked → Bands → Type 0
Cut s None t = s.whole.label.end ≤ s.at
Cut s (Some band) t = Band s band t
