-- A label drawn in bands: the drawing of docs/RULES.md, but 13 is asked of each band by itself.
use Rattle.std.specs.Prelude.{ℕ, zero, suc, ◌+◌, min, max, ◌≡◌, Bool, true, false, cond, ◌||◌, List, length, ltb, Option}
use Rattle.storage.specs.Deposits.{distinct}
use Rattle.command.specs.declared.Command.{Command}
use Rattle.raster.specs.Path.{deposits_of}
use Rattle.path.specs.Strokes.{strokes_of}
use Rattle.path.specs.Storing.{stored_by, fitting}
use Rattle.label.specs.declared.Label.{Label}
use Rattle.label.specs.Checks.{rows}
use Rattle.label.specs.Draw.{drawn_with, Outcome, too_many, room_for, thirteen, draw_by}
use Rattle.claims.specs.Bands.{band_of}

-- a band's end: `step` rows on, or where the label ends
abbrev pub band_end : ℕ → ℕ → ℕ → ℕ
band_end step at end = min end (at + step)

-- 13, asked of each band from the row `at` on; there are at most as many as rows
unfoldable pub too_many_from : ℕ → ℕ → Label → ℕ → List Command → ℕ → Bool
unfolding distinct deposits_of strokes_of
too_many_from zero step l words cs at = false
too_many_from (suc n) step l words cs at =
    elim (ltb at l.end) [
      | true ↦ too_many (band_of l at (band_end step at l.end)) words cs || too_many_from n step l words cs (band_end step at l.end)
      | false ↦ false
    ]

abbrev pub too_many_in_band : ℕ → Label → ℕ → List Command → Bool
too_many_in_band step l words cs = too_many_from (rows l) step l words cs l.first

-- how many records the first of these bands that has too many has room for
unfoldable pub room_from : ℕ → ℕ → Label → ℕ → List Command → ℕ → ℕ
unfolding distinct deposits_of strokes_of fitting stored_by
room_from zero step l words cs at = 0
room_from (suc n) step l words cs at =
    let own = band_of l at (band_end step at l.end) in
    elim (ltb at l.end) [
      | true ↦ cond (too_many own words cs) (room_for own words cs) (room_from n step l words cs (band_end step at l.end))
      | false ↦ 0
    ]

abbrev pub room_in_band : ℕ → Label → ℕ → List Command → ℕ
room_in_band step l words cs = room_from (rows l) step l words cs l.first

-- 13 with the record that it names, by that band's own drawing
abbrev pub ran_out_in_band : ℕ → Label → ℕ → List Command → Option ℕ
ran_out_in_band step l words cs = thirteen (too_many_in_band step l words cs) (room_in_band step l words cs)

-- the outcome of a drawing in bands of `step` rows, of which 0 counts as 1: the label's own numbers and mask, or a refusal
unfoldable pub draw_in_bands_of : ℕ → Label → List ℕ → List ℕ → List ℕ → Outcome
unfolding too_many_from room_from draw_by
draw_in_bands_of step l s mask words = draw_by (ran_out_in_band (max 1 step) l (length words)) l s mask words

-- a label that is accepted at once is drawn as at once
pub record AsAtOnce (once o : Outcome) : Type 0 where
  pub same : (records cells cut : ℕ) → once.answer ≡ drawn_with records cells cut → o ≡ once
