-- A label drawn in bands.
use Rattle.std.specs.Prelude.{ℕ, ◌+◌, ◌*◌, ◌-◌, ◌≤◌, ◌<◌, ◌≡◌, Bool, List, [], ◌∷◌, length, get_or}
use Rattle.command.specs.declared.Command.{Command}
use Rattle.sweep.specs.Masks.{row_at}
use Rattle.sweep.specs.Pixels.{pixel}
use Rattle.path.specs.Reading.{path, read_list}
use Rattle.label.specs.declared.Label.{Label}
use Rattle.label.specs.Checks.{most_pitch, rows}
use Rattle.label.specs.Draw.{Answer, drawn_with, Outcome, numbers_of, log_of, draw_of}
use Rattle.claims.specs.OldContents.{spot_of}

-- the band [first, end) of a label, all of which is [0, height)
abbrev pub band_of : Label → ℕ → ℕ → Label
band_of l first end = record {
  transform = l.transform;
  offset = l.offset;
  fill = l.fill;
  up = l.up;
  width = l.width;
  height = l.height;
  pitch = l.pitch;
  first = first;
  end = end;
}

abbrev pub whole_of : Label → Label
whole_of l = band_of l 0 l.height

-- a label laid out in another way: up or down, and with another pitch
abbrev pub laid : Label → Bool → ℕ → Label
laid l up pitch = record {
  transform = l.transform;
  offset = l.offset;
  fill = l.fill;
  up = up;
  width = l.width;
  height = l.height;
  pitch = pitch;
  first = l.first;
  end = l.end;
}

-- the mask's byte of path row y and column x
abbrev pub byte_for : Label → ℕ → ℕ → List ℕ → ℕ
byte_for l y x mask = get_or mask (spot_of l (row_at l.up (rows l) (y - l.first)) x) 0

-- a pitch that is no refusal, and a mask that is long enough
pub record Roomy (l : Label) (mask : List ℕ) : Type 0 where
  pub pitched : l.width ≤ l.pitch
  pub near : l.pitch ≤ most_pitch
  pub lines : 0 < rows l → l.pitch * (rows l - 1) + l.width ≤ length mask

-- of a band of a list and the whole label, as they are drawn: the band is accepted with as many records and as many cut coordinates; each pixel of its rows
-- has the byte that it has in the whole, and that is the rule's for the whole
pub record Agrees (l band : Label) (s : List ℕ) (records cut : ℕ) (part whole : Outcome) : Type 0 where
  pub cells : ℕ
  pub accepted : part.answer ≡ drawn_with records cells cut
  pub pixels : (y x : ℕ) → band.first ≤ y → y < band.end → x < l.width → byte_for band y x part.mask ≡ byte_for (whole_of l) y x whole.mask
  pub ruled : (cs : List Command) → read_list l.transform l.offset s ≡ path cs → (y x : ℕ) → band.first ≤ y → y < band.end → x < l.width
      → byte_for band y x part.mask ≡ pixel l.fill (log_of (whole_of l) cs) y x

-- ---- cuts
-- where a band ends, how it is laid out, and the mask and the workspace that it is drawn with
pub record Piece : Type 0 where
  pub end : ℕ
  pub up : Bool
  pub pitch : ℕ
  pub mask : List ℕ
  pub words : List ℕ

abbrev pub piece_of : Label → ℕ → Piece → Label
piece_of l from p = band_of (laid l p.up p.pitch) from p.end

-- cuts from `from` to the height, with masks that are long enough and workspaces of at least n words
pub data Cuts (l : Label) (n : ℕ) : ℕ → List Piece → Type 0 where
  done : {from : ℕ} → from ≡ l.height → Cuts l n from []
  cut : {from : ℕ} {p : Piece} {ps : List Piece} → from ≤ p.end → Roomy (piece_of l from p) p.mask → n ≤ length p.words → Cuts l n p.end ps → Cuts l n from (p ∷ ps)

abbrev pub cells_of : Answer → ℕ
cells_of a = (numbers_of a).cells

-- the cells of the bands, together
unfoldable pub cells_over : Label → List ℕ → ℕ → List Piece → ℕ
unfolding draw_of
cells_over l s from [] = 0
cells_over l s from (p ∷ ps) = cells_of (draw_of (piece_of l from p) s p.mask p.words).answer + cells_over l s p.end ps
