-- What the functions of a drawing in bands promise one another.
use Rattle.std.specs.Prelude.{ℕ, ◌-◌, ◌*◌, ◌≤◌, ◌≡◌, true, false, cond, List, length, Result, Ok, Err}
use Rattle.storage.specs.Deposits.{distinct}
use Rattle.storage.specs.Answers.{most_cells}
use Rattle.command.specs.declared.Command.{Command}
use Rattle.path.specs.declared.Overfull.{Overfull}
use Rattle.path.specs.Storing.{overfull}
use Rattle.path.specs.Reading.{path, read_list}
use Rattle.label.specs.declared.Label.{Label}
use Rattle.label.specs.Checks.{most_pixels}
use Rattle.label.specs.Draw.{pool_of, painted_of, log_of}
use Rattle.bands.specs.InBands.{too_many_in_band, room_in_band}

-- the line of the label's mask on which the band [first, end) begins
abbrev pub line_of : Label → ℕ → ℕ → ℕ
line_of l first end = cond l.up (l.end - end) (first - l.first)

-- the list is this path
abbrev pub Reads : Label → List ℕ → List Command → Type 0
Reads l s cs = read_list l.transform l.offset s ≡ path cs

-- of an accepted list: full exactly when a band has too many, with the record; else the count is that of the label's
-- distinct places
pub record Counted (l : Label) (step : ℕ) (s : List ℕ) (words : ℕ) (r : Result ℕ Overfull) : Type 0 where
  pub full : (i : ℕ) → r ≡ Err (overfull i) → (cs : List Command) → Reads l s cs → too_many_in_band step l words cs ≡ true
  pub named : (i : ℕ) → r ≡ Err (overfull i) → (cs : List Command) → Reads l s cs → i ≡ room_in_band step l words cs
  pub early : (i : ℕ) → r ≡ Err (overfull i) → i ≤ length s
  pub fit : (n : ℕ) → r ≡ Ok n → (cs : List Command) → Reads l s cs → too_many_in_band step l words cs ≡ false
  pub counted : (n : ℕ) → r ≡ Ok n → (cs : List Command) → Reads l s cs → n ≡ distinct (log_of l cs)
  pub few : (n : ℕ) → r ≡ Ok n → n ≤ most_cells * most_pixels

-- of an accepted list that fits: the mask is painted
pub record BandPainted (b : Label) (s : List ℕ) (words : ℕ) (before after : List ℕ) : Type 0 where
  pub painted : (cs : List Command) → Reads b s cs → distinct (log_of b cs) ≤ pool_of b words → after ≡ painted_of b (log_of b cs) before

pub record Painted (l : Label) (step : ℕ) (s : List ℕ) (words : ℕ) (before after : List ℕ) : Type 0 where
  pub painted : (cs : List Command) → Reads l s cs → too_many_in_band step l words cs ≡ false → after ≡ painted_of l (log_of l cs) before
