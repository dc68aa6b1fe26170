-- What the inner functions of a drawing ask and promise.
use Rattle.std.specs.Prelude.{ℕ, ◌+◌, ◌*◌, ◌-◌, ◌^◌, ◌≤◌, ◌<◌, ◌≡◌, List, length, Option, ⊤, Result, Ok, Err}
use Rattle.storage.specs.Cells.{Holds}
use Rattle.command.specs.declared.Command.{Command}
use Rattle.path.specs.declared.Overfull.{Overfull}
use Rattle.path.specs.declared.Records.{Records}
use Rattle.path.specs.declared.Refusal.{Refusal}
use Rattle.path.specs.declared.Refusal.TheVariants.{Full}
use Rattle.path.specs.declared.Refused.{Refused}
use Rattle.path.specs.Reading.{path, cuts_in, read_list, judged_of}
use Rattle.path.specs.Refusals.{refused_at}
use Rattle.path.specs.Pouring as pouring
use Rattle.label.specs.declared.Label.{Label}
use Rattle.label.specs.Checks.{most_pixels, most_pitch, rows, checked_of}
use Rattle.label.specs.Draw.{Answer, drawn_with, Outcome, log_of, inked, draw_of}

-- a label that passes 1 to 3
pub record Sized (l : Label) : Type 0 where
  pub narrow : l.width ≤ most_pixels
  pub low : l.height ≤ most_pixels
  pub ordered : l.first ≤ l.end
  pub inside : l.end ≤ l.height
  pub pitched : l.width ≤ l.pitch
  pub near : l.pitch ≤ most_pitch

-- a mask and a workspace that pass 4 and 5
pub record Lent (l : Label) (mask words : ℕ) : Type 0 where
  pub lines : 0 < rows l → l.pitch * (rows l - 1) + l.width ≤ mask
  pub heads : rows l ≤ words

-- what 1 to 12 and 18 answer, for a mask and a workspace of so many bytes and words
abbrev pub unless_turned : Result ⊤ Refusal → Result Records Refused → Result Records Refused
unless_turned (Ok u) j = j
unless_turned (Err w) j = refused_at w 0

abbrev pub accepted_of : Label → List ℕ → ℕ → ℕ → Result Records Refused
accepted_of l s mask words = unless_turned (checked_of l (length s) mask words) (judged_of l.transform l.offset (read_list l.transform l.offset s))

-- what is told of an accepted list
abbrev pub most_told : ℕ
most_told = 2 ^ 32 - 1

abbrev pub told_of : Result ℕ Overfull → Records → Answer
told_of (Ok n) r = drawn_with r.count n r.cut
told_of (Err full) r = refused_at Full full.«record»

-- of an accepted list: what its strokes store is in the words, or is too much for the pool
abbrev pub Poured : Label → List ℕ → List ℕ → List ℕ → Result ℕ Overfull → Type 0
Poured l s before after r = pouring.Poured l.transform l.offset l.width l.first l.end s before after r

-- of an accepted list of so many records and cut coordinates: the outcome is the rule's
pub record Inked (full : List Command → Option ℕ) (l : Label) (records cut : ℕ) (s mask words : List ℕ) (o : Outcome) : Type 0 where
  pub rule : (cs : List Command) → read_list l.transform l.offset s ≡ path cs → records ≡ length cs → cut ≡ cuts_in l.transform l.offset cs
      → o ≡ inked (full cs) l mask words cs

-- `draw`'s answer for a mask of that length; where it is accepted the words hold what the strokes store, and a refusal
-- leaves the words that `draw` leaves
pub record Celled (l : Label) (s : List ℕ) (mask : ℕ) (before after : List ℕ) (r : Answer) : Type 0 where
  pub told : (m : List ℕ) → length m ≡ mask → r ≡ (draw_of l s m before).answer
  pub held : (records n cut : ℕ) → r ≡ drawn_with records n cut → (cs : List Command) → read_list l.transform l.offset s ≡ path cs
      → Holds after (rows l) l.width n (log_of l cs)
  pub left : (why : Refusal) (index : ℕ) → r ≡ refused_at why index → (m : List ℕ) → length m ≡ mask
      → after ≡ (draw_of l s m before).words
