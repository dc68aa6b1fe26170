-- docs/RULES.md, "When a label is turned away" and "What a call leaves": the whole outcome of a drawing.
use Rattle.std.specs.Prelude.{ℕ, Bool, cond, List, [], length, replicate, ltb, Option, None, Some, ⊤, Result, Ok, Err}
use Rattle.storage.specs.Deposits.{Deposit, distinct}
use Rattle.command.specs.declared.Command.{Command}
use Rattle.pen.specs.declared.Frame.{Frame}
use Rattle.raster.specs.Path.{deposits_of}
use Rattle.sweep.specs.Masks.{mask_from}
use Rattle.path.specs.declared.Refusal.{Refusal}
use Rattle.path.specs.declared.Refusal.TheVariants.{Full}
use Rattle.path.specs.declared.Refused.{Refused}
use Rattle.path.specs.Refusals.{number_of, refused_at}
use Rattle.path.specs.Reading.{Read, refused, path, cuts_in, read_list}
use Rattle.path.specs.Strokes.{strokes_of}
use Rattle.path.specs.Storing.{stored_by, fitting}
use Rattle.path.specs.Pouring as pouring
use Rattle.label.specs.declared.Label.{Label}
use Rattle.label.specs.declared.Drawn.{Drawn}
use Rattle.label.specs.declared.Numbers.{Numbers}
use Rattle.label.specs.Checks.{rows, checked_of}

-- what a drawing answers
abbrev pub Answer : Type 0
Answer = Result Drawn Refused

-- drawn, with these counts
abbrev pub drawn_with : ℕ → ℕ → ℕ → Answer
drawn_with records cells cut = Ok (record { records = records; cells = cells; cut = cut })

-- the rules' number, index and counts of each answer
abbrev pub numbers_of : Answer → Numbers
numbers_of (Ok d) = record { number = 0; index = 0; records = d.records; cells = d.cells; cut = d.cut }
numbers_of (Err r) = record { number = number_of r.why; index = r.«record»; records = 0; cells = 0; cut = 0 }

-- the answer, and the mask and the workspace after it
pub record Outcome : Type 0 where
  pub answer : Answer
  pub mask : List ℕ
  pub words : List ℕ

abbrev pub outcome : Answer → List ℕ → List ℕ → Outcome
outcome answer mask words = record { answer = answer; mask = mask; words = words }

-- how many cells the pool has, of so many words
abbrev pub pool_of : Label → ℕ → ℕ
pool_of l words = pouring.pool_of (rows l) words

-- the drawing's edges, as cells
abbrev pub frame_of : Label → Frame
frame_of l = pouring.frame_of l.width l.first l.end

-- the mask with the pixels of the band rows painted, and nothing else
unfoldable pub painted_of : Label → List Deposit → List ℕ → List ℕ
unfolding mask_from
painted_of l log mask = mask_from l.fill log (rows l) l.width l.up l.pitch 0 mask

-- what 0 and 13 leave in the words
abbrev pub wiped : List ℕ → List ℕ
wiped words = replicate (length words) 0

-- what a list's commands store
abbrev pub log_of : Label → List Command → List Deposit
log_of l cs = deposits_of (frame_of l) (strokes_of l.transform l.offset cs)

-- 13: the distinct places of what is stored outnumber the pool
abbrev pub too_many : Label → ℕ → List Command → Bool
too_many l words cs = ltb (pool_of l words) (distinct (log_of l cs))

-- how many records, from the front, the pool has room for, the end counting as one more. 13 names the one behind these
abbrev pub room_for : Label → ℕ → List Command → ℕ
room_for l words cs = fitting (pool_of l words) [] (stored_by (frame_of l) (strokes_of l.transform l.offset cs))

-- 13 with the record that it names, where there are too many places
abbrev pub thirteen : Bool → ℕ → Option ℕ
thirteen many index = cond many (Some index) None

abbrev pub ran_out : Label → ℕ → List Command → Option ℕ
ran_out l words cs = thirteen (too_many l words cs) (room_for l words cs)

-- what an accepted list answers: the numbers of its records, of the label's cells and of the coordinates that are cut
abbrev pub drawn_as : Label → List Command → Answer
drawn_as l cs = drawn_with (length cs) (distinct (log_of l cs)) (cuts_in l.transform l.offset cs)

-- 13 leaves the mask; else these numbers, and the mask painted
unfoldable pub inked : Option ℕ → Label → List ℕ → List ℕ → List Command → Outcome
unfolding distinct deposits_of strokes_of cuts_in painted_of
inked (Some index) l mask words cs = outcome (refused_at Full index) mask (wiped words)
inked None l mask words cs = outcome (drawn_as l cs) (painted_of l (log_of l cs) mask) (wiped words)

-- a refusal by 1 to 12 or 18 changes neither mask nor words
abbrev pub turned_away : Refusal → ℕ → List ℕ → List ℕ → Outcome
turned_away why index mask words = outcome (refused_at why index) mask words

unfoldable pub drawn_from : (List Command → Option ℕ) → Label → List ℕ → List ℕ → Read → Outcome
unfolding inked
drawn_from full l mask words (refused why i) = turned_away why i mask words
drawn_from full l mask words (path cs) = inked (full cs) l mask words cs

unfoldable pub checked_draw : (List Command → Option ℕ) → Result ⊤ Refusal → Label → List ℕ → List ℕ → List ℕ → Outcome
unfolding drawn_from read_list
checked_draw full (Err why) l s mask words = turned_away why 0 mask words
checked_draw full (Ok u) l s mask words = drawn_from full l mask words (read_list l.transform l.offset s)

-- the outcome of a drawing for which `full` is rule 13, with its record
unfoldable pub draw_by : (List Command → Option ℕ) → Label → List ℕ → List ℕ → List ℕ → Outcome
unfolding checked_of checked_draw
draw_by full l s mask words = checked_draw full (checked_of l (length s) (length mask) (length words)) l s mask words

-- the outcome of a drawing: the label, the list, the mask and the workspace
unfoldable pub draw_of : Label → List ℕ → List ℕ → List ℕ → Outcome
unfolding distinct deposits_of strokes_of fitting stored_by draw_by
draw_of l s mask words = draw_by (ran_out l (length words)) l s mask words
