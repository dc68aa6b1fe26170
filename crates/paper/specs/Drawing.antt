-- docs/RULES.md, "When a label is turned away": 13; "What a call leaves"; "In bands".
use Rattle.std.specs.Prelude.{ℕ, zero, suc, ◌+◌, ◌-◌, ◌/◌, min, max, Bool, true, false, ◌||◌, List, [], ◌∷◌, ◌++◌, length, replicate, ltb, Option, None, Some}
use Rattle.command.specs.declared.Command.{Command}
use Rattle.label.specs.declared.Label.{Label}
use Rattle.label.specs.declared.Numbers.{Numbers}
use Rattle.paper.specs.Steps.{most_bands}
use Rattle.paper.specs.Floats.{cut_in}
use Rattle.paper.specs.TurnedAway.{rows, size_fault, Read, path, faulty, read_list}
use Rattle.paper.specs.Cells.{Pair, cells_of, cells_by, distinct}
use Rattle.paper.specs.Bytes.{painted}

pub record Outcome : Type 0 where  -- what a call leaves: its answer, and mask and workspace after it
  pub answer : Numbers
  pub mask : List ℕ
  pub words : List ℕ

abbrev pub left : Numbers → List ℕ → List ℕ → Outcome
left answer mask words = record { answer = answer; mask = mask; words = words }

abbrev pub numbers : ℕ → ℕ → ℕ → ℕ → ℕ → Numbers
numbers number index records cells cut = record {
  number = number;
  index = index;
  records = records;
  cells = cells;
  cut = cut;
}

abbrev pub refused : ℕ → ℕ → List ℕ → List ℕ → Outcome  -- number and index, and no counts
refused number index mask words = left (numbers number index 0 0 0) mask words

-- 0, and how many records, cells and cut coordinates there are
abbrev pub accepted : ℕ → ℕ → ℕ → List ℕ → List ℕ → Outcome
accepted records cells cut mask words = left (numbers 0 0 records cells cut) mask words

abbrev pub pool : Label → ℕ → ℕ  -- how many places a workspace of so many words has: a word a row, then four a place
pool l words = min 16384 ((words - rows l) / 4)

abbrev pub wiped : List ℕ → List ℕ  -- as many words, all zero
wiped words = replicate (length words) 0

abbrev pub full : ℕ → List Command → Label → Bool  -- a band stores into more places than its pool has
full words cs band = ltb (pool band words) (distinct (cells_of band cs))

unfoldable pub one_full : ℕ → List Command → List Label → Bool  -- one of these bands does
one_full words cs [] = false
one_full words cs (band ∷ bands) = full words cs band || one_full words cs bands

-- how many of the lists, from the front, fit into so many places, each with all before it
unfoldable pub fitting : ℕ → List Pair → List (List Pair) → ℕ
fitting room before [] = 0
fitting room before (ds ∷ rest) =
    elim (ltb room (distinct (before ++ ds))) [ true ↦ 0 | false ↦ suc (fitting room (before ++ ds) rest) ]

abbrev pub record_of : ℕ → List Command → Label → ℕ  -- the record that 13 names: in that band, those before it fit
record_of words cs band = fitting (pool band words) [] (cells_by band cs)

unfoldable pub first_of : ℕ → List Command → List Label → ℕ  -- the one that the first full band names
first_of words cs [] = 0
first_of words cs (band ∷ bands) =
    elim (full words cs band) [ true ↦ record_of words cs band | false ↦ first_of words cs bands ]

abbrev pub thirteen : ℕ → List Command → List Label → Option ℕ  -- 13 with its record, where a band is full
thirteen words cs bands = elim (one_full words cs bands) [ true ↦ Some (first_of words cs bands) | false ↦ None ]

-- the path's cells painted, or 13, its record and the mask as it was; the words are wiped either way
unfoldable pub inked : Option ℕ → Label → List Command → List ℕ → List ℕ → Outcome
inked (Some index) l cs mask words = refused 13 index mask (wiped words)
inked None l cs mask words =
    let cut = cut_in l.transform l.offset cs in
    accepted (length cs) (distinct (cells_of l cs)) cut (painted l (cells_of l cs) 0 mask) (wiped words)

-- a list as it was read: every refusal but 13 leaves mask and words as they were
unfoldable pub draw_read : List Label → Label → Read → List ℕ → List ℕ → Outcome
draw_read bands l (faulty number index) mask words = refused number index mask words
draw_read bands l (path cs) mask words = inked (thirteen (length words) cs bands) l cs mask words

-- the label l drawn in these bands: 1 to 5, then 6 to 12 and 18, and only then 13
unfoldable pub draw_in : List Label → Label → List ℕ → List ℕ → List ℕ → Outcome
draw_in bands l s mask words =
    elim (size_fault l (length mask) (length words)) [
      | zero ↦ draw_read bands l (read_list l.transform l.offset s) mask words
      | suc fault ↦ refused (suc fault) 0 mask words
    ]

unfoldable pub draw : Label → List ℕ → List ℕ → List ℕ → Outcome  -- drawn at once: the label is the one band
draw l = draw_in (l ∷ []) l

-- ---- in bands
abbrev pub band : Label → ℕ → ℕ → Label  -- the rows of a label from first up to end
band l first end = record {
  transform = l.transform;
  offset = l.offset;
  fill = l.fill;
  up = l.up;
  width = l.width;
  height = l.height;
  pitch = l.pitch;
  first = first;
  end = end;
}

-- from row `from` to the label's end, `step` rows at a time, of which the last band may have fewer
unfoldable pub bands_from : ℕ → ℕ → Label → ℕ → List Label
bands_from zero step l from = []
bands_from (suc n) step l from =
    let to = min l.end (from + step) in
    elim (ltb from l.end) [ true ↦ band l from to ∷ bands_from n step l to | false ↦ [] ]

unfoldable pub draw_in_bands : ℕ → Label → List ℕ → List ℕ → List ℕ → Outcome  -- a step of 0 counts as 1
draw_in_bands step l = draw_in (bands_from (most_bands l) (max 1 step) l l.first) l
