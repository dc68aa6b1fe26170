-- What is asked of drawing: three demands, each a type. They speak of the rules of this crate, of which the calls
-- promise the values for whatever they are given. proofs/Demand1.antt, Demand2.antt and Demand3.antt prove them;
-- proofs/Promised.antt takes 1 and 2 to the promises of drawing, and by proofs/OneOutcome.antt no two outcomes satisfy
-- a promise.
use Rattle.std.specs.Prelude.{ℕ, ◌+◌, ◌-◌, ◌*◌, ◌≤◌, ◌<◌, min, max, ◌≡◌, true, false, cond, ◌&&◌, ◌↔◌, ◌⊎◌, length, get_or, take, pos, Float, Option, None, Some}
use mathlib.Core.List.{List, [], ◌∷◌, flatten}
use Rattle.std.specs.Float.{nan, inf, fin}
use Rattle.std.specs.Float.Ieee.{up, down}
use Rattle.geometry.specs.declared.Point.{Point}
use Rattle.geometry.specs.declared.Transform.{Transform}
use Rattle.geometry.specs.declared.Origin.{Origin}
use Rattle.command.specs.declared.Command.{Command}
use Rattle.label.specs.declared.Label.{Label}
use Rattle.paper.specs.Floats.{shifted, points_in, cut_in, passes}
use Rattle.paper.specs.TurnedAway.{rows, most_pixels, size_fault, after_close, draws, path, faulty, read_list}
use Rattle.paper.specs.Cells.{cells_of, cells_by, distinct}
use Rattle.paper.specs.Bytes.{value, byte_of}
use Rattle.paper.specs.Drawing.{Outcome, pool, wiped, draw, band, draw_in_bands}
use Rattle.paper.specs.Placing.{origin, box_of, boxed, bounds, around, unlaid, placement}

abbrev pub Drawing : Type 0  -- a label, a list, a mask and a workspace, and what is left of them
Drawing = Label → List ℕ → List ℕ → List ℕ → Outcome

abbrev pub number : Outcome → ℕ  -- 0, or the number of a refusal
number o = o.answer.number

abbrev pub In : Label → ℕ → ℕ → Type 0  -- the pixel in path row y and column x is one of the label's band
In l y x = (l.first ≤ y) × (y < l.end) × (x < l.width)

-- where the mask has its byte: y − first lines from the top, or from the bottom when up
abbrev pub place : Label → ℕ → ℕ → ℕ
place l y x = l.pitch * cond l.up (l.end - 1 - y) (y - l.first) + x

-- ---- DEMAND 1: no call fails to answer, whatever it is lent; a refusal comes exactly when the rules have it, and
-- leaves the mask untouched; a workspace carries nothing from one label to the next

-- what a call leaves, o, of the label l, the list s, the mask and the words. `Full cs` says that the path cs stores
-- into more places than the pool has, and `Out cs i` that its record i is the first for which there is no room
pub record Answered (Full : List Command → Type 0) (Out : List Command → ℕ → Type 0) (l : Label) (s mask words : List ℕ)
    (o : Outcome) : Type 0 where
  pub answers : (number o ≤ 13) ⊎ (number o ≡ 18)
  -- 1 to 5: what the sizes alone say
  pub sizes : (n : ℕ) → 1 ≤ n → n ≤ 5 → number o ≡ n ↔ size_fault l (length mask) (length words) ≡ n
  -- 6 to 12 and 18, with the record's index: the sizes are right, and what the list is read as says so
  pub records : (n i : ℕ) → 6 ≤ n → ¬ (n ≡ 13)
      → (number o ≡ n) × (o.answer.index ≡ i)
      ↔ (size_fault l (length mask) (length words) ≡ 0) × (read_list l.transform l.offset s ≡ faulty n i)
  -- 13: the sizes are right, the list is a path, and it is too much for the pool
  pub thirteen : number o ≡ 13
      ↔ (cs : List Command) × (size_fault l (length mask) (length words) ≡ 0)
      × (read_list l.transform l.offset s ≡ path cs) × Full cs
  -- its index is that record's
  pub ran_out : (cs : List Command) (i : ℕ) → number o ≡ 13 → read_list l.transform l.offset s ≡ path cs
      → o.answer.index ≡ i ↔ Out cs i
  -- 0: the sizes are right, the list is a path, and it is not too much
  pub accepted : number o ≡ 0
      ↔ (cs : List Command) × (size_fault l (length mask) (length words) ≡ 0)
      × (read_list l.transform l.offset s ≡ path cs) × ¬ Full cs
  -- the records, the distinct places that were stored into, and the coordinates that were cut
  pub counts : (cs : List Command) → number o ≡ 0 → read_list l.transform l.offset s ≡ path cs
      → (o.answer.records ≡ length cs) × (o.answer.cells ≡ distinct (cells_of l cs))
      × (o.answer.cut ≡ cut_in l.transform l.offset cs)
  pub no_counts : 0 < number o → (o.answer.records ≡ 0) × (o.answer.cells ≡ 0) × (o.answer.cut ≡ 0)
  -- 8 to 13 and 18 alone are the fault of a record
  pub no_index : number o < 8 → o.answer.index ≡ 0
  pub mask_kept : 0 < number o → o.mask ≡ mask
  pub words_kept : 0 < number o → ¬ (number o ≡ 13) → o.words ≡ words
  pub words_wiped : (number o ≡ 0) ⊎ (number o ≡ 13) → o.words ≡ wiped words

pub record EveryCall (drawing : Drawing) (Full : Label → ℕ → List Command → Type 0)
    (Out : Label → ℕ → List Command → ℕ → Type 0) : Type 0 where
  pub answered : (l : Label) (s mask words : List ℕ)
      → Answered (Full l (length words)) (Out l (length words)) l s mask words (drawing l s mask words)
  -- a workspace as the last label left it does as well as one in which that was not drawn
  pub next_label : (l last : Label) (s s' mask mask' words : List ℕ)
      → let used = (drawing last s' mask' words).words in
      ((drawing l s mask used).answer ≡ (drawing l s mask words).answer)
      × ((drawing l s mask used).mask ≡ (drawing l s mask words).mask)
  -- as many words of any other contents do not show
  pub old_words : (l : Label) (s mask words words' : List ℕ) → length words ≡ length words'
      → let o = drawing l s mask words in
      let o' = drawing l s mask words' in
      (o.answer ≡ o'.answer) × (o.mask ≡ o'.mask)
      × ((number o ≡ 0) ⊎ (number o ≡ 13) → o.words ≡ o'.words)
  -- nor do as many bytes of another mask, in the answer, the words and the pixels
  pub old_mask : (l : Label) (s mask mask' words : List ℕ) → length mask ≡ length mask'
      → let o = drawing l s mask words in
      let o' = drawing l s mask' words in
      (o.answer ≡ o'.answer) × (o.words ≡ o'.words)
      × ((y x : ℕ) → number o ≡ 0 → In l y x → get_or o.mask (place l y x) 0 ≡ get_or o'.mask (place l y x) 0)

-- no command of a path, behind the command `prior`, draws directly after Close
unfoldable pub Apart : Option Command → List Command → Type 0
Apart prior [] = Unit {0}
Apart prior (c ∷ cs) = ((after_close prior && draws c) ≡ false) × Apart (Some c) cs

abbrev pub TooMany : Label → ℕ → List Command → Type 0  -- drawn at once, with so many words
TooMany l words cs = pool l words < distinct (cells_of l cs)

-- in bands of `step` rows, of which 0 counts as 1: too many for the k-th of them, for a k from 0 on. The last band ends
-- with the label
abbrev pub OneTooMany : ℕ → Label → ℕ → List Command → Type 0
OneTooMany step l words cs =
    (k : ℕ) × (l.first + k * max 1 step < l.end)
    × TooMany (band l (l.first + k * max 1 step) (min l.end (l.first + (k + 1) * max 1 step))) words cs

abbrev pub places_of : Label → List Command → ℕ → ℕ  -- how many places the first n records store into
places_of l cs n = distinct (flatten (take n (cells_by l cs)))

-- the records before record i fit into the pool, and with it they do not. The end counts as the record behind the last
abbrev pub RunsOut : Label → ℕ → List Command → ℕ → Type 0
RunsOut l words cs i =
    (i ≤ length cs) × (places_of l cs i ≤ pool l words) × (pool l words < places_of l cs (i + 1))

-- in bands: record i does so in the k-th of them, drawn alone, and none before it has too many
abbrev pub FirstRunsOut : ℕ → Label → ℕ → List Command → ℕ → Type 0
FirstRunsOut step l words cs i =
    let own : ℕ → Label = λ k. band l (l.first + k * max 1 step) (min l.end (l.first + (k + 1) * max 1 step)) in
    (k : ℕ) × (l.first + k * max 1 step < l.end) × ((j : ℕ) → j < k → ¬ TooMany (own j) words cs)
    × RunsOut (own k) words cs i

pub record Demand1 : Type 0 where
  pub at_once : EveryCall draw TooMany RunsOut
  pub in_bands : (step : ℕ) → EveryCall (draw_in_bands step) (OneTooMany step) (FirstRunsOut step)
  -- a record runs out of room exactly where there are too many places
  pub runs_out : (l : Label) (words : ℕ) (cs : List Command) → l.width ≤ most_pixels
      → TooMany l words cs ↔ (i : ℕ) × RunsOut l words cs i
  -- what is read as a path has no drawing after Close
  pub apart : (t : Transform) (o : Point) (s : List ℕ) (cs : List Command) → read_list t o s ≡ path cs → Apart None cs
  -- bounds and placements know 6 to 12 and 18 alone, as the list is read
  pub boxes : (t : Transform) (s : List ℕ) (n i : ℕ) → 1 ≤ n
      → ((bounds t s).number ≡ n) × ((bounds t s).index ≡ i) ↔ read_list t origin s ≡ faulty n i
  -- refused, they are all 0
  pub no_box : (t : Transform) (s : List ℕ) → 0 < (bounds t s).number
      → bounds t s ≡ boxed (bounds t s).number (bounds t s).index (record { min = origin; max = origin })
  -- of an empty list the offset is tested
  pub places : (g : Origin) (t : Transform) (o : Point) (s : List ℕ) (n i : ℕ) → 1 ≤ n
      → ((placement g t o s).number ≡ n) × ((placement g t o s).index ≡ i)
      ↔ (read_list t o s ≡ faulty n i) ⊎ ((read_list t o s ≡ path []) × (passes o ≡ false) × (n ≡ 12) × (i ≡ 0))
  pub no_place : (g : Origin) (t : Transform) (o : Point) (s : List ℕ) → 0 < (placement g t o s).number
      → placement g t o s ≡ unlaid (placement g t o s).number (placement g t o s).index

-- ---- DEMAND 2: what is accepted is drawn and placed as the rules have it

-- the mask before and after the path cs was drawn
pub record Pictured (l : Label) (cs : List Command) (mask after : List ℕ) : Type 0 where
  pub long : length after ≡ length mask
  -- there is a byte for each pixel of the band
  pub inside : (y x : ℕ) → In l y x → place l y x < length mask
  -- it is the byte of the pixel's v, by the cells that the path stores
  pub pixels : (y x : ℕ) → In l y x
      → get_or after (place l y x) 0 ≡ byte_of l.fill (value (cells_of l cs) (pos y) (pos x))
  -- every other byte is as it was
  pub others : (i : ℕ) → i < length mask → ((y x : ℕ) → In l y x → ¬ (place l y x ≡ i))
      → get_or after i 0 ≡ get_or mask i 0

-- 256 times the float is a whole number
unfoldable pub OnGrid : Float → Type 0
OnGrid nan = ⊥
OnGrid (inf sign) = ⊥
OnGrid (fin sign m e) = (n : ℕ) × (m * up e * 256 ≡ n * down e)

pub record Demand2 : Type 0 where
  pub at_once : (l : Label) (s mask words : List ℕ) (cs : List Command)
      → number (draw l s mask words) ≡ 0 → read_list l.transform l.offset s ≡ path cs
      → Pictured l cs mask (draw l s mask words).mask
  pub in_bands : (step : ℕ) (l : Label) (s mask words : List ℕ) (cs : List Command)
      → number (draw_in_bands step l s mask words) ≡ 0 → read_list l.transform l.offset s ≡ path cs
      → Pictured l cs mask (draw_in_bands step l s mask words).mask
  -- the box of the path's points
  pub boxes : (t : Transform) (s : List ℕ) (cs : List Command) → read_list t origin s ≡ path cs
      → bounds t s ≡ boxed 0 0 (box_of (points_in t cs))
  -- a placement is laid around it, and for an empty list around (0,0)
  pub places : (g : Origin) (t : Transform) (o : Point) (s : List ℕ) (c : Command) (cs : List Command)
      → read_list t o s ≡ path (c ∷ cs)
      → placement g t o s ≡ around g o (box_of (points_in t (c ∷ cs))) (cut_in t o (c ∷ cs))
  pub nowhere : (g : Origin) (t : Transform) (o : Point) (s : List ℕ) → read_list t o s ≡ path [] → passes o ≡ true
      → placement g t o s ≡ around g o (record { min = origin; max = origin }) 0
  -- no coordinate of a path is cut exactly where each of them, times 256, is whole
  pub uncut : (t : Transform) (o : Point) (s : List ℕ) (cs : List Command) → read_list t o s ≡ path cs
      → cut_in t o cs ≡ 0
      ↔ ((i : ℕ) → i < length (points_in t cs)
      → let p = shifted o (get_or (points_in t cs) i origin) in OnGrid p.x × OnGrid p.y)

-- ---- DEMAND 3: if a whole label is accepted, so is each band of its rows by itself, and a pixel has one byte in both,
-- as has a list one count of cut coordinates; the cells of bands that make up the label are together as many as the
-- label's

abbrev pub whole : Label → Label  -- all rows of a label
whole l = band l 0 l.height

abbrev pub LongEnough : Label → List ℕ → Type 0  -- a mask with room for the band's lines
LongEnough l mask = 0 < rows l → l.pitch * (rows l - 1) + l.width ≤ length mask

-- what a band leaves, drawn alone, beside what the whole label leaves
pub record Agrees (l : Label) (first end : ℕ) (alone all : Outcome) : Type 0 where
  pub accepted : number alone ≡ 0
  pub records : alone.answer.records ≡ all.answer.records
  pub cut : alone.answer.cut ≡ all.answer.cut
  pub pixels : (y x : ℕ) → In (band l first end) y x
      → get_or alone.mask (place (band l first end) y x) 0 ≡ get_or all.mask (place (whole l) y x) 0

pub record Piece : Type 0 where  -- the row before which a band ends, and the mask and the words that it is drawn with
  pub end : ℕ
  pub mask : List ℕ
  pub words : List ℕ

-- bands that meet, from a row to the height, each with a mask that is long enough and with `words` words or more
unfoldable pub Partition : Label → ℕ → ℕ → List Piece → Type 0
Partition l words from [] = from ≡ l.height
Partition l words from (p ∷ ps) =
    (from ≤ p.end) × LongEnough (band l from p.end) p.mask × (words ≤ length p.words)
    × Partition l words p.end ps

-- the cells of each band drawn alone, added up
unfoldable pub cells_over : Label → List ℕ → ℕ → List Piece → ℕ
cells_over l s from [] = 0
cells_over l s from (p ∷ ps) =
    (draw (band l from p.end) s p.mask p.words).answer.cells + cells_over l s p.end ps

pub record Demand3 : Type 0 where
  -- the band has a mask of its own that is long enough, and a workspace of any contents with as many words or more
  pub bands : (l : Label) (s mask words : List ℕ) → number (draw (whole l) s mask words) ≡ 0
      → (first end : ℕ) (mask' words' : List ℕ) → first ≤ end → end ≤ l.height
      → LongEnough (band l first end) mask' → length words ≤ length words'
      → Agrees l first end (draw (band l first end) s mask' words') (draw (whole l) s mask words)
  pub add_up : (l : Label) (s mask words : List ℕ) → number (draw (whole l) s mask words) ≡ 0
      → (ps : List Piece) → Partition l (length words) 0 ps
      → cells_over l s 0 ps ≡ (draw (whole l) s mask words).answer.cells
  -- what is accepted at once comes out the same in bands of any step, into one mask
  pub in_bands : (step : ℕ) (l : Label) (s mask words : List ℕ) → number (draw l s mask words) ≡ 0
      → draw_in_bands step l s mask words ≡ draw l s mask words
