-- THE THEOREM: for every label, list, mask and workspace a drawing comes out by the paper as by the rules to which the code is proved.
use Prim.Native.Nat.{ℕ, zero, suc, ◌+◌, ◌-◌, ◌*◌, ◌≤◌, max}
use mathlib.Core.Path.{◌≡◌, refl, sym, ap, ◌∙◌}
use mathlib.Core.Bool.{Bool, true, false, cond, ◌&&◌, ◌||◌}
use mathlib.Core.List.{List, [], ◌∷◌}
use borrow.Author.Tests.{ltb-false}
use lib.Dec.{ltb}
use lib.ListN.{length}
use Rattle.command.specs.declared.Command.{Command}
use Rattle.storage.specs.Deposits as held
use Rattle.std.specs.Prelude.{Option, None, Some, ⊤, Result, Ok, Err}
use Rattle.path.specs.declared.Refusal.{Refusal}
use Rattle.path.specs.declared.Refusal.TheVariants.{Size, Band, Pitch, Mask, Workspace}
use Rattle.label.specs.declared.Numbers.{Numbers}
use Rattle.sweep.specs.Masks.{mask_from}
use Rattle.path.specs.Inputs.{inputs_of}
use Rattle.path.specs.Reading as reading
use Rattle.placing.specs.Placing.{unless_faulty, read_checked}
use Rattle.label.specs.declared.Label.{Label}
use Rattle.label.specs.Checks.{sizes_of, and_then, checked_of}
use Rattle.label.specs.Draw as label
use Rattle.label.specs.Draw.{Answer, numbers_of, log_of, too_many, room_for, ran_out, drawn_from, checked_draw, draw_by, draw_of}
use Rattle.claims.specs.Bands.{band_of}
use Rattle.bands.specs.InBands.{band_end, too_many_from, room_from, ran_out_in_band, draw_in_bands_of}
use Rattle.paper.specs.Steps.{most_bands}
use Rattle.paper.specs.TurnedAway.{rows, most_pixels, size_fault, Read, read_list}
use Rattle.paper.specs.Cells.{cells_of, distinct}
use Rattle.paper.specs.Bytes.{painted}
use Rattle.paper.specs.Drawing.{Outcome, left, refused, pool, full, one_full, record_of, first_of, thirteen, inked, draw_read, draw_in, draw, band, bands_from, draw_in_bands}
use Rattle.paper.proofs.Places.{distinct_held}
use Rattle.paper.proofs.Bytes.{painted_held}
use Rattle.paper.proofs.Cuts.{cut_held}
use Rattle.paper.proofs.Marks.{AllPassed, cells_held, cells_in}
use Rattle.paper.proofs.Room.{picked, record_held}
use Rattle.paper.proofs.Reading.{numbered, list_held, PassedRead, list_passed}

-- an outcome in the paper's numbers
abbrev pub told : label.Outcome → Outcome
told o = record { answer = numbers_of o.answer; mask = o.mask; words = o.words }

-- ---- what is stored, and how much of it
count_held : (l : Label) (cs : List Command) → l.width ≤ most_pixels → AllPassed l.transform l.offset cs
    → distinct (cells_of l cs) ≡ held.distinct (log_of l cs)
count_held l cs w h = distinct_held l (cells_of l cs) w (cells_in l cs) ∙ ap held.distinct (cells_held l cs h)

paint_held : (l : Label) (mask : List ℕ) (cs : List Command) → l.width ≤ most_pixels → AllPassed l.transform l.offset cs
    → painted l (cells_of l cs) 0 mask ≡ label.painted_of l (log_of l cs) mask
unfolding label.painted_of
paint_held l mask cs w h =
    painted_held l (cells_of l cs) 0 mask w (cells_in l cs)
    ∙ ap (λ (log : List held.Deposit). mask_from l.fill log (rows l) l.width l.up l.pitch 0 mask) (cells_held l cs h)

full_held : (words : ℕ) (l : Label) (cs : List Command) → l.width ≤ most_pixels → AllPassed l.transform l.offset cs
    → full words cs l ≡ too_many l words cs
full_held words l cs w h = ap (λ (n : ℕ). ltb (pool l words) n) (count_held l cs w h)

-- 13 and its record, by a test
by_test : (t : Bool) (i : ℕ) → (elim t as (λ _. Option ℕ) [ true ↦ Some i | false ↦ None ]) ≡ label.thirteen t i
by_test true i = refl
by_test false i = refl

-- 13 is asked by both sides alike
abbrev Asked : List Label → (List Command → Option ℕ) → Label → ℕ → Type 0
Asked bands asked l words =
    (cs : List Command) → l.width ≤ most_pixels → AllPassed l.transform l.offset cs → thirteen words cs bands ≡ asked cs

module _ (bands : List Label) (asked : List Command → Option ℕ) (l : Label) (mask words : List ℕ) (same : Asked bands asked l (length words)) where
  -- ---- an accepted list
  inked_by : (t : Option ℕ) (cs : List Command) → l.width ≤ most_pixels → AllPassed l.transform l.offset cs
      → inked t l cs mask words ≡ told (label.inked t l mask words cs)
  unfolding inked label.inked
  inked_by (Some i) cs w h = refl
  inked_by None cs w h = rw (count_held l cs w h, cut_held l.transform l.offset cs, paint_held l mask cs w h)

  inked_held : (cs : List Command) → l.width ≤ most_pixels → AllPassed l.transform l.offset cs
      → inked (thirteen (length words) cs bands) l cs mask words ≡ told (label.inked (asked cs) l mask words cs)
  inked_held cs w h =
      ap (λ (t : Option ℕ). inked t l cs mask words) (same cs w h) ∙ inked_by (asked cs) cs w h

  read_drawn : (r : reading.Read) → l.width ≤ most_pixels → PassedRead l.transform l.offset (numbered r)
      → draw_read bands l (numbered r) mask words ≡ told (drawn_from asked l mask words r)
  unfolding draw_read drawn_from
  read_drawn (reading.refused why i) w h = refl
  read_drawn (reading.path cs) w h = inked_held cs w h

  -- ---- 6 and 7, then the records
  checked_is : (v : Result ⊤ Refusal) (s : List ℕ)
      → checked_draw asked v l s mask words ≡ drawn_from asked l mask words (unless_faulty v (reading.read_list l.transform l.offset s))
  unfolding checked_draw drawn_from
  checked_is (Ok u) s = refl
  checked_is (Err why) s = refl

  list_drawn : (s : List ℕ) → l.width ≤ most_pixels
      → draw_read bands l (read_list l.transform l.offset s) mask words
      ≡ told (checked_draw asked (inputs_of l.transform l.offset (length s)) l s mask words)
  unfolding read_checked
  list_drawn s w =
      let r = read_checked l.transform l.offset s in
      let e = list_held l.transform l.offset s in
      let p : PassedRead l.transform l.offset (numbered r) = rw e at (list_passed l.transform l.offset s) in
      ap (λ (z : Read). draw_read bands l z mask words) e
      ∙ read_drawn r w p
      ∙ ap told (sym (checked_is (inputs_of l.transform l.offset (length s)) s))

  -- ---- 1 to 5 first
  sizes_picked : (a b c d e : Bool) (v : Result ⊤ Refusal) (s : List ℕ) (x : Outcome)
      → (a ≡ false → x ≡ told (checked_draw asked v l s mask words))
      → (elim (cond {A = ℕ} a 1 (cond b 2 (cond c 3 (cond d 4 (cond e 5 0))))) as (λ _. Outcome) [
        | zero ↦ x
        | suc fault ↦ refused (suc fault) 0 mask words
      ])
      ≡ told (checked_draw asked
      (and_then (cond a (Err Size) (cond b (Err Band) (cond c (Err Pitch) (cond d (Err Mask) (cond e (Err Workspace) (Ok tt)))))) v) l s mask words)
  unfolding checked_draw
  sizes_picked true b c d e v s x h = refl
  sizes_picked false true c d e v s x h = refl
  sizes_picked false false true d e v s x h = refl
  sizes_picked false false false true e v s x h = refl
  sizes_picked false false false false true v s x h = refl
  sizes_picked false false false false false v s x h = h refl

  narrow : (ltb most_pixels l.width || ltb most_pixels l.height) ≡ false → l.width ≤ most_pixels
  narrow e = ltb-false most_pixels l.width (first (ltb most_pixels l.width) (ltb most_pixels l.height) e)
    where
      first : (x y : Bool) → (x || y) ≡ false → x ≡ false
      first true y e = e
      first false y e = refl

  draws_in : (s : List ℕ) → draw_in bands l s mask words ≡ told (draw_by asked l s mask words)
  unfolding draw_in draw_by checked_of sizes_of size_fault
  draws_in s = sizes_picked
      (ltb most_pixels l.width || ltb most_pixels l.height)
      (ltb l.end l.first || ltb l.height l.end)
      (ltb l.pitch l.width || ltb 65536 l.pitch)
      (ltb 0 (rows l) && ltb (length mask) (l.pitch * (rows l - 1) + l.width))
      (ltb (length words) (rows l))
      (inputs_of l.transform l.offset (length s)) s
      (draw_read bands l (read_list l.transform l.offset s) mask words)
      (λ e. list_drawn s (narrow e))

-- EVERY DRAWING
asked_once : (l : Label) (words : ℕ) → Asked (l ∷ []) (ran_out l words) l words
unfolding one_full first_of
asked_once l words cs w h =
    alone (full words cs l) (record_of words cs l) ∙ rw (full_held words l cs w h, record_held l w words cs h)
  where
    alone : (b : Bool) (i : ℕ)
        → (elim (b || false) as (λ _. Option ℕ) [ true ↦ Some (elim b [ true ↦ i | false ↦ 0 ]) | false ↦ None ]) ≡ label.thirteen b i
    alone true i = refl
    alone false i = refl

pub draws : (l : Label) (s mask words : List ℕ) → draw l s mask words ≡ told (draw_of l s mask words)
unfolding draw draw_of
draws l s mask words = draws_in (l ∷ []) (ran_out l (length words)) l mask words (asked_once l (length words)) s

-- EVERY DRAWING IN BANDS
module _ (step : ℕ) (l : Label) (words : ℕ) (cs : List Command) (w : l.width ≤ most_pixels) (h : AllPassed l.transform l.offset cs) where
  -- one band, and those behind it
  asked_band : (n from to : ℕ) (b : Bool) → one_full words cs (bands_from n step l to) ≡ too_many_from n step l words cs to
      → one_full words cs (elim b as (λ _. List Label) [ true ↦ band l from to ∷ bands_from n step l to | false ↦ [] ])
      ≡ (elim b as (λ _. Bool) [ true ↦ too_many (band_of l from to) words cs || too_many_from n step l words cs to | false ↦ false ])
  unfolding one_full
  asked_band n from to true e = rw (full_held words (band l from to) cs w h, e)
  asked_band n from to false e = refl

  asked_from : (n from : ℕ) → one_full words cs (bands_from n step l from) ≡ too_many_from n step l words cs from
  unfolding bands_from one_full too_many_from
  asked_from zero from = refl
  asked_from (suc n) from =
      let to = band_end step from l.end in
      asked_band n from to (ltb from l.end) (asked_from n to)

  -- the record that it names
  first_band : (n from to : ℕ) (b : Bool) → first_of words cs (bands_from n step l to) ≡ room_from n step l words cs to
      → first_of words cs (elim b as (λ _. List Label) [ true ↦ band l from to ∷ bands_from n step l to | false ↦ [] ])
      ≡ (elim b as (λ _. ℕ) [ true ↦ cond (too_many (band_of l from to) words cs) (room_for (band_of l from to) words cs) (room_from n step l words cs to) | false ↦ 0 ])
  unfolding first_of
  first_band n from to true e =
      picked (full words cs (band l from to)) (record_of words cs (band l from to)) (first_of words cs (bands_from n step l to))
      ∙ rw (full_held words (band l from to) cs w h, record_held (band l from to) w words cs h, e)
  first_band n from to false e = refl

  first_from : (n from : ℕ) → first_of words cs (bands_from n step l from) ≡ room_from n step l words cs from
  unfolding bands_from first_of room_from
  first_from zero from = refl
  first_from (suc n) from =
      let to = band_end step from l.end in
      first_band n from to (ltb from l.end) (first_from n to)

pub draws_in_bands : (step : ℕ) (l : Label) (s mask words : List ℕ)
    → draw_in_bands step l s mask words ≡ told (draw_in_bands_of step l s mask words)
unfolding draw_in_bands draw_in_bands_of
draws_in_bands step l s mask words =
    draws_in (bands_from (most_bands l) (max 1 step) l l.first) (ran_out_in_band (max 1 step) l (length words)) l mask words
    (λ cs w h.
    by_test (one_full (length words) cs (bands_from (most_bands l) (max 1 step) l l.first)) (first_of (length words) cs (bands_from (most_bands l) (max 1 step) l l.first))
    ∙ rw (asked_from (max 1 step) l (length words) cs w h (most_bands l) l.first, first_from (max 1 step) l (length words) cs w h (most_bands l) l.first)) s

-- what the crates below promise is what the rules say
pub call_draws : (l : Label) (s mask words : List ℕ) (a : Answer) (r : Numbers) (mask' words' : List ℕ)
    → r ≡ numbers_of a → label.outcome a mask' words' ≡ draw_of l s mask words → left r mask' words' ≡ draw l s mask words
call_draws l s mask words a r mask' words' e h = ap (λ (n : Numbers). left n mask' words') e ∙ ap told h ∙ sym (draws l s mask words)

pub call_draws_in_bands : (step : ℕ) (l : Label) (s mask words : List ℕ) (a : Answer) (r : Numbers) (mask' words' : List ℕ)
    → r ≡ numbers_of a → label.outcome a mask' words' ≡ draw_in_bands_of step l s mask words → left r mask' words' ≡ draw_in_bands step l s mask words
call_draws_in_bands step l s mask words a r mask' words' e h =
    ap (λ (n : Numbers). left n mask' words') e ∙ ap told h ∙ sym (draws_in_bands step l s mask words)
