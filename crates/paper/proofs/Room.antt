-- The record at which the room runs out: what each record stores is what all of them store, cut; as many records as fit
-- are followed by one that does not exactly where all of them are too many.
use Prim.Native.Nat.{ℕ, zero, suc, ◌+◌, ◌≤◌, ◌<◌}
use mathlib.Core.Path.{◌≡◌, refl, sym, ap, ◌∙◌}
use mathlib.Core.Bool.{Bool, true, false, cond, ◌&&◌}
use mathlib.Core.List.{List, [], ◌∷◌, ◌++◌, map, map-append, append_assoc, append-nil, flatten}
use mathlib.Core.Logic.{⊎_elim}
use native.Mathlib.Omega.{arith}
use borrow.Author.Tests.{ltb-true, ltb-false}
use lib.Dec.{ltb}
use lib.ListN.{length, take}
use lib.Seq.{take-length}
use Rattle.command.specs.declared.Command.{Command}
use Rattle.command.specs.declared.Command.TheVariants.{MoveTo, LineTo, QuadTo, CurveTo, Close}
use Rattle.float.proofs.Differences.{which}
use Rattle.storage.specs.Deposits as held
use Rattle.storage.specs.Deposits.{Deposit}
use Rattle.storage.specs.Laws.{distinct_mono}
use Rattle.path.specs.Storing as storing
use Rattle.label.specs.declared.Label.{Label}
use Rattle.label.specs.Draw.{room_for}
use Rattle.paper.specs.TurnedAway.{most_pixels}
use Rattle.paper.specs.Floats.{Spot}
use Rattle.paper.specs.Lines.{Mark, enter, give}
use Rattle.paper.specs.Numbers.{+0, ◌==ᶻ◌}
use Rattle.paper.specs.Cells.{spot_in, marks_by, Pair, pair_at, Pen, lifted, within, given, inside, counted, keep, leave, trail, pen_after, stored, corner, cells_of, stored_by, cells_by, distinct}
use Rattle.paper.specs.Drawing.{pool, fitting, record_of}
use Rattle.paper.specs.Demands.{places_of, TooMany, RunsOut}
use Rattle.paper.proofs.Cells.{held_pair}
use Rattle.paper.proofs.Places.{AllIn, both_in, EachIn, distinct_held}
use Rattle.paper.proofs.Marks.{AllPassed, cells_by_held, cells_by_in}

-- ---- the records' lists, joined
cond_append : (t : Bool) (ds ds' es : List Pair) → cond t (ds ++ es) (ds' ++ es) ≡ cond t ds ds' ++ es
cond_append true ds ds' es = refl
cond_append false ds ds' es = refl

keep_append : (l : Label) (d : Pair) (ds es : List Pair) → keep l d (ds ++ es) ≡ keep l d ds ++ es
keep_append l d ds es = cond_append (inside l d) (counted d ∷ ds) ds es

leave_append : (l : Label) (p : Pen) (ds es : List Pair) → leave l p (ds ++ es) ≡ leave l p ds ++ es
leave_append l lifted ds es = refl
leave_append l (within d) ds es =
    let none = d.cover ==ᶻ +0 && d.area ==ᶻ +0 in
    ap (cond none (ds ++ es)) (keep_append l d ds es) ∙ cond_append none ds (keep l d ds) es

trail_append : (l : Label) (p : Pen) (ms ns : List Mark) → trail l p (ms ++ ns) ≡ trail l p ms ++ trail l (pen_after p ms) ns
unfolding trail pen_after
trail_append l p [] ns = refl
trail_append l p (enter c r ∷ ms) ns =
    let q = within (pair_at c r +0 +0) in
    ap (leave l p) (trail_append l q ms ns) ∙ leave_append l p (trail l q ms) (trail l (pen_after q ms) ns)
trail_append l p (give v a ∷ ms) ns = trail_append l (given p v a) ms ns

after_append : (p : Pen) (ms ns : List Mark) → pen_after p (ms ++ ns) ≡ pen_after (pen_after p ms) ns
unfolding pen_after
after_append p [] ns = refl
after_append p (enter c r ∷ ms) ns = after_append (within (pair_at c r +0 +0)) ms ns
after_append p (give v a ∷ ms) ns = after_append (given p v a) ms ns

stored_append : (l : Label) (p : Pen) (ms ns : List Mark) → stored l p (ms ++ ns) ≡ trail l p ms ++ stored l (pen_after p ms) ns
unfolding stored
stored_append l p ms ns = rw (trail_append l p ms ns, after_append p ms ns, append_assoc)

by_joined : (l : Label) (p : Pen) (ms : List Mark) (mss : List (List Mark)) → flatten (stored_by l p (ms ∷ mss)) ≡ stored l p (flatten (ms ∷ mss))
unfolding stored_by flatten
by_joined l p ms [] = rw (append-nil (stored l p ms), append-nil ms)
by_joined l p ms (next ∷ rest) =
    ap (λ (ds : List Pair). trail l p ms ++ ds) (by_joined l (pen_after p ms) next rest)
    ∙ sym (stored_append l p ms (flatten (next ∷ rest)))

-- a list for each record, and one for the end
abbrev OneMore : Label → Spot → Spot → List Command → Type 0
OneMore l a s cs = length (marks_by l a s cs) ≡ length cs + 1

one_more : (l : Label) (a s : Spot) (cs : List Command) → OneMore l a s cs
unfolding marks_by
one_more l a s [] = refl
one_more l a s (MoveTo p ∷ cs) = omega (arith, one_more l (spot_in l p) (spot_in l p) cs)
one_more l a s (LineTo p ∷ cs) = omega (arith, one_more l (spot_in l p) s cs)
one_more l a s (QuadTo c p ∷ cs) = omega (arith, one_more l (spot_in l p) s cs)
one_more l a s (CurveTo c d p ∷ cs) = omega (arith, one_more l (spot_in l p) s cs)
one_more l a s (Close ∷ cs) = omega (arith, one_more l s s cs)

by_long : (l : Label) (p : Pen) (mss : List (List Mark)) → length (stored_by l p mss) ≡ length mss
unfolding stored_by
by_long l p [] = refl
by_long l p (ms ∷ []) = refl
by_long l p (ms ∷ next ∷ rest) = omega (arith, by_long l (pen_after p ms) (next ∷ rest))

module _ (l : Label) (cs : List Command) where
  pub cells_joined : flatten (cells_by l cs) ≡ cells_of l cs
  unfolding cells_by cells_of
  cells_joined = go (marks_by l corner corner cs) (one_more l corner corner cs)
    where
      go : (mss : List (List Mark)) → length mss ≡ length cs + 1 → flatten (stored_by l lifted mss) ≡ stored l lifted (flatten mss)
      go [] e = absurd (omega arith)
      go (ms ∷ mss) e = by_joined l lifted ms mss

  pub cells_long : length (cells_by l cs) ≡ length cs + 1
  unfolding cells_by
  cells_long = by_long l lifted (marks_by l corner corner cs) ∙ one_more l corner corner cs

-- ---- how many fit, as the crates below count it
pub picked : (t : Bool) (i j : ℕ) → (elim t as (λ _. ℕ) [ true ↦ i | false ↦ j ]) ≡ cond t i j
picked true i j = refl
picked false i j = refl

module _ (l : Label) (w : l.width ≤ most_pixels) where
  fits_held : (room : ℕ) (before : List Pair) (each : List (List Pair)) → AllIn l before → EachIn l each
      → fitting room before each ≡ storing.fitting room (map (held_pair l) before) (map (map (held_pair l)) each)
  unfolding fitting storing.fitting
  fits_held room before [] h k = refl
  fits_held room before (ds ∷ rest) h k =
      let all = both_in l before ds h k.0 in
      let same : map (held_pair l) (before ++ ds) ≡ map (held_pair l) before ++ map (held_pair l) ds = map-append (held_pair l) before ds in
      let count : distinct (before ++ ds) ≡ held.distinct (map (held_pair l) before ++ map (held_pair l) ds) = distinct_held l (before ++ ds) w all ∙ ap held.distinct same in
      let go : fitting room (before ++ ds) rest ≡ storing.fitting room (map (held_pair l) before ++ map (held_pair l) ds) (map (map (held_pair l)) rest) =
      fits_held room (before ++ ds) rest all k.1 ∙ ap (λ (log : List Deposit). storing.fitting room log (map (map (held_pair l)) rest)) same in
      let n = fitting room (before ++ ds) rest in
      let few = ltb room (held.distinct (map (held_pair l) before ++ map (held_pair l) ds)) in
      ap (λ (n' : ℕ). elim (ltb room n') as (λ _. ℕ) [ true ↦ 0 | false ↦ suc n ]) count
      ∙ picked few 0 (suc n)
      ∙ ap (cond few 0) (omega arith)

  pub record_held : (words : ℕ) (cs : List Command) → AllPassed l.transform l.offset cs → record_of words cs l ≡ room_for l words cs
  record_held words cs h =
      fits_held (pool l words) [] (cells_by l cs) tt (cells_by_in l cs)
      ∙ ap (storing.fitting (pool l words) []) (cells_by_held l cs h)

  -- ---- a list never has fewer places than its front
  more_places : (ds es : List Pair) → AllIn l ds → AllIn l es → distinct ds ≤ distinct (ds ++ es)
  more_places ds es h k =
      let one = distinct_held l ds w h in
      let two = distinct_held l (ds ++ es) w (both_in l ds es h k) ∙ ap held.distinct (map-append (held_pair l) ds es) in
      let grows = distinct_mono (map (held_pair l) ds) (map (held_pair l) es) in
      omega arith

  joined_in : (n : ℕ) (each : List (List Pair)) → EachIn l each → AllIn l (flatten (take n each))
  unfolding flatten
  joined_in zero each h = tt
  joined_in (suc n) [] h = tt
  joined_in (suc n) (ds ∷ rest) h = both_in l ds (flatten (take n rest)) h.0 (joined_in n rest h.1)

  grow : (each : List (List Pair)) → EachIn l each → (before : List Pair) → AllIn l before → (i j : ℕ) → i ≤ j
      → distinct (before ++ flatten (take i each)) ≤ distinct (before ++ flatten (take j each))
  unfolding flatten
  grow each k before h zero j le = rw (append-nil before) (more_places before (flatten (take j each)) h (joined_in j each k))
  grow each k before h (suc i) zero le = absurd (omega arith)
  grow [] k before h (suc i) (suc j) le = omega arith
  grow (ds ∷ rest) k before h (suc i) (suc j) le =
      rw (← append_assoc before ds (flatten (take i rest)), ← append_assoc before ds (flatten (take j rest)))
      (grow rest k.1 (before ++ ds) (both_in l before ds h k.0) i j (omega arith))

-- ---- as many as fit, and one more
module _ (room : ℕ) where
  empty_fits : distinct [] ≤ room
  unfolding distinct
  empty_fits = omega arith

  fit_before : (each : List (List Pair)) (before : List Pair) → distinct before ≤ room
      → distinct (before ++ flatten (take (fitting room before each) each)) ≤ room
  unfolding flatten fitting
  fit_before [] before h = rw (append-nil before) h
  fit_before (ds ∷ rest) before h = go (ltb room (distinct (before ++ ds))) refl (λ f. fit_before rest (before ++ ds) f)
    where
      go : (t : Bool) → ltb room (distinct (before ++ ds)) ≡ t
          → (distinct (before ++ ds) ≤ room → distinct ((before ++ ds) ++ flatten (take (fitting room (before ++ ds) rest) rest)) ≤ room)
          → distinct (before ++ flatten (take (elim t as (λ _. ℕ) [ true ↦ 0 | false ↦ suc (fitting room (before ++ ds) rest) ]) (ds ∷ rest))) ≤ room
      go true e more = rw (append-nil before) h
      go false e more = rw (← append_assoc before ds (flatten (take (fitting room (before ++ ds) rest) rest))) (more (ltb-false _ _ e))

  one_over : (each : List (List Pair)) (before : List Pair) → distinct before ≤ room → room < distinct (before ++ flatten each)
      → (fitting room before each < length each) × (room < distinct (before ++ flatten (take (suc (fitting room before each)) each)))
  unfolding flatten fitting
  one_over [] before h k = absurd (let z : distinct (before ++ []) ≡ distinct before = ap distinct (append-nil before) in omega arith)
  one_over (ds ∷ rest) before h k = go (ltb room (distinct (before ++ ds))) refl (λ f. one_over rest (before ++ ds) f (rw (← append_assoc before ds (flatten rest)) at k))
    where
      go : (t : Bool) → ltb room (distinct (before ++ ds)) ≡ t
          → (distinct (before ++ ds) ≤ room
          → (fitting room (before ++ ds) rest < length rest) × (room < distinct ((before ++ ds) ++ flatten (take (suc (fitting room (before ++ ds) rest)) rest))))
          → let n : ℕ = elim t [ true ↦ 0 | false ↦ suc (fitting room (before ++ ds) rest) ] in
          (n < length (ds ∷ rest)) × (room < distinct (before ++ flatten (take (suc n) (ds ∷ rest))))
      go true e more = (omega arith, rw (append-nil ds) (ltb-true _ _ e))
      go false e more =
          let m = more (ltb-false _ _ e) in
          (omega (arith, m.0), rw (← append_assoc before ds (flatten (take (suc (fitting room (before ++ ds) rest)) rest))) m.1)

pub neither : (i j : ℕ) → ¬ (i < j) → ¬ (j < i) → i ≡ j
neither i j less more = ⊎_elim
    (λ (h : i < j). absurd (less h))
    (λ (h : j ≤ i). ⊎_elim (λ (k : j < i). absurd (more k)) (λ (k : i ≤ j). omega arith) (which j i))
    (which i j)

-- THE RECORD
module _ (l : Label) (w : l.width ≤ most_pixels) (words : ℕ) (cs : List Command) where
  grows : (i j : ℕ) → i ≤ j → places_of l cs i ≤ places_of l cs j
  grows i j le = grow l w (cells_by l cs) (cells_by_in l cs) [] tt i j le

  pub named : TooMany l words cs → RunsOut l words cs (record_of words cs l)
  named m =
      let each = cells_by l cs in
      let none : distinct [] ≤ pool l words = empty_fits (pool l words) in
      let over = one_over (pool l words) each [] none (rw (cells_joined l cs) m) in
      let e : suc (record_of words cs l) ≡ record_of words cs l + 1 = omega arith in
      (omega (arith, over.0, cells_long l cs), fit_before (pool l words) each [] none, rw e at over.1)

  pub too_many : (i : ℕ) → RunsOut l words cs i → TooMany l words cs
  too_many i (inside, fits, over) =
      let all : places_of l cs (length (cells_by l cs)) ≡ distinct (cells_of l cs) =
      ap (λ (dss : List (List Pair)). distinct (flatten dss)) (take-length (cells_by l cs)) ∙ ap distinct (cells_joined l cs) in
      let less = grows (i + 1) (length (cells_by l cs)) (omega (arith, cells_long l cs)) in
      omega arith

  -- and no other
  pub one_record : (i j : ℕ) → RunsOut l words cs i → RunsOut l words cs j → i ≡ j
  one_record i j (a, b, c) (d, e, f) = neither i j
      (λ h. let g = grows (i + 1) j (omega arith) in omega arith)
      (λ h. let g = grows (j + 1) i (omega arith) in omega arith)
