-- How what is added to a log comes about: by nothing, by a cell that is outside, by a full pool, by a stored pair; and one after the other.
use Rattle.std.proofs.Common.{◌≡◌, ℕ, ◌-◌, ◌<◌, ◌≤◌, max, List, [], ◌∷◌, ◌++◌, length, sym, refl, ap, ◌∙◌, append_assoc, append-nil, arith, le-ltb, lt-ltb, le-leb}
use borrow.Author.Tests.{lt-leb}
use Rattle.std.specs.Prelude.{Option, None, Some}
use Rattle.storage.specs.Laws.{distinct_mono}
use Rattle.storage.specs.Answers.{Within}
use Rattle.storage.specs.declared.limits.Sizes.{Sizes}
use Rattle.storage.specs.declared.Entry.{Entry}
use Rattle.storage.specs.Storing.{given_of, Storing}
use Rattle.pen.specs.declared.boards.Board.{Board}
use Rattle.pen.specs.declared.Pen.{Pen}
use Rattle.pen.specs.Marks.{Mark, give, gave, after, Pair, pair_of, left, placed, seen}
use Rattle.pen.specs.Laws.{after_append, left_append, seen_append}
use Rattle.pen.specs.Drawing.{rows, width, Ready, Added, Drew, stand_of}

module _ (board : Board) where
  -- nothing of the pairs is seen
  pub unseen : (ws : List ℕ) (k : Option ℕ) (ds : List Pair) → seen board.frame ds ≡ [] → Added board ws ws k k ds
  unseen ws k ds e = record { same = refl; adds = λ log h. rw (e, append-nil) h }

  pub none_added : (ws : List ℕ) (k : Option ℕ) → Added board ws ws k k []
  unfolding seen
  none_added ws k = unseen ws k [] refl

  pub full_added : (ws : List ℕ) (ds : List Pair) → Added board ws ws None None ds
  full_added ws ds = record { same = refl; adds = λ log h. let g = distinct_mono log (seen board.frame ds) in omega arith }

  pub added_then : {ws ws' ws'' : List ℕ} {k k' k'' : Option ℕ} {ds es : List Pair} → Added board ws ws' k k' ds → Added board ws' ws'' k' k'' es
      → Added board ws ws'' k k'' (ds ++ es)
  added_then {ds = ds} {es = es} a b =
      record {
        same = b.same ∙ a.same;
        adds = λ log h. rw (seen_append board.frame ds es, ← append_assoc log (seen board.frame ds) (seen board.frame es)) (b.adds (log ++ seen board.frame ds) (a.adds log h));
      }

  module _ (c r v a : ℕ) where
    too_right : board.frame.wide ≤ c → seen board.frame (pair_of c r v a ∷ []) ≡ []
    unfolding seen
    too_right h = simp (le-ltb _ _ h)

    too_high : c < board.frame.wide → r < board.frame.first → seen board.frame (pair_of c r v a ∷ []) ≡ []
    unfolding seen
    too_high h g = simp (lt-ltb _ _ h, lt-leb _ _ g)

    too_low : c < board.frame.wide → board.frame.first ≤ r → board.frame.end ≤ r → seen board.frame (pair_of c r v a ∷ []) ≡ []
    unfolding seen
    too_low h g e = simp (lt-ltb _ _ h, le-leb _ _ g, le-ltb _ _ e)

    within : c < board.frame.wide → board.frame.first ≤ r → r < board.frame.end → seen board.frame (pair_of c r v a ∷ []) ≡ (placed board.frame (pair_of c r v a) ∷ [])
    unfolding seen
    within h g e = simp (lt-ltb _ _ h, le-leb _ _ g, lt-ltb _ _ e)

    pub right_added : (ws : List ℕ) (k : Option ℕ) → board.frame.wide ≤ c → Added board ws ws k k (pair_of c r v a ∷ [])
    right_added ws k h = unseen ws k _ (too_right h)

    pub high_added : (ws : List ℕ) (k : Option ℕ) → c < board.frame.wide → r < board.frame.first → Added board ws ws k k (pair_of c r v a ∷ [])
    high_added ws k h g = unseen ws k _ (too_high h g)

    pub low_added : (ws : List ℕ) (k : Option ℕ) → c < board.frame.wide → board.frame.first ≤ r → board.frame.end ≤ r → Added board ws ws k k (pair_of c r v a ∷ [])
    low_added ws k h g e = unseen ws k _ (too_low h g e)

    -- a pair that the store has taken, as `store` promises it
    pub store_added : (ws ws' : List ℕ) (k' : Option ℕ) (s : Sizes) (entry : Entry) → s.rows ≡ rows board.frame → s.cap ≡ board.cap
        → given_of entry ≡ placed board.frame (pair_of c r v a) → entry.column ≡ max c 8191 - 8191 → c < board.frame.wide → board.frame.first ≤ r → r < board.frame.end
        → Storing ws ws' s entry k' → Added board ws ws' (Some s.count) k' (pair_of c r v a ∷ [])
    store_added ws ws' k' s entry p q d col h g e t =
        record { same = t.long; adds = λ log k. rw (within h g e, ← d, ← p, ← q) (t.told (width board.frame) log (omega (arith, board.right)) (rw p k)) }

  -- ---- the same of marks

  pub drew_then : {ws ws' ws'' : List ℕ} {p p' p'' : Pen} {ms ns : List Mark} → Drew board ws ws' p p' ms → Drew board ws' ws'' p' p'' ns → Drew board ws ws'' p p'' (ms ++ ns)
  drew_then {p = p} {p' = p'} {ms = ms} {ns = ns} a b =
      record {
        within = b.within;
        stands = b.stands ∙ ap (λ s. after s ns) a.stands ∙ sym (after_append (stand_of p) ms ns);
        added = rw (left_append (stand_of p) ms ns, ← a.stands) (added_then a.added b.added);
      }

  pub drew_none : {ws : List ℕ} {p : Pen} → Within board.cap p.kept → Drew board ws ws p p []
  unfolding after left
  drew_none {ws = ws} {p = p} h = record { within = h; stands = refl; added = none_added ws p.kept }

  -- a pen that `add` hands back
  pub drew_give : {ws : List ℕ} {p p' : Pen} (v a : ℕ) → Within board.cap p.kept → p'.kept ≡ p.kept → stand_of p' ≡ gave (stand_of p) v a → Drew board ws ws p p' (give v a ∷ [])
  unfolding after left
  drew_give {ws = ws} {p = p} {p' = p'} v a h e s =
      record { within = rw e h; stands = s; added = rw e (none_added ws p.kept) }

  -- the same pool, by another name
  pub renamed : {ws ws' : List ℕ} {k k₁ k' : Option ℕ} {ds : List Pair} → k ≡ k₁ → Added board ws ws' k₁ k' ds → Added board ws ws' k k' ds
  renamed e a = rw e a

  -- the words are as ready as they were
  pub still_ready : {ws ws' : List ℕ} → Ready board ws → length ws' ≡ length ws → Ready board ws'
  still_ready r e = record { fits = omega (arith, r.fits) }
