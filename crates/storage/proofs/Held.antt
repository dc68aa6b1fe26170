-- The ways in which `store` changes the words, read cell by cell: a sum in two words, or a new cell and the links to it.
-- What each leaves is a pool with the deposit behind the others, by the laws of links; a link back changes nothing that the words hold.
use Rattle.std.proofs.Common.{◌≡◌, ℕ, zero, suc, ◌+◌, ◌*◌, ◌/◌, ◌%◌, ◌^◌, ◌<◌, ◌≤◌, List, [], ◌∷◌, ◌++◌, length, get_or, set, sym, refl, ap, ◌∙◌, subst, add-zero, add-one, arith, length-set, get_or-set_other, get_or-set_same, le-ltb}
use mathlib.Core.Path.{fun_ext}
use native.Mathlib.Decide.{ℕ_discrete}
use Rattle.storage.specs.Deposits.{per_row, Deposit}
use Rattle.storage.specs.Cells.{Named, low, high, Pool, half, next_in, back_in, links_of, place_at, word, link_word, link_at, Holds}
use Rattle.storage.specs.Cells.{with_sum, with_pair, with_cell, with_next, with_back, with_linked, with_new}
use Rattle.storage.proofs.Words.{next_links, link_word_lt}
use Rattle.storage.proofs.Linked.{again, anew}

-- ---- reading what was written

other : (l : List ℕ) (i j a : ℕ) → (j ≡ i → ⊥) → get_or (set l i a) j 0 ≡ get_or l j 0
other l i j a h = get_or-set_other l i j a 0 h

same : (l : List ℕ) (i a : ℕ) → i < length l → get_or (set l i a) i 0 ≡ a
same l i a h = get_or-set_same l i a 0 h

module _ (ws : List ℕ) (at cover area : ℕ) where
  pair_else : (i : ℕ) → (i ≡ at + 1 → ⊥) → (i ≡ at + 2 → ⊥) → get_or (with_pair ws at cover area) i 0 ≡ get_or ws i 0
  pair_else i a b = other (with_sum ws (at + 1) cover) (at + 2) i _ b ∙ other ws (at + 1) i _ a

  module _ (fits : at + 2 < length ws) where
    pair_cover : get_or (with_pair ws at cover area) (at + 1) 0 ≡ (get_or ws (at + 1) 0 + cover) % 2 ^ 32
    pair_cover =
        other (with_sum ws (at + 1) cover) (at + 2) (at + 1) _ (omega arith) ∙ same ws (at + 1) _ (omega arith)

    pair_area : get_or (with_pair ws at cover area) (at + 2) 0 ≡ (get_or ws (at + 2) 0 + area) % 2 ^ 32
    pair_area =
        same (with_sum ws (at + 1) cover) (at + 2) _ (simp length-set (omega arith))
        ∙ ap (λ (x : ℕ). (x + area) % 2 ^ 32) (other ws (at + 1) (at + 2) _ (omega arith))

module _ (ws : List ℕ) (at place cover area links : ℕ) where
  cell_before : (i : ℕ) → i < at → get_or (with_cell ws at place cover area links) i 0 ≡ get_or ws i 0
  cell_before i h =
      let n₀ : i ≡ at → ⊥ = omega arith in
      let n₁ : i ≡ at + 1 → ⊥ = omega arith in
      let n₂ : i ≡ at + 2 → ⊥ = omega arith in
      let n₃ : i ≡ at + 3 → ⊥ = omega arith in
      rw (other, other, other, other) refl

  module _ (fits : at + 3 < length ws) where
    cell_place : get_or (with_cell ws at place cover area links) at 0 ≡ place
    cell_place =
        let n₁ : at ≡ at + 1 → ⊥ = omega arith in
        let n₂ : at ≡ at + 2 → ⊥ = omega arith in
        let n₃ : at ≡ at + 3 → ⊥ = omega arith in
        let h : at < length ws = omega arith in
        rw (other, other, other, same) refl

    cell_cover : get_or (with_cell ws at place cover area links) (at + 1) 0 ≡ cover
    cell_cover =
        let n₂ : at + 1 ≡ at + 2 → ⊥ = omega arith in
        let n₃ : at + 1 ≡ at + 3 → ⊥ = omega arith in
        let h : at + 1 < length (set ws at place) = simp length-set (omega arith) in
        rw (other, other, same) refl

    cell_area : get_or (with_cell ws at place cover area links) (at + 2) 0 ≡ area
    cell_area =
        let n₃ : at + 2 ≡ at + 3 → ⊥ = omega arith in
        let h : at + 2 < length (set (set ws at place) (at + 1) cover) = simp length-set (omega arith) in
        rw (other, same) refl

    cell_links : get_or (with_cell ws at place cover area links) (at + 3) 0 ≡ links
    cell_links = same (set (set (set ws at place) (at + 1) cover) (at + 2) area) (at + 3) links (simp length-set (omega arith))

-- ---- the word of a link

module _ (rows row : ℕ) (hrow : row < rows) where
  -- it is none of a cell's first three words
  link_part : (j p : ℕ) → p < 3 → (l : ℕ) → rows + 4 * j + p ≡ link_word rows row l → ⊥
  link_part j p h zero = omega arith
  link_part j p h (suc k) = omega arith

-- ---- a link back

-- a pool is what it reads as
same_pool : {place place' cover cover' area area' : ℕ → ℕ} {link link' : ℕ → ℕ → ℕ} {rows width count : ℕ} {log : List Deposit}
    → ((j : ℕ) → place' j ≡ place j) → ((j : ℕ) → cover' j ≡ cover j) → ((j : ℕ) → area' j ≡ area j) → ((r l : ℕ) → link' r l ≡ link r l)
    → Pool place cover area link rows width count log → Pool place' cover' area' link' rows width count log
same_pool p c a l P = rw (fun_ext p, fun_ext c, fun_ext a, fun_ext (λ r. fun_ext (l r))) P

-- whatever it is, the words hold what they held
module _ (ws : List ℕ) (rows width count : ℕ) (log : List Deposit) (P : Holds ws rows width count log) (row last n : ℕ) (hrow : row < rows)
    (fits : link_word rows row last < length ws) where
  back_part : (j p : ℕ) → p < 3 → get_or (with_back ws (link_word rows row last) n) (rows + 4 * j + p) 0 ≡ get_or ws (rows + 4 * j + p) 0
  back_part j p h = other ws (link_word rows row last) (rows + 4 * j + p) _ (link_part rows row hrow j p h last)

  back_next : (i : ℕ) → next_in (get_or (with_back ws (link_word rows row last) n) i 0) ≡ next_in (get_or ws i 0)
  back_next i = go (ℕ_discrete i (link_word rows row last))
    where
      go : Dec (i ≡ link_word rows row last) → next_in (get_or (with_back ws (link_word rows row last) n) i 0) ≡ next_in (get_or ws i 0)
      go (yes e) = rw e (ap next_in (same ws (link_word rows row last) _ fits) ∙ next_links (next_in (get_or ws (link_word rows row last) 0)) n (omega arith))
      go (no e) = ap next_in (other ws (link_word rows row last) i _ e)

  pub held_back : Holds (with_back ws (link_word rows row last) n) rows width count log
  held_back = record {
    pool =
        same_pool (λ j. rw add-zero at (back_part j 0 (omega arith))) (λ j. back_part j 1 (omega arith)) (λ j. back_part j 2 (omega arith))
        (λ r l. back_next (link_word rows r l)) P.pool;
  }

-- ---- a deposit

module _ (ws : List ℕ) (rows width count : ℕ) (log : List Deposit) (P : Holds ws rows width count log) (fits : rows + 4 * count ≤ length ws) where
  -- a deposit to a cell's place
  pub held_again : (d : Deposit) (k : ℕ) → k < count → place_at ws rows k ≡ d.place → Holds (with_pair ws (rows + 4 * k) d.cover d.area) rows width count (log ++ (d ∷ []))
  held_again d k hk e = record {
    pool =
        subst (λ (f : ℕ → ℕ). Pool f (word ws' rows 1) (word ws' rows 2) (link_at ws' rows) rows width count (log ++ (d ∷ [])))
        (sym (fun_ext (λ j. pair_else ws at d.cover d.area (rows + 4 * j) (omega arith) (omega arith))))
        (again (place_at ws rows) (word ws rows 1) (word ws rows 2) (link_at ws rows) rows width count log P.pool d k hk e
        (word ws' rows 1) (word ws' rows 2)
        (pair_cover ws at d.cover d.area (omega arith))
        (λ j ne. pair_else ws at d.cover d.area (rows + 4 * j + 1) (omega arith) (omega arith))
        (pair_area ws at d.cover d.area (omega arith))
        (λ j ne. pair_else ws at d.cover d.area (rows + 4 * j + 2) (omega arith) (omega arith))
        (link_at ws' rows)
        same_link);
  }
    where
      at : ℕ
      at = rows + 4 * k

      ws' : List ℕ
      ws' = with_pair ws at d.cover d.area

      same_link : (r l : ℕ) → r < rows → link_at ws' rows r l ≡ link_at ws rows r l
      same_link r zero hr = ap next_in (pair_else ws at d.cover d.area r (omega arith) (omega arith))
      same_link r (suc j) hr = ap next_in (pair_else ws at d.cover d.area (rows + 4 * j + 3) (omega arith) (omega arith))

  named_le : (row n : ℕ) → Named (place_at ws rows) count row n → n ≤ count
  named_le row zero m = omega arith
  named_le row (suc j) m = omega arith

  -- a deposit to a new place
  module _ (d : Deposit) (row last : ℕ) (hrow : row < rows) (o : Named (place_at ws rows) count row last) (is_row : d.place / per_row ≡ row)
      (column : d.place % per_row ≤ width) (from : low (place_at ws rows) row last ≤ d.place)
      (to : d.place < high (place_at ws rows) row (link_at ws rows row last))
      (hc : d.cover < 2 ^ 32) (ha : d.area < 2 ^ 32) (more : rows + 4 * count + 3 < length ws) (few : count + 1 < half) where
    at : ℕ
    at = rows + 4 * count

    lw : ℕ
    lw = link_word rows row last

    next : ℕ
    next = link_at ws rows row last

    cell : List ℕ
    cell = with_cell ws at d.place d.cover d.area (links_of next last)

    ws' : List ℕ
    ws' = with_next cell lw (count + 1)

    lw_lt : lw < at
    unfolding lw at
    lw_lt = link_word_lt rows row count last hrow (named_le row last o)

    -- a word of an older cell that is no link, and of the new cell
    else_part : (j p : ℕ) → p < 3 → j < count → get_or ws' (rows + 4 * j + p) 0 ≡ get_or ws (rows + 4 * j + p) 0
    unfolding ws' cell lw at
    else_part j p h hj =
        other cell lw (rows + 4 * j + p) _ (link_part rows row hrow j p h last)
        ∙ cell_before ws at d.place d.cover d.area (links_of next last) (rows + 4 * j + p) (omega arith)

    new_part : (p v : ℕ) → get_or cell (at + p) 0 ≡ v → get_or ws' (at + p) 0 ≡ v
    unfolding ws'
    new_part p v e = other cell lw (at + p) _ (omega (arith, lw_lt)) ∙ e

    -- another link's word
    word_apart : (r l : ℕ) → r < rows → Named (place_at ws rows) count r l → ((r ≡ row) × (l ≡ last) → ⊥) → link_word rows r l ≡ lw → ⊥
    unfolding lw
    word_apart r l hr m ne = go l last m o ne
      where
        go : (l last : ℕ) → Named (place_at ws rows) count r l → Named (place_at ws rows) count row last → ((r ≡ row) × (l ≡ last) → ⊥)
            → link_word rows r l ≡ link_word rows row last → ⊥
        go zero zero m o ne e = ne (e, refl)
        go zero (suc k) m o ne e = omega arith
        go (suc j) zero m o ne e = omega arith
        go (suc j) (suc k) m o ne e =
            let q : j ≡ k = omega arith in
            ne (sym m.1 ∙ ap (λ (x : ℕ). place_at ws rows x / per_row) q ∙ o.1, ap suc q)

    else_link : (r l : ℕ) → r < rows → Named (place_at ws rows) count r l → ((r ≡ row) × (l ≡ last) → ⊥) → link_at ws' rows r l ≡ link_at ws rows r l
    unfolding ws' cell at
    else_link r l hr m ne =
        ap next_in
        (other cell lw (link_word rows r l) _ (word_apart r l hr m ne)
        ∙ cell_before ws at d.place d.cover d.area (links_of next last) (link_word rows r l) (link_word_lt rows r count l hr (named_le r l m)))

    length_cell : length cell ≡ length ws
    unfolding cell
    length_cell = simp length-set

    held_anew : Holds ws' rows width (suc count) (log ++ (d ∷ []))
    unfolding ws' cell next lw at
    held_anew = record {
      pool =
          anew (place_at ws rows) (word ws rows 1) (word ws rows 2) (link_at ws rows) rows width count log P.pool d row last hrow o is_row column from to hc ha
          (place_at ws' rows) (word ws' rows 1) (word ws' rows 2) (link_at ws' rows)
          (λ j h. rw add-zero at (else_part j 0 (omega arith) h))
          (rw add-zero at (new_part 0 d.place (rw add-zero (cell_place ws at d.place d.cover d.area (links_of next last) more))))
          (λ j h. else_part j 1 (omega arith) h)
          (new_part 1 d.cover (cell_cover ws at d.place d.cover d.area (links_of next last) more))
          (λ j h. else_part j 2 (omega arith) h)
          (new_part 2 d.area (cell_area ws at d.place d.cover d.area (links_of next last) more))
          else_link
          (ap next_in (same cell lw _ (omega (arith, lw_lt, length_cell))) ∙ next_links (count + 1) (back_in (get_or cell lw 0)) few ∙ add-one count)
          (λ r. ap next_in (new_part 3 (links_of next last) (cell_links ws at d.place d.cover d.area (links_of next last) more)) ∙ next_links next last (omega arith));
    }

    -- with the two links back
    pub held_new : Holds (with_new ws rows count row last d.place d.cover d.area) rows width (suc count) (log ++ (d ∷ []))
    unfolding ws' cell next lw at
    held_new =
        rw (le-ltb count (link_at ws rows row last) near)
        (held_back led rows width (suc count) (log ++ (d ∷ [])) one row (link_at ws rows row last) (count + 1) hrow
        (omega (arith, link_word_lt rows row count (link_at ws rows row last) hrow near, length_led)))
      where
        near : link_at ws rows row last ≤ count
        near = named_le row (link_at ws rows row last) (P.pool.links row last hrow o).named

        led : List ℕ
        led = with_linked ws rows count row last d.place d.cover d.area

        one : Holds led rows width (suc count) (log ++ (d ∷ []))
        one = held_back ws' rows width (suc count) (log ++ (d ∷ [])) held_anew row 0 (count + 1) hrow (simp length-set (omega arith))

        length_led : length led ≡ length ws
        length_led = simp length-set
