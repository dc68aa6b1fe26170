-- The laws of links. A deposit to a known place leaves the links, and the sums of its cell grow. A deposit to a new place lies in the gap of
-- one link only: that link now leads to the new cell, the new cell's link leads where it led, and each is again the first known place.
use Rattle.std.proofs.Common.{◌≡◌, ℕ, zero, suc, ◌+◌, ◌*◌, ◌/◌, ◌%◌, ◌^◌, ◌<◌, ◌≤◌, true, false, eqb, List, [], ◌∷◌, ◌++◌, sym, refl, ap, ◌∙◌, subst, true≢false, arith, eq-eqb, ne_eqb}
use native.Mathlib.Decide.{dec_lt, ℕ_discrete}
use Rattle.storage.specs.Deposits.{per_row, Deposit, known, sum_of, cover_of, area_of}
use Rattle.storage.specs.Cells.{Named, low, high, Link, Cell, Pool}
use Rattle.storage.proofs.Sums.{known_here, known_other, known_more, known_again, distinct_again, distinct_new, sum_here, sum_other, sum_unknown}

-- ---- a link's places are its row's

pub low_row : (place : ℕ → ℕ) (count row last : ℕ) → Named place count row last → per_row * row ≤ low place row last
low_row place count row zero o = omega arith
low_row place count row (suc k) o = omega arith

pub high_row : (place : ℕ → ℕ) (count row n : ℕ) → Named place count row n → high place row n ≤ per_row * row + per_row
high_row place count row zero o = omega arith
high_row place count row (suc j) o = omega arith

module _ (place cover area : ℕ → ℕ) (link : ℕ → ℕ → ℕ) (rows width count : ℕ) (log : List Deposit) (P : Pool place cover area link rows width count log) where
  -- no cell's place lies in a gap
  no_cell : (k row lo n : ℕ) → k < count → Link place count log row lo n → lo ≤ place k → place k < high place row n → ⊥
  no_cell k row lo n h l a b = true≢false (sym (P.cells k h).given ∙ l.gap (place k) a b)

  -- q lies in the gap of the link behind l of row r
  abbrev In : ℕ → ℕ → ℕ → Type 0
  In r l q = (r < rows) × Named place count r l × (low place r l ≤ q) × (q < high place r (link r l))

  in_row : (r l q : ℕ) → In r l q → q / per_row ≡ r
  in_row r l q h = omega (arith, low_row place count r l h.1, high_row place count r (link r l) (P.links r l h.0 h.1).named)

  -- the link behind a cell whose gap starts before another's is that one
  not_before : (r l k q : ℕ) → In r l q → In r (suc k) q → low place r l ≤ place k → ⊥
  not_before r l k q h h' a = no_cell k r (low place r l) (link r l) h'.1.0 (P.links r l h.0 h.1) a (omega arith)

  same_last : (r l last q : ℕ) → In r l q → In r last q → l ≡ last
  same_last r zero zero q h h' = refl
  same_last r zero (suc k) q h h' = absurd (not_before r zero k q h h' (omega arith))
  same_last r (suc k) zero q h h' = absurd (not_before r zero k q h' h (omega arith))
  same_last r (suc j) (suc k) q h h' = go (dec_lt (place j) (place k)) (dec_lt (place k) (place j))
    where
      go : Dec (place j < place k) → Dec (place k < place j) → suc j ≡ suc k
      go (yes a) e = absurd (not_before r (suc j) k q h h' (omega arith))
      go (no a) (yes e) = absurd (not_before r (suc k) j q h' h (omega arith))
      go (no a) (no e) = ap suc (P.apart j k h.1.0 h'.1.0 (omega arith))

  -- two links whose gaps share a place are one
  one_link : (r l row last q : ℕ) → In r l q → In row last q → (r ≡ row) × (l ≡ last)
  one_link r l row last q h h' =
      let e : r ≡ row = sym (in_row r l q h) ∙ in_row row last q h' in
      (e, same_last r l last q h (subst (λ (k : ℕ). In k last q) (sym e) h'))

  -- ---- a deposit to a known place: what is known stays, and the cell's sums grow
  module _ (d : Deposit) (k : ℕ) (hk : k < count) (at : place k ≡ d.place) (cover' area' : ℕ → ℕ)
      (c-here : cover' k ≡ (cover k + d.cover) % 2 ^ 32) (c-else : (j : ℕ) → (j ≡ k → ⊥) → cover' j ≡ cover j)
      (a-here : area' k ≡ (area k + d.area) % 2 ^ 32) (a-else : (j : ℕ) → (j ≡ k → ⊥) → area' j ≡ area j)
      (link' : ℕ → ℕ → ℕ) (l-else : (r l : ℕ) → r < rows → link' r l ≡ link r l) where
    is_known : known log d.place ≡ true
    is_known = rw (← at) (P.cells k hk).given

    again_link : (row lo n : ℕ) → Link place count log row lo n → Link place count (log ++ (d ∷ [])) row lo n
    again_link row lo n l = record { named = l.named; above = l.above; gap = λ p a b. known_again d log p is_known ∙ l.gap p a b }

    -- one of the two sums, which f reads off a deposit
    grown : (f : Deposit → ℕ) (v v' : ℕ → ℕ) → v' k ≡ (v k + f d) % 2 ^ 32 → ((j : ℕ) → (j ≡ k → ⊥) → v' j ≡ v j)
        → (j : ℕ) → j < count → v j ≡ sum_of f (eqb (place j)) log → v' j ≡ sum_of f (eqb (place j)) (log ++ (d ∷ []))
    grown f v v' here else j hj s = go (ℕ_discrete j k)
      where
        go : Dec (j ≡ k) → v' j ≡ sum_of f (eqb (place j)) (log ++ (d ∷ []))
        go (yes e) =
            rw e (here ∙ ap (λ (x : ℕ). (x + f d) % 2 ^ 32) (rw e at s) ∙ sym (sum_here f (eqb (place k)) d log (eq-eqb (place k) d.place at)))
        go (no e) =
            else j e ∙ s ∙ sym (sum_other f (eqb (place j)) d log (ne_eqb (place j) d.place (λ q. e (P.apart j k hj hk (q ∙ sym at)))))

    again_cell : (j : ℕ) → j < count → Cell place cover' area' width (log ++ (d ∷ [])) j
    again_cell j hj =
        let C = P.cells j hj in
        record {
          given = known_more d log (place j) C.given;
          cover_sum = grown cover_of cover cover' c-here c-else j hj C.cover_sum;
          area_sum = grown area_of area area' a-here a-else j hj C.area_sum;
          column = C.column;
        }

    pub again : Pool place cover' area' link' rows width count (log ++ (d ∷ []))
    again = record {
      links = λ row last h o. rw (l-else row last h) (again_link row (low place row last) (link row last) (P.links row last h o));
      cells = again_cell;
      apart = P.apart;
      counted = P.counted ∙ sym (distinct_again d log is_known);
    }

  -- ---- a deposit to a new place: a cell more, behind last and before next
  module _ (d : Deposit) (row last : ℕ) (hrow : row < rows) (o : Named place count row last) (is_row : d.place / per_row ≡ row)
      (column : d.place % per_row ≤ width) (from : low place row last ≤ d.place) (to : d.place < high place row (link row last))
      (hc : d.cover < 2 ^ 32) (ha : d.area < 2 ^ 32)
      (place' cover' area' : ℕ → ℕ) (link' : ℕ → ℕ → ℕ)
      (p-else : (j : ℕ) → j < count → place' j ≡ place j) (p-new : place' count ≡ d.place)
      (c-else : (j : ℕ) → j < count → cover' j ≡ cover j) (c-new : cover' count ≡ d.cover)
      (a-else : (j : ℕ) → j < count → area' j ≡ area j) (a-new : area' count ≡ d.area)
      (l-else : (r l : ℕ) → r < rows → Named place count r l → ((r ≡ row) × (l ≡ last) → ⊥) → link' r l ≡ link r l)
      (l-last : link' row last ≡ suc count) (l-new : (r : ℕ) → link' r (suc count) ≡ link row last) where
    here : Link place count log row (low place row last) (link row last)
    here = P.links row last hrow o

    not_known : known log d.place ≡ false
    not_known = here.gap d.place from to

    named' : (r n : ℕ) → Named place count r n → Named place' (suc count) r n
    named' r zero m = tt
    named' r (suc j) m = (omega arith, ap (λ (x : ℕ). x / per_row) (p-else j m.0) ∙ m.1)

    low' : (r n : ℕ) → Named place count r n → low place' r n ≡ low place r n
    low' r zero m = refl
    low' r (suc j) m = ap (λ (x : ℕ). x + 1) (p-else j m.0)

    high' : (r n : ℕ) → Named place count r n → high place' r n ≡ high place r n
    high' r zero m = refl
    high' r (suc j) m = p-else j m.0

    -- a link whose gap has not the new place stays
    stays : (r lo n : ℕ) → Link place count log r lo n → (lo ≤ d.place → d.place < high place r n → ⊥) → Link place' (suc count) (log ++ (d ∷ [])) r lo n
    stays r lo n l out = record {
      named = named' r n l.named;
      above = rw (high' r n l.named) l.above;
      gap = λ p a b. known_other d log p (λ e. out (rw e at a) (rw (e, high' r n l.named) at b)) ∙ l.gap p a (rw (high' r n l.named) at b);
    }

    abbrev Link' : ℕ → ℕ → ℕ → Type 0
    Link' r lo n = Link place' (suc count) (log ++ (d ∷ [])) r lo n

    to_new : Link' row (low place row last) (suc count)
    to_new = record {
      named = (omega arith, ap (λ (x : ℕ). x / per_row) p-new ∙ is_row);
      above = rw p-new from;
      gap = λ p a b. known_other d log p (omega arith) ∙ here.gap p a (omega arith);
    }

    from_new : Link' row (d.place + 1) (link row last)
    from_new =
        stays row (d.place + 1) (link row last)
        (record { named = here.named; above = omega arith; gap = λ p a b. here.gap p (omega arith) b })
        (λ a b. omega arith)

    old_link : (r l : ℕ) → r < rows → Named place count r l → Link' r (low place r l) (link' r l)
    old_link r l hr m = go (ℕ_discrete r row) (ℕ_discrete l last)
      where
        other : ((r ≡ row) × (l ≡ last) → ⊥) → Link' r (low place r l) (link' r l)
        other ne =
            rw (l-else r l hr m ne)
            (stays r (low place r l) (link r l) (P.links r l hr m) (λ a b. ne (one_link r l row last d.place (hr, m, a, b) (hrow, o, from, to))))

        go : Dec (r ≡ row) → Dec (l ≡ last) → Link' r (low place r l) (link' r l)
        go (yes e) (yes f) = rw (e, f, l-last) to_new
        go (yes e) (no f) = other (λ q. f q.1)
        go (no e) f = other (λ q. e q.0)

    new_link : (r l : ℕ) → r < rows → Named place' (suc count) r l → Link' r (low place' r l) (link' r l)
    new_link r zero hr m = old_link r zero hr tt
    new_link r (suc j) hr m = go (ℕ_discrete j count)
      where
        go : Dec (j ≡ count) → Link' r (place' j + 1) (link' r (suc j))
        go (yes e) = rw (e, p-new, l-new, sym m.1 ∙ ap (λ (k : ℕ). place' k / per_row) e ∙ ap (λ (x : ℕ). x / per_row) p-new ∙ is_row) from_new
        go (no e) =
            let h : j < count = omega arith in
            rw (p-else j h) (old_link r (suc j) hr (h, ap (λ (x : ℕ). x / per_row) (sym (p-else j h)) ∙ m.1))

    -- one of the two sums
    kept : (f : Deposit → ℕ) (v v' : ℕ → ℕ) → f d < 2 ^ 32 → ((j : ℕ) → j < count → v' j ≡ v j) → v' count ≡ f d
        → ((j : ℕ) → j < count → v j ≡ sum_of f (eqb (place j)) log) → (j : ℕ) → j < suc count → v' j ≡ sum_of f (eqb (place' j)) (log ++ (d ∷ []))
    kept f v v' fits else new old j hj = go (ℕ_discrete j count)
      where
        go : Dec (j ≡ count) → v' j ≡ sum_of f (eqb (place' j)) (log ++ (d ∷ []))
        go (yes e) =
            rw (e, new, p-new, sum_here f (eqb d.place) d log (eq-eqb d.place d.place refl), sum_unknown f d.place log not_known) (omega arith)
        go (no e) =
            let h : j < count = omega arith in
            rw (else j h, p-else j h)
            (old j h ∙ sym (sum_other f (eqb (place j)) d log (ne_eqb (place j) d.place (λ q. true≢false (sym (P.cells j h).given ∙ ap (known log) q ∙ not_known)))))

    new_cell : (j : ℕ) → j < suc count → Cell place' cover' area' width (log ++ (d ∷ [])) j
    new_cell j hj = record {
      given = go (ℕ_discrete j count);
      cover_sum = kept cover_of cover cover' hc c-else c-new (λ k h. (P.cells k h).cover_sum) j hj;
      area_sum = kept area_of area area' ha a-else a-new (λ k h. (P.cells k h).area_sum) j hj;
      column = col (ℕ_discrete j count);
    }
      where
        go : Dec (j ≡ count) → known (log ++ (d ∷ [])) (place' j) ≡ true
        go (yes e) = rw (e, p-new) (known_here d log)
        go (no e) = let h : j < count = omega arith in rw (p-else j h) (known_more d log (place j) (P.cells j h).given)

        col : Dec (j ≡ count) → place' j % per_row ≤ width
        col (yes e) = rw (e, p-new) column
        col (no e) = let h : j < count = omega arith in rw (p-else j h) (P.cells j h).column

    -- the new cell's place is no other's
    new_apart : (j k : ℕ) → j < suc count → k < suc count → place' j ≡ place' k → j ≡ k
    new_apart j k hj hk e = go (ℕ_discrete j count) (ℕ_discrete k count)
      where
        not_new : (i : ℕ) → i < count → place' i ≡ place' count → ⊥
        not_new i h q = true≢false (sym (P.cells i h).given ∙ ap (known log) (sym (p-else i h) ∙ q ∙ p-new) ∙ not_known)

        go : Dec (j ≡ count) → Dec (k ≡ count) → j ≡ k
        go (yes a) (yes b) = a ∙ sym b
        go (yes a) (no b) = absurd (not_new k (omega arith) (sym e ∙ ap place' a))
        go (no a) (yes b) = absurd (not_new j (omega arith) (e ∙ ap place' b))
        go (no a) (no b) =
            let h : j < count = omega arith in
            let g : k < count = omega arith in
            P.apart j k h g (sym (p-else j h) ∙ e ∙ p-else k g)

    pub anew : Pool place' cover' area' link' rows width (suc count) (log ++ (d ∷ []))
    anew = record {
      links = new_link;
      cells = new_cell;
      apart = new_apart;
      counted = ap suc P.counted ∙ sym (distinct_new d log not_known);
    }
