-- What a caller of the pool needs: an empty pool, when it is full, runs of deposits, and the order of a row's list.
use Rattle.std.proofs.Common.{◌≡◌, ℕ, zero, suc, ◌+◌, ◌*◌, ◌%◌, ◌<◌, ◌≤◌, true, List, [], ◌∷◌, ◌++◌, get_or, replicate, sym, refl, ap, ◌∙◌, subst, append_assoc, append-nil, arith, le-leb}
use lib.ListN.{length-replicate, get_or-replicate, get_or-append}
use borrow.Author.Tests.{lt-leb}
use Rattle.std.specs.Prelude.{Option, None, Some}
use Rattle.storage.specs.Deposits.{per_row, Deposit, known, distinct}
use Rattle.storage.specs.Laws.{distinct_mono}
use Rattle.storage.specs.Cells.{Named, low, high, Link, next_in, place_at, word, link_at, Holds, columns, Rising}
use Rattle.storage.specs.Answers.{Within, kept_of, Stored}
use Rattle.storage.specs.declared.limits.Sizes.{Sizes}
use Rattle.storage.specs.declared.Entry.{Entry}
use Rattle.storage.specs.Storing.{given_of, Storing, Deposited}
use Rattle.storage.proofs.Sums.{distinct_again}

-- ---- a pool with no cells

-- heads that are 0 and no cells: nothing is stored
pub empty : (ws : List ℕ) (rows width : ℕ) → ((r : ℕ) → r < rows → get_or ws r 0 ≡ 0) → Holds ws rows width 0 []
unfolding known distinct
empty ws rows width heads = record {
  pool = record {
    links = first;
    cells = λ k h. absurd (omega arith);
    apart = λ j k h. absurd (omega arith);
    counted = refl;
  };
}
  where
    first : (row last : ℕ) → row < rows → Named (place_at ws rows) 0 row last → Link (place_at ws rows) 0 [] row (low (place_at ws rows) row last) (link_at ws rows row last)
    first row zero h m = rw (heads row h) (record { named = tt; above = omega arith; gap = λ p a b. refl })
    first row (suc k) h m = absurd (omega arith)

-- what `clear` leaves of the heads, whatever stands behind them
pub cleared : (rest : List ℕ) (rows width : ℕ) → Holds (replicate rows 0 ++ rest) rows width 0 []
cleared rest rows width =
    empty (replicate rows 0 ++ rest) rows width
    (λ r h. get_or-append (replicate rows 0) rest 0 r (omega (arith, length-replicate {A = ℕ} rows 0)) ∙ get_or-replicate rows r 0 0 h)

-- ---- full, exactly when there are more distinct places than cells

pub exact : (ws : List ℕ) (rows width cap : ℕ) (log : List Deposit) (r : Option ℕ) → Within cap r → Stored ws rows width cap log r → r ≡ kept_of cap (distinct log)
exact ws rows width cap log (Some n) h P =
    let e : n ≡ distinct log = P.pool.counted in
    let g : distinct log ≤ cap = omega arith in
    rw (le-leb (distinct log) cap g) (ap Some e)
exact ws rows width cap log None h g = rw (lt-leb (distinct log) cap g)

-- a pair for a known place never fails, and takes no cell
pub known_kept : {ws : List ℕ} {rows width count : ℕ} {log : List Deposit} (ws' : List ℕ) (cap : ℕ) (d : Deposit) → count ≤ cap → Holds ws rows width count log → known log d.place ≡ true
    → (r : Option ℕ) → Stored ws' rows width cap (log ++ (d ∷ [])) r → r ≡ Some count
known_kept {log = log} ws' cap d h P k (Some n) s = ap Some (s.pool.counted ∙ distinct_again d log k ∙ sym P.pool.counted)
known_kept {log = log} ws' cap d h P k None s = absurd (omega (arith, s, distinct_again d log k, P.pool.counted))

-- ---- runs of deposits

module _ {rows width cap count : ℕ} where
  pub deposited_none : {ws : List ℕ} → count ≤ cap → Deposited ws ws rows width cap count [] (Some count)
  deposited_none {ws} h = record { long = refl; within = h; told = λ log P. rw append-nil P }

  module _ {ws ws' : List ℕ} {ds : List Deposit} where
    -- a run behind a run that fitted
    pub deposited_then : {ws'' : List ℕ} {es : List Deposit} {n : ℕ} {r : Option ℕ} → Deposited ws ws' rows width cap count ds (Some n) → Deposited ws' ws'' rows width cap n es r
        → Deposited ws ws'' rows width cap count (ds ++ es) r
    deposited_then {ws''} {es} {n} {r} a b = record {
      long = b.long ∙ a.long;
      within = b.within;
      told = λ log P. subst (λ (l : List Deposit). Stored ws'' rows width cap l r) (append_assoc log ds es) (b.told (log ++ ds) (a.told log P));
    }

    -- what is too much stays too much
    pub deposited_full : (es : List Deposit) → Deposited ws ws' rows width cap count ds None → Deposited ws ws' rows width cap count (ds ++ es) None
    deposited_full es a = record {
      long = a.long;
      within = tt;
      told = λ log P.
          let more : distinct (log ++ ds) ≤ distinct (log ++ (ds ++ es)) = rw append_assoc at (distinct_mono (log ++ ds) es) in
          omega (arith, a.told log P);
    }

-- one pair, and one more
module _ {s : Sizes} {entry : Entry} {ws' ws'' : List ℕ} {width : ℕ} {r : Option ℕ} (h : entry.column ≤ width) (stored : Storing ws' ws'' s entry r) where
  pub deposited_one : Deposited ws' ws'' s.rows width s.cap s.count (given_of entry ∷ []) r
  deposited_one = record { long = stored.long; within = stored.within; told = λ log P. stored.told width log h P }

-- a run into a pool with no cells
pub whole : {ws ws' : List ℕ} {rows width cap : ℕ} {ds : List Deposit} {r : Option ℕ} (rest : List ℕ) → ws ≡ replicate rows 0 ++ rest
    → Deposited ws ws' rows width cap 0 ds r → (r ≡ kept_of cap (distinct ds)) × Stored ws' rows width cap ds r
whole {ws} {ws'} {rows} {width} {cap} {ds} {r} rest e a =
    let s : Stored ws' rows width cap ds r = a.told [] (rw e (cleared rest rows width)) in
    (exact ws' rows width cap ds r a.within s, s)

-- ---- a row's list is in rising column

module _ {ws : List ℕ} {rows width count : ℕ} {log : List Deposit} (P : Holds ws rows width count log) (row : ℕ) (h : row < rows) where
  -- from a link that leads to a column from lo on
  rising_from : (fuel lo n : ℕ) → Named (place_at ws rows) count row n → per_row * row + lo ≤ high (place_at ws rows) row n → Rising lo (columns ws rows fuel n)
  unfolding columns Rising
  rising_from zero lo n m a = tt
  rising_from (suc fuel) lo zero m a = tt
  rising_from (suc fuel) lo (suc k) m a =
      let l = P.pool.links row (suc k) h m in
      (omega arith, rising_from fuel (place_at ws rows k % per_row + 1) (next_in (word ws rows 3 k)) l.named (omega (arith, l.above)))

  pub rising : (fuel : ℕ) → Rising 0 (columns ws rows fuel (link_at ws rows row 0))
  rising fuel = let l = P.pool.links row 0 h tt in rising_from fuel 0 (link_at ws rows row 0) l.named (omega (arith, l.above))
