-- The walks along a row's list. On words of any content they keep to the words. The walk back ends at a cell of the row that is not past the place, or at
-- the row's start; from there the walk on keeps to the row of a pool, and has passed every lower place.
use Rattle.std.proofs.Common.{◌≡◌, ℕ, zero, suc, ◌+◌, ◌-◌, ◌*◌, ◌/◌, ◌<◌, ◌≤◌, List, get_or, refl, ap, ◌∙◌, arith}
use Rattle.storage.specs.Deposits.{per_row, Deposit}
use Rattle.storage.specs.Cells.{Named, low, high, Link, place_at, next_in, link_at, Holds}
use Rattle.storage.specs.Answers.{Upto, Sought}

pub named_le : (place : ℕ → ℕ) (count row n : ℕ) → Named place count row n → n ≤ count
named_le place count row zero m = omega arith
named_le place count row (suc j) m = omega arith

module _ (ws : List ℕ) (rows row : ℕ) where
  -- what a link that is not 0 names
  pub place_of : (n : ℕ) → (n ≡ 0 → ⊥) → get_or ws (rows + 4 * (n - 1)) 0 ≡ high (place_at ws rows) row n
  place_of zero h = absurd (h refl)
  place_of (suc j) h = ap (λ (i : ℕ). get_or ws i 0) (omega arith)

  pub link_of : (n : ℕ) → (n ≡ 0 → ⊥) → next_in (get_or ws (rows + 4 * (n - 1) + 3) 0) ≡ link_at ws rows row n
  link_of zero h = absurd (h refl)
  link_of (suc j) h = ap (λ (i : ℕ). next_in (get_or ws i 0)) (omega arith)

  pub low_of : (n : ℕ) → (n ≡ 0 → ⊥) → low (place_at ws rows) row n ≡ high (place_at ws rows) row n + 1
  low_of zero h = absurd (h refl)
  low_of (suc j) h = refl

-- ---- the walk back

-- ---- the walk on

-- at the head of the loop: next is the link behind last, and in a pool last is in the row and not past the place, with all up to floor passed
pub record Walk (ws : List ℕ) (rows count row place last floor next : ℕ) : Type 0 where
  pub within : last ≤ count
  pub reads : next ≡ link_at ws rows row last
  pub under : floor ≤ place + 1
  pub so : (width : ℕ) (log : List Deposit) → Holds ws rows width count log
      → Upto (place_at ws rows) count row place last × (floor ≤ low (place_at ws rows) row last)

module _ {ws : List ℕ} {rows count row place : ℕ} (hrow : row < rows) (is_row : place / per_row ≡ row) where
  pub begin : {from next : ℕ} → Upto (place_at ws rows) count row place from → next ≡ link_at ws rows row from → Walk ws rows count row place from 0 next
  begin {from} u e = record { within = named_le (place_at ws rows) count row from u.0; reads = e; under = omega arith; so = λ width log P. (u, omega arith) }

  module _ {last floor next : ℕ} (w : Walk ws rows count row place last floor next) where
    -- in a pool, the link that was read
    link_here : (width : ℕ) (log : List Deposit) → Holds ws rows width count log → Link (place_at ws rows) count log row (low (place_at ws rows) row last) next
    link_here width log P = rw w.reads (P.pool.links row last hrow (w.so width log P).0.0)

    -- the words are no pool's
    no_pool : ((width : ℕ) (log : List Deposit) → Holds ws rows width count log → ⊥) → Sought ws rows count row place last
    no_pool h = record { within = w.within; so = λ width log P. absurd (h width log P) }

    pub far : count < next → Sought ws rows count row place last
    far h = no_pool (λ width log P. omega (arith, named_le (place_at ws rows) count row next (link_here width log P).named))

    -- the walk has come to the place
    ends : place < high (place_at ws rows) row next → Sought ws rows count row place last
    ends h = record { within = w.within; so = λ width log P. ((w.so width log P).0, rw (← w.reads) h) }

    pub done : next ≡ 0 → Sought ws rows count row place last
    done e = ends (rw e (omega arith))

    module _ {here : ℕ} (ne : next ≡ 0 → ⊥) (at : here ≡ get_or ws (rows + 4 * (next - 1)) 0) where
      here_is : here ≡ high (place_at ws rows) row next
      here_is = at ∙ place_of ws rows row next ne

      pub past : place < here → Sought ws rows count row place last
      past h = ends (rw (← here_is) h)

      -- in a pool the list rises
      pub back : here < floor → Sought ws rows count row place last
      back h = no_pool (λ width log P. omega (arith, here_is, (link_here width log P).above, (w.so width log P).1))

      pub go_on : next ≤ count → here ≤ place → {after : ℕ} → after ≡ next_in (get_or ws (rows + 4 * (next - 1) + 3) 0) → Walk ws rows count row place next (here + 1) after
      go_on hn h e = record {
        within = hn;
        reads = e ∙ link_of ws rows row next ne;
        under = omega arith;
        so = λ width log P. (
          ((link_here width log P).named, omega (arith, here_is, low_of ws rows row next ne)),
          omega (arith, here_is, low_of ws rows row next ne),
        );
      }
