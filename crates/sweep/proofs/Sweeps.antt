-- The sweep of a row. Up to the column that it has come to each pixel has its byte, and the sum is the row's cover up to there; in a pool the next link
-- leads to the first cell from there on, so that no pixel before it has one.
use Rattle.std.proofs.Common.{◌≡◌, ℕ, zero, suc, ◌+◌, ◌-◌, ◌*◌, ◌/◌, ◌%◌, ◌^◌, ◌<◌, ◌≤◌, false, eqb, List, length, get_or, sym, refl, ap, ◌∙◌, ap₂, add-zero, arith}
use native.Mathlib.Decide.{dec_lt, ℕ_discrete}
use Rattle.storage.specs.Deposits.{per_row, Deposit, known, sum_of, cover_of, area_of}
use Rattle.storage.specs.Cells.{Named, low, high, Link, Cell, next_in, place_at, word, Holds}
use Rattle.sweep.specs.declared.Fill.{Fill}
use Rattle.sweep.specs.Pixels.{signed, byte_of, cover_up_to, pixel}
use Rattle.sweep.specs.Rows.{Painted, CellSwept}
use Rattle.storage.proofs.Sums.{sum_unknown}
use Rattle.sweep.proofs.Spans.{span, span_gap, span_more, span_none, span_upto}
use Rattle.storage.proofs.Walk.{place_of, link_of, low_of, named_le}

-- a link that is not 0 names a cell of the row
named_at : (place : ℕ → ℕ) (count row n : ℕ) → (n ≡ 0 → ⊥) → Named place count row n → (n - 1 < count) × (place (n - 1) / per_row ≡ row)
named_at place count row zero h m = absurd (h refl)
named_at place count row (suc j) h m = let e : suc j - 1 ≡ j = omega arith in (omega arith, ap (λ (k : ℕ). place k / per_row) e ∙ m.1)

-- a pixel, from the cover up to it and the area at it
pixel_is : (fill : Fill) (log : List Deposit) (row x v a w : ℕ) → v ≡ sum_of cover_of (span (per_row * row) (per_row * row + x + 1 + 1)) log
    → a ≡ sum_of area_of (eqb (per_row * row + x + 1)) log → w ≡ (512 * v + (2 ^ 32 - a)) % 2 ^ 32 → byte_of fill (signed w) ≡ pixel fill log row x
unfolding pixel
pixel_is fill log row x v a w e f g =
    let q : v ≡ cover_up_to log row x = e ∙ sym (span_upto cover_of (per_row * row) (per_row * row + x + 1) log) in
    ap (λ (n : ℕ). byte_of fill (signed n)) (g ∙ ap₂ (λ (m n : ℕ). (512 * m + (2 ^ 32 - n)) % 2 ^ 32) q f)

-- a pixel that no cell has
pixel_run : (fill : Fill) (log : List Deposit) (row low high cover : ℕ) → cover ≡ sum_of cover_of (span (per_row * row) (per_row * row + low)) log
    → ((p : ℕ) → per_row * row + low ≤ p → p < per_row * row + high → known log p ≡ false)
    → (x : ℕ) → low ≤ x + 1 → x + 1 < high → byte_of fill (signed ((512 * cover) % 2 ^ 32)) ≡ pixel fill log row x
pixel_run fill log row low high cover e gap x a b =
    pixel_is fill log row x cover 0 ((512 * cover) % 2 ^ 32)
    (e ∙ sym (span_gap cover_of (per_row * row) (per_row * row + low) (per_row * row + x + 1 + 1) log (omega arith) (λ p h g. gap p h (omega arith))))
    (sym (sum_unknown area_of (per_row * row + x + 1) log (gap (per_row * row + x + 1) (omega arith) (omega arith))))
    (omega arith)

-- how far the sweep has come: low columns are done, counted from column -1
pub record Reached (ws d' : List ℕ) (rows count row : ℕ) (fill : Fill) (log : List Deposit) (at cover next : ℕ) : Type 0 where
  pub link : Link (place_at ws rows) count log row (per_row * row + at) next
  pub sum : cover ≡ sum_of cover_of (span (per_row * row) (per_row * row + at)) log
  pub done : (x : ℕ) → x + 1 < at → get_or d' x 0 ≡ pixel fill log row x

pub record Sweep (ws d d' : List ℕ) (rows count row width : ℕ) (fill : Fill) (at cover next : ℕ) : Type 0 where
  pub top : at ≤ width + 1
  pub long : length d' ≡ length d
  pub behind : (x : ℕ) → width ≤ x → get_or d' x 0 ≡ get_or d x 0
  pub so : (log : List Deposit) → Holds ws rows width count log → Reached ws d' rows count row fill log at cover next

module _ {ws d : List ℕ} {rows count row width : ℕ} {fill : Fill} (hrow : row < rows) where
  pub begin : Sweep ws d d rows count row width fill 0 0 (next_in (get_or ws row 0))
  begin = record {
    top = omega arith;
    long = refl;
    behind = λ x h. refl;
    so = λ log P. record {
      link = rw add-zero (P.pool.links row 0 hrow tt);
      sum = rw add-zero (sym (span_none cover_of (per_row * row) log));
      done = λ x h. absurd (omega arith);
    };
  }

  module _ {d' : List ℕ} {at cover next : ℕ} (s : Sweep ws d d' rows count row width fill at cover next) where
    pub far : count < next → (log : List Deposit) → Holds ws rows width count log → ⊥
    far h log P = omega (arith, named_le (place_at ws rows) count row next (s.so log P).link.named)

    pub finish : {d'' : List ℕ} {b : ℕ} → width < per_row → next ≡ 0 → Painted d' d'' at (width + 1) b → b ≡ byte_of fill (signed ((512 * cover) % 2 ^ 32))
        → (log : List Deposit) → Holds ws rows width count log → (x : ℕ) → x < width → get_or d'' x 0 ≡ pixel fill log row x
    finish {d''} hw e p f log P x h = go (dec_lt (x + 1) at)
      where
        R : Reached ws d' rows count row fill log at cover next
        R = s.so log P

        go : Dec (x + 1 < at) → get_or d'' x 0 ≡ pixel fill log row x
        go (yes g) = p.before x g ∙ R.done x g
        go (no g) =
            p.inside x (omega arith) (omega arith) ∙ f
            ∙ pixel_run fill log row at (width + 1) cover R.sum (λ q a b. R.link.gap q a (rw e (omega arith))) x (omega arith) (omega arith)

    module _ {here : ℕ} (ne : next ≡ 0 → ⊥) (e : here ≡ get_or ws (rows + 4 * (next - 1)) 0) where
      here_is : here ≡ high (place_at ws rows) row next
      here_is = e ∙ place_of ws rows row next ne

      pub back : here < per_row * row + at → (log : List Deposit) → Holds ws rows width count log → ⊥
      back h log P = omega (arith, here_is, (s.so log P).link.above)

      pub outside : width < here - per_row * row → (log : List Deposit) → Holds ws rows width count log → ⊥
      outside h log P =
          let m = named_at (place_at ws rows) count row next ne (s.so log P).link.named in
          omega (arith, m, (P.pool.cells (next - 1) m.0).column)

      module _ (log : List Deposit) (P : Holds ws rows width count log) (from : per_row * row + at ≤ here) {r : ℕ}
          (add : r ≡ (cover + get_or ws (rows + 4 * (next - 1) + 1) 0) % 2 ^ 32) where
        R : Reached ws d' rows count row fill log at cover next
        R = s.so log P

        C : Cell (place_at ws rows) (word ws rows 1) (word ws rows 2) width log (next - 1)
        C = P.pool.cells (next - 1) (named_at (place_at ws rows) count row next ne R.link.named).0

        gap : (p : ℕ) → per_row * row + at ≤ p → p < here → known log p ≡ false
        gap p a b = R.link.gap p a (rw (← here_is) b)

        -- the sum with the cell's cover
        sum_next : r ≡ sum_of cover_of (span (per_row * row) (here + 1)) log
        sum_next =
            omega (
              arith,
              add,
              R.sum,
              C.cover_sum ∙ ap (λ (p : ℕ). sum_of cover_of (eqb p) log) (sym e),
              span_gap cover_of (per_row * row) (per_row * row + at) here log from gap,
              span_more cover_of (per_row * row) here log (omega arith),
            )

        -- the cell's pixel
        pixel_cell : (x : ℕ) → x + 1 ≡ here - per_row * row → byte_of fill (signed ((512 * r + (2 ^ 32 - get_or ws (rows + 4 * (next - 1) + 2) 0)) % 2 ^ 32)) ≡ pixel fill log row x
        pixel_cell x h =
            let q : here ≡ per_row * row + x + 1 = omega arith in
            pixel_is fill log row x r (get_or ws (rows + 4 * (next - 1) + 2) 0) ((512 * r + (2 ^ 32 - get_or ws (rows + 4 * (next - 1) + 2) 0)) % 2 ^ 32)
            (sum_next ∙ ap (λ (p : ℕ). sum_of cover_of (span (per_row * row) (p + 1)) log) q)
            (C.area_sum ∙ ap (λ (p : ℕ). sum_of area_of (eqb p) log) (sym e ∙ q))
            refl

        next_link : {after : ℕ} → after ≡ next_in (get_or ws (rows + 4 * (next - 1) + 3) 0) → Link (place_at ws rows) count log row (here + 1) after
        next_link f = rw (f, link_of ws rows row next ne, here_is, ← low_of ws rows row next ne) (P.pool.links row next hrow R.link.named)

      pub more : {d'' : List ℕ} {r after : ℕ} → per_row * row + at ≤ here → here - per_row * row ≤ width
          → CellSwept ws (rows + 4 * (next - 1)) d' d'' at (here - per_row * row) cover fill r
          → length d'' ≡ length d' → after ≡ next_in (get_or ws (rows + 4 * (next - 1) + 3) 0)
          → Sweep ws d d'' rows count row width fill (here - per_row * row + 1) r after
      more {d''} {r} {after} from hw p len f = record {
        top = omega arith;
        long = len ∙ s.long;
        behind = λ x h. p.behind x (omega arith) ∙ s.behind x h;
        so = λ log P. record {
          link = rw at_here (next_link log P from p.sum f);
          sum = rw at_here (sum_next log P from p.sum);
          done = λ x h. go log P x h (dec_lt (x + 1) at) (ℕ_discrete (x + 1) (here - per_row * row));
        };
      }
        where
          at_here : per_row * row + (here - per_row * row + 1) ≡ here + 1
          at_here = omega arith

          go : (log : List Deposit) → Holds ws rows width count log → (x : ℕ) → x + 1 < here - per_row * row + 1 → Dec (x + 1 < at) → Dec (x + 1 ≡ here - per_row * row)
              → get_or d'' x 0 ≡ pixel fill log row x
          go log P x h (yes g) k = p.before x g ∙ (s.so log P).done x g
          go log P x h (no g) (yes k) = p.here x k ∙ pixel_cell log P from p.sum x k
          go log P x h (no g) (no k) =
              p.inside x (omega arith) (omega arith)
              ∙ pixel_run fill log row at (here - per_row * row) cover (s.so log P).sum (λ q a b. gap log P from p.sum q a (omega arith)) x (omega arith) (omega arith)
