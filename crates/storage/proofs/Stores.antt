-- What `insert` and `store` leave, by where the walk ended.
use Rattle.std.proofs.Common.{◌≡◌, ℕ, zero, suc, ◌+◌, ◌-◌, ◌*◌, ◌^◌, ◌<◌, ◌≤◌, true, false, List, [], ◌∷◌, ◌++◌, length, get_or, sym, refl, ◌∙◌, subst, true≢false, add-one, arith, length-set, eq-eqb, eqb-true}
use Rattle.std.specs.Prelude.{Option, None, Some}
use Rattle.storage.specs.Deposits.{per_row, place_of, Deposit, given}
use Rattle.storage.specs.Cells.{half, low, place_at, next_in, links_of, link_at, link_word, Holds, with_pair, with_cell, with_next, with_back, with_linked, with_new}
use Rattle.storage.specs.Answers.{Sought, is_at, Stored}
use Rattle.storage.proofs.Sums.{distinct_new}
use Rattle.storage.proofs.Held.{held_again, held_back, held_new}

-- ---- insert

module _ (ws : List ℕ) (rows count row last place cover area : ℕ) where
  -- the steps of an insertion, up to the link back of the cell that follows
  module _ {behind next links : ℕ} {ws₁ ws₂ ws₃ : List ℕ} (e : behind ≡ link_word rows row last) (f : next ≡ next_in (get_or ws behind 0)) (g : links ≡ links_of next last)
      (e₁ : ws₁ ≡ with_cell ws (rows + 4 * count) place cover area links) (e₂ : ws₂ ≡ with_next ws₁ behind (count + 1)) (e₃ : ws₃ ≡ with_back ws₂ row (count + 1)) where
    led : ws₃ ≡ with_linked ws rows count row last place cover area
    led = rw (e₃, e₂, e₁, g, f, e) refl

    next_is : next ≡ link_at ws rows row last
    next_is = rw (f, e) refl

-- ---- store

-- a link that names the cell of a place
pub is_at_true : (ws : List ℕ) (rows place n : ℕ) → is_at ws rows place n ≡ true → (n ≡ suc (n - 1)) × (place_at ws rows (n - 1) ≡ place)
is_at_true ws rows place zero e = absurd (true≢false (sym e))
is_at_true ws rows place (suc k) e = (omega arith, rw (pred k) (eqb-true (place_at ws rows k) place e))
  where
    pred : (k : ℕ) → suc k - 1 ≡ k
    pred k = omega arith

-- and one that is not past it, and does not
before_place : (ws : List ℕ) (rows row place n : ℕ) → is_at ws rows place n ≡ false → per_row * row ≤ place → low (place_at ws rows) row n ≤ place + 1
    → low (place_at ws rows) row n ≤ place
before_place ws rows row place zero e f h = f
before_place ws rows row place (suc k) e f h =
    let ne : place_at ws rows k ≡ place → ⊥ = λ q. true≢false (sym (eq-eqb (place_at ws rows k) place q) ∙ e) in
    omega arith

module _ (ws : List ℕ) (rows cap count row column cover area : ℕ) where
  abbrev pub Told : List ℕ → Option ℕ → Type 0
  Told ws' r =
      (width : ℕ) (log : List Deposit) → column ≤ width → Holds ws rows width count log → Stored ws' rows width cap (log ++ (given row column cover area ∷ [])) r

  module _ (hrow : row < rows) (last : ℕ) (s : Sought ws rows count row (place_of row column) last) where
    pub at_cell : rows + 4 * count ≤ length ws → is_at ws rows (place_of row column) last ≡ true
        → (ws₁ ws' : List ℕ) → ws₁ ≡ with_pair ws (rows + 4 * (last - 1)) cover area → ws' ≡ with_back ws₁ row last → Told ws' (Some count)
    at_cell fits i ws₁ ws' e f width log hw P =
        let k = is_at_true ws rows (place_of row column) last i in
        rw (f, e)
        (held_back (with_pair ws (rows + 4 * (last - 1)) cover area) rows width count (log ++ (given row column cover area ∷ []))
        (held_again ws rows width count log P fits (given row column cover area) (last - 1) (omega (arith, k.0, s.within)) k.1)
        row 0 last hrow (simp length-set (omega arith)))

    module _ (hcol : column < per_row) (i : is_at ws rows (place_of row column) last ≡ false) where
      from : (width : ℕ) (log : List Deposit) → Holds ws rows width count log → low (place_at ws rows) row last ≤ place_of row column
      from width log P = before_place ws rows row (place_of row column) last i (omega arith) (s.so width log P).0.1

      pub at_full : cap ≤ count → Told ws None
      at_full h width log hw P =
          let L = P.pool.links row last hrow (s.so width log P).0.0 in
          let n = distinct_new (given row column cover area) log (L.gap (place_of row column) (from width log P) (s.so width log P).1) in
          omega (arith, P.pool.counted)

      pub at_gap : cover < 2 ^ 32 → area < 2 ^ 32 → rows + 4 * count + 3 < length ws → count + 1 < half
          → (ws' : List ℕ) → ws' ≡ with_new ws rows count row last (place_of row column) cover area → Told ws' (Some (count + 1))
      at_gap hc ha more few ws' e width log hw P =
          let S = s.so width log P in
          rw e
          (subst (λ (n : ℕ). Holds (with_new ws rows count row last (place_of row column) cover area) rows width n (log ++ (given row column cover area ∷ [])))
          (sym (add-one count))
          (held_new ws rows width count log P (omega arith) (given row column cover area) row last hrow S.0.0 (omega arith) (omega arith) (from width log P) S.1 hc ha more few))
