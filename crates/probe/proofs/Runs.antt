-- A run of `mz_probe_stores`, from lent words to its answer, and what of it is one.
use Prim.Native.Nat.{ℕ, ◌≤◌, ◌<◌}
use mathlib.Core.Path.{◌≡◌, refl, sym, ap, ◌∙◌}
use mathlib.Core.Bool.{Bool, true, false, cond, ◌&&◌}
use mathlib.Core.List.{List, ◌++◌}
use native.Mathlib.Omega.{arith}
use lib.Dec.{T, leb, leb→le}
use lib.ListN.{length, drop, replicate, length-append, length-drop, length-replicate}
use borrow.Author.Tests.{lt-leb, le-leb}
use Rattle.std.specs.Prelude.{Option, None, Some}
use Rattle.storage.specs.Deposits.{Deposit, distinct}
use Rattle.storage.specs.Answers.{most_rows, most_cells, kept_of}
use Rattle.storage.specs.Storing.{Deposited}
use Rattle.storage.proofs.Pools.{whole}
use Rattle.path.specs.Pouring.{pool_of}
use Rattle.probe.specs.Probes.{last_column, deposits_of, Run, unpooled, pooled, run_of, no_cells, cells_of, Left, Ran}

module _ (rows : ℕ) (pairs ws : List ℕ) where
  abbrev run : Run
  run = run_of rows (length ws) (deposits_of rows pairs)

  ran : {ws' : List ℕ} {r : ℕ} (u : Run) → run ≡ u → r ≡ cells_of u → Left rows (deposits_of rows pairs) ws ws' u → Ran rows pairs ws ws' r
  ran u e t l = record { told = rw e t; left = rw e l }

  many_rows : most_rows < rows → run ≡ unpooled
  unfolding run_of
  many_rows h = simp (lt-leb _ _ h)

  few_words : rows ≤ most_rows → length ws < rows → run ≡ unpooled
  unfolding run_of
  few_words h g = simp (le-leb _ _ h, lt-leb _ _ g)

  fits : rows ≤ most_rows → rows ≤ length ws → run ≡ pooled (kept_of (pool_of rows (length ws)) (distinct (deposits_of rows pairs)))
  unfolding run_of
  fits h g = simp (le-leb _ _ h, le-leb _ _ g)

  -- ---- the four ways in which it ends

  pub too_many_rows : most_rows < rows → Ran rows pairs ws ws no_cells
  too_many_rows h = ran unpooled (many_rows h) refl refl

  pub too_few_words : rows ≤ most_rows → length ws < rows → Ran rows pairs ws ws no_cells
  too_few_words h g = ran unpooled (few_words h g) refl refl

  module _ (h : rows ≤ most_rows) (g : rows ≤ length ws) {cap : ℕ} (c : cap ≡ pool_of rows (length ws)) {ws' ws'' : List ℕ} (e : ws' ≡ replicate rows 0 ++ drop rows ws)
      {k : Option ℕ} (d : Deposited ws' ws'' rows last_column cap 0 (deposits_of rows pairs) k) where
    kept : run ≡ pooled k
    kept = fits h g ∙ ap pooled (sym (rw c at (whole (drop rows ws) e d).0))

    long : length ws'' ≡ length ws
    long = d.long ∙ ap length e ∙ simp (length-append, length-replicate, length-drop) (omega arith)

    pub all_stored : (n : ℕ) → k ≡ Some n → Ran rows pairs ws ws'' n
    all_stored n q = ran (pooled (Some n)) (kept ∙ ap pooled q) refl (rw q at (whole (drop rows ws) e d).1)

    pub too_many_places : {ws''' : List ℕ} → k ≡ None → ws''' ≡ replicate (length ws'') 0 → Ran rows pairs ws ws''' no_cells
    too_many_places q z = ran (pooled None) (kept ∙ ap pooled q) refl (rw long at z)

-- ---- 65,535 is no number of cells, and fixes the words

-- x says that the sizes are a pool's, y that it has room for d cells
few : (x y : Bool) (d n : ℕ) → (T y → d ≤ most_cells) → cond x (pooled (cond y (Some d) None)) unpooled ≡ pooled (Some n) → n ≤ most_cells
few true true d n h e = let same : d ≡ n = cc in omega (arith, h tt)
few true false d n h e = let z : ◌≡◌ {A = ℕ} 0 1 = cc in absurd (omega arith)
few false y d n h e = let z : ◌≡◌ {A = ℕ} 0 1 = cc in absurd (omega arith)

few_cells : (rows words : ℕ) (log : List Deposit) (n : ℕ) → run_of rows words log ≡ pooled (Some n) → n ≤ most_cells
unfolding run_of
few_cells rows words log n e =
    few (leb rows most_rows && leb rows words) (leb (distinct log) (pool_of rows words)) (distinct log) n
    (λ t. let h = leb→le (distinct log) (pool_of rows words) t in omega arith) e

one_list : (rows : ℕ) (log : List Deposit) (ws a b : List ℕ) (u : Run) → run_of rows (length ws) log ≡ u → cells_of u ≡ no_cells → Left rows log ws a u → Left rows log ws b u → a ≡ b
one_list rows log ws a b (pooled (Some n)) e q l m = absurd (omega (arith, few_cells rows (length ws) log n e))
one_list rows log ws a b (pooled None) e q l m = l ∙ sym m
one_list rows log ws a b unpooled e q l m = l ∙ sym m

pub left_one : {rows : ℕ} {pairs ws a b : List ℕ} {r r' : ℕ} → Ran rows pairs ws a r → Ran rows pairs ws b r' → r ≡ no_cells → a ≡ b
left_one {rows} {pairs} {ws} {a} {b} p q e =
    one_list rows (deposits_of rows pairs) ws a b (run_of rows (length ws) (deposits_of rows pairs)) refl (sym p.told ∙ e) p.left q.left
