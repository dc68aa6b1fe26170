-- From what was poured to the rule's outcome: the rows are swept.
use Prim.Native.Nat.{ℕ, ◌≤◌, ◌<◌}
use mathlib.Core.Path.{◌≡◌}
use mathlib.Core.List.{List}
use native.Mathlib.Omega.{arith}
use lib.ListN.{length, replicate}
use Rattle.std.specs.Prelude.{Result, Ok, Err}
use borrow.Author.Tests.{lt-ltb, le-ltb}
use Rattle.storage.specs.Deposits.{distinct}
use Rattle.storage.specs.Cells.{Holds}
use Rattle.sweep.specs.Masks as masks
use Rattle.sweep.proofs.Mask.{mask_is}
use Rattle.path.specs.declared.Overfull.{Overfull}
use Rattle.path.specs.declared.Refusal.TheVariants as refusal
use Rattle.path.specs.Refusals.{refused_at}
use Rattle.path.specs.Inputs.{most_bytes}
use Rattle.path.specs.Storing.{overfull, Within}
use Rattle.label.specs.declared.Label.{Label}
use Rattle.label.specs.Checks.{rows}
use Rattle.label.specs.Draw.{drawn_with, pool_of, outcome, painted_of, log_of, room_for, ran_out, inked}
use Rattle.label.specs.Inking.{Sized, most_told, Poured, Inked}

-- counts and records are small enough to be told
pub tellable : (l : Label) (words bytes : ℕ) (k : Result ℕ Overfull) → bytes ≤ most_bytes → Within (pool_of l words) bytes k → Within most_told most_told k
tellable l words bytes (Ok n) b h = omega arith
tellable l words bytes (Err full) b h = omega arith

module _ (l : Label) (z : Sized l) where
  -- ---- the outcome
  module _ (records cut : ℕ) (s mask ws ws' : List ℕ) where
    pub inked_full : (i : ℕ) (k : Result ℕ Overfull) → k ≡ Err (overfull i) → Poured l s ws ws' k → (ws'' : List ℕ) → ws'' ≡ replicate (length ws') 0
        → Inked (ran_out l (length ws)) l records cut s mask ws (outcome (refused_at refusal.Full i) mask ws'')
    unfolding inked
    inked_full i k f p ws'' e =
        record {
          rule = λ cs a m m'.
              let log = log_of l cs in
              let full : (pool_of l (length ws) < distinct log) × (i ≡ room_for l (length ws) cs) = rw f at (p.stored cs a) in
              rw (lt-ltb _ _ full.0, full.1, e, p.same);
        }

    pub inked_cells : (n : ℕ) (k : Result ℕ Overfull) → k ≡ Ok n → Poured l s ws ws' k → (mask' : List ℕ) → masks.Swept ws' mask mask' (rows l) n l.width l.fill l.up l.pitch
        → (ws'' : List ℕ) → ws'' ≡ replicate (length ws') 0 → Inked (ran_out l (length ws)) l records cut s mask ws (outcome (drawn_with records n cut) mask' ws'')
    unfolding inked painted_of
    inked_cells n k f p mask' w ws'' e =
        record {
          rule = λ cs a m m'.
              let log = log_of l cs in
              let holds : Holds ws' (rows l) l.width n log = rw f at (p.stored cs a) in
              let few : n ≤ pool_of l (length ws) = rw f at p.within in
              let count : n ≡ distinct log = holds.pool.counted in
              let no : distinct log ≤ pool_of l (length ws) = omega arith in
              rw (le-ltb _ _ no, e, p.same, m, m', ← count, mask_is z.pitched w holds);
        }
