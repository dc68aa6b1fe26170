-- Pairs stored one behind the other: what each stores, and how the loop goes on.
use Prim.Native.Nat.{ℕ, ◌≤◌, ◌<◌}
use mathlib.Core.Path.{◌≡◌, refl, sym, ap, ◌∙◌}
use mathlib.Core.List.{List, [], ◌∷◌, ◌++◌, append_assoc, append-nil}
use native.Mathlib.Omega.{arith}
use lib.ListN.{length, get_or}
use borrow.Author.Tests.{lt-ltb}
use Rattle.std.specs.Prelude.{Option, None, Some}
use Rattle.storage.specs.Deposits.{per_row, Deposit}
use Rattle.storage.specs.declared.limits.Sizes.{Sizes}
use Rattle.storage.specs.declared.Entry.{Entry}
use Rattle.storage.specs.Storing.{Storing, Deposited}
use Rattle.storage.proofs.Pools.{deposited_none, deposited_one, deposited_then, deposited_full}
use Rattle.probe.specs.Probes.{last_column, deposit_of, deposits_of}

-- ---- one pair

-- of a pair inside; that one outside stores nothing, the check finds alone
pub inside : {s : Sizes} {e : Entry} {ws ws' : List ℕ} {r : Option ℕ} → e.row < s.rows → e.column < per_row → Storing ws ws' s e r
    → Deposited ws ws' s.rows last_column s.cap s.count (deposit_of s.rows e.row e.column e.cover e.area) r
inside h g t = simp (lt-ltb _ _ h, lt-ltb _ _ g) (deposited_one (omega arith) t)

-- ---- a list of pairs

-- what four numbers store
abbrev pub deposit_at : ℕ → List ℕ → List Deposit
deposit_at rows x = deposit_of rows (get_or x 0 0) (get_or x 1 0) (get_or x 2 0) (get_or x 3 0)

-- the four numbers of a pair come before those of the pairs behind it
four : (rows : ℕ) (x zs : List ℕ) → length x ≡ 4 → deposits_of rows (x ++ zs) ≡ deposit_at rows x ++ deposits_of rows zs
unfolding deposits_of
four rows [] zs h = absurd (omega arith)
four rows (a ∷ []) zs h = absurd (omega arith)
four rows (a ∷ (b ∷ [])) zs h = absurd (omega arith)
four rows (a ∷ (b ∷ (c ∷ []))) zs h = absurd (omega arith)
four rows (a ∷ (b ∷ (c ∷ (d ∷ [])))) zs h = refl
four rows (a ∷ (b ∷ (c ∷ (d ∷ (e ∷ x))))) zs h = absurd (omega arith)

-- three numbers or fewer are no pair
short : (rows : ℕ) (ps : List ℕ) → length ps < 4 → deposits_of rows ps ≡ []
unfolding deposits_of
short rows [] h = refl
short rows (a ∷ []) h = refl
short rows (a ∷ (b ∷ [])) h = refl
short rows (a ∷ (b ∷ (c ∷ []))) h = refl
short rows (a ∷ (b ∷ (c ∷ (d ∷ ps)))) h = absurd (omega arith)

module _ (rows cap first : ℕ) (pairs ws₀ : List ℕ) where
  -- the words hold what the pairs so far store; those of `rest` are left
  pub record Going (ws : List ℕ) (count : ℕ) (rest : List ℕ) : Type 0 where
    pub done : List Deposit
    pub all : done ++ deposits_of rows rest ≡ deposits_of rows pairs
    pub held : Deposited ws₀ ws rows last_column cap first done (Some count)

  pub started : first ≤ cap → Going ws₀ first pairs
  started h = record { done = []; all = refl; held = deposited_none h }

  module _ {ws : List ℕ} {count : ℕ} {rest : List ℕ} (g : Going ws count rest) where
    module _ (x zs : List ℕ) (len : length x ≡ 4) (is : rest ≡ x ++ zs) where
      split : (g.done ++ deposit_at rows x) ++ deposits_of rows zs ≡ deposits_of rows pairs
      split = append_assoc g.done (deposit_at rows x) (deposits_of rows zs) ∙ ap (λ (z : List Deposit). g.done ++ z) (sym (four rows x zs len)) ∙ (rw is at g.all)

      module _ {ws' : List ℕ} {r : Option ℕ} (d : Deposited ws ws' rows last_column cap count (deposit_at rows x) r) where
        pub goes_on : (n : ℕ) → r ≡ Some n → Going ws' n zs
        goes_on n e = record { done = g.done ++ deposit_at rows x; all = split; held = rw e at (deposited_then g.held d) }

        pub full : r ≡ None → Deposited ws₀ ws' rows last_column cap first (deposits_of rows pairs) None
        full e = rw (← split) (deposited_full (deposits_of rows zs) (rw e at (deposited_then g.held d)))

    pub stored : length rest < 4 → Deposited ws₀ ws rows last_column cap first (deposits_of rows pairs) (Some count)
    stored h =
        let all : g.done ≡ deposits_of rows pairs = rw append-nil at (rw (short rows rest h) at g.all) in
        rw (← all) g.held
