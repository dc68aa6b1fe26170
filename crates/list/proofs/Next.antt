-- What a loop over records leans on: the end stands at the list's end and nowhere else, and a record ends four to 28 bytes past where it starts,
-- within the list. Each holds by going through the tests of `step_at`.
use Prim.Native.Nat.{ℕ, ◌+◌, ◌-◌, ◌≤◌, ◌<◌}
use mathlib.Core.Path.{◌≡◌, refl, sym, subst}
use mathlib.Core.Bool.{Bool, true, false, cond, not, ◌||◌}
use mathlib.Core.List.{List}
use native.Mathlib.Omega.{arith}
use lib.Dec.{ltb, leb, eqb}
use lib.ListN.{length}
use borrow.Author.Tests.{ltb-false, leb-true, leb-false, eqb-true, not-false}
use Rattle.std.specs.Prelude.{Some, None, Result, Ok, Err}
use Rattle.command.specs.declared.Command.{Command}
use Rattle.list.specs.declared.Record.{Record}
use Rattle.list.specs.declared.Reason.{Reason}
use Rattle.list.specs.Records.{le16, Step, found, step_of, step_at, record_of, length_of}
use Rattle.list.proofs.Cases.{ended}

-- where the record at a place may end
pub record Within (s : List ℕ) (at next : ℕ) : Type 0 where
  pub past : at + 4 ≤ next
  pub near : next ≤ at + 28
  pub inside : next ≤ length s

-- a test with the answer that it gave
pub pick : {X : Type 0} (b : Bool) (x y : X) (P : X → Type 0) → (b ≡ true → P x) → (b ≡ false → P y) → P (cond b x y)
pick true x y P f g = f refl
pick false x y P f g = g refl

abbrev Lengths : ℕ → Type 0
Lengths n = (2 ≤ n) × (n ≤ 26)

lengths : (k : ℕ) → Lengths (length_of k)
unfolding length_of
lengths k =
    pick (eqb k 1) _ _ Lengths (λ e. (omega arith, omega arith))
    (λ e. pick (eqb k 2) _ _ Lengths (λ e. (omega arith, omega arith))
    (λ e. pick (eqb k 3) _ _ Lengths (λ e. (omega arith, omega arith))
    (λ e. pick (eqb k 4) _ _ Lengths (λ e. (omega arith, omega arith)) (λ e. (omega arith, omega arith)))))

module _ (s : List ℕ) (at : ℕ) where
  -- what each answer says of the place
  abbrev Placed : Step → Type 0
  Placed (Ok None) = length s ≤ at
  Placed (Ok (Some r)) = Within s at r.next
  Placed (Err why) = at < length s

  abbrev PlacedRecord : Result Record Reason → Type 0
  PlacedRecord r = Placed (step_of r)

  record_placed : (n k : ℕ) → at < length s → PlacedRecord (record_of n k s at)
  unfolding record_of
  record_placed n k h =
      pick (ltb k 1 || ltb 5 k) _ _ PlacedRecord (λ e. h)
      (λ e. pick (not (eqb n (length_of k))) _ _ PlacedRecord (λ e. h)
      (λ (a : not (eqb n (length_of k)) ≡ false). pick (ltb (length s) (at + (n + 2))) _ _ PlacedRecord (λ e. h)
      (λ (b : ltb (length s) (at + (n + 2)) ≡ false).
      let e : n ≡ length_of k = eqb-true n (length_of k) (not-false _ a) in
      let l = lengths k in
      record { past = omega arith; near = omega arith; inside = ltb-false _ _ b })))

  placed : Placed (step_at s at)
  unfolding step_at
  placed =
      pick (leb (length s) at) _ _ Placed (λ (e : leb (length s) at ≡ true). leb-true _ _ e)
      (λ (e : leb (length s) at ≡ false).
      let h = leb-false _ _ e in
      pick (ltb (length s) (at + 4)) _ _ Placed (λ e. h) (λ e. record_placed (le16 s at) (le16 s (at + 2)) h))

  -- at or past the list's end there is the end, and the end is nowhere else
  pub at_end : length s ≤ at → step_at s at ≡ Ok None
  at_end h = sym (ended s at h)

  pub end_at : step_at s at ≡ Ok None → length s ≤ at
  end_at e = subst Placed e placed

  pub refused_at : (w : Reason) → step_at s at ≡ Err w → at < length s
  refused_at w e = subst Placed e placed

  module _ (c : Command) (next : ℕ) (e : step_at s at ≡ found c next) where
    pub next_in_is : Within s at next
    next_in_is = subst Placed e placed

    -- the loop's measure falls
    pub further : length s - next < length s - at
    further = let w = next_in_is in omega arith
