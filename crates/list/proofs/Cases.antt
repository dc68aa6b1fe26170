-- Which case of `step_at` and of `record_of` holds: each answer follows from the tests that lead to it, which are put into the definition.
use Prim.Native.Nat.{ℕ, ◌+◌, ◌-◌, ◌≤◌, ◌<◌}
use mathlib.Core.Path.{◌≡◌, ap}
use mathlib.Core.List.{List}
use mathlib.Core.Logic.{◌⊎◌, inl, inr}
use native.Mathlib.Omega.{arith}
use lib.ListN.{length, drop, take, length-drop}
use lib.Seq.{take_all}
use borrow.Author.Tests.{lt-ltb, le-ltb, le-leb, lt-leb, eq-eqb, ne_eqb}
use Rattle.std.specs.Prelude.{None, Ok, Err}
use Rattle.command.specs.declared.Command.{Command}
use Rattle.command.specs.declared.Verb.{Verb}
use Rattle.command.specs.Kinds.{kind_of}
use Rattle.command.proofs.Verbs.{from_1_to_5}
use Rattle.list.specs.declared.Reason.TheVariants.{Cut, Kind, Length}
use Rattle.list.specs.Records.{le16, step_of, recorded, step_at, record_of, body_of, length_of}

-- the part of a slice from a place on, as a slice's part is read
rest : (s : List ℕ) (a : ℕ) → take (length s - a) (drop a s) ≡ drop a s
rest s a = take_all (length s - a) (drop a s) (simp length-drop (omega arith))

module _ (s : List ℕ) (at : ℕ) where
  pub ended : length s ≤ at → Ok None ≡ step_at s at
  unfolding step_at
  ended h = simp (le-leb _ _ h)

  pub header_cut : at < length s → length s < at + 4 → Err Cut ≡ step_at s at
  unfolding step_at
  header_cut h g = simp (lt-leb _ _ h, lt-ltb _ _ g)

  module _ (n k : ℕ) where
    -- n and k are what the header says
    pub header_whole : at + 4 ≤ length s → n ≡ le16 s at → k ≡ le16 s (at + 2) → step_of (record_of n k s at) ≡ step_at s at
    unfolding step_at
    header_whole h p q = let g : at < length s = omega arith in simp (lt-leb _ _ g, le-ltb _ _ h) (rw (← p, ← q))

    pub kind_wrong : (k < 1) ⊎ (5 < k) → Err Kind ≡ record_of n k s at
    unfolding record_of
    kind_wrong (inl h) = simp (lt-ltb _ _ h)
    kind_wrong (inr g) = let h : 1 ≤ k = omega arith in simp (le-ltb _ _ h, lt-ltb _ _ g)

    -- v is the verb of kind k
    module _ (v : Verb) (is : kind_of v ≡ k) where
      pub length_wrong : (n ≡ length_of (kind_of v) → ⊥) → Err Length ≡ record_of n k s at
      unfolding record_of
      length_wrong e = let f = from_1_to_5 v in rw (← is) (simp (le-ltb _ _ f.0, le-ltb _ _ f.1, ne_eqb _ _ e))

      module _ (e : n ≡ length_of (kind_of v)) where
        pub body_cut : length s < at + (n + 2) → Err Cut ≡ record_of n k s at
        unfolding record_of
        body_cut l = let f = from_1_to_5 v in rw (← is) (simp (le-ltb _ _ f.0, le-ltb _ _ f.1, eq-eqb _ _ e, lt-ltb _ _ l))

        -- b is the command of the part behind the header, and the record ends at m
        pub whole : at + (n + 2) ≤ length s → (b : Command) → b ≡ body_of (kind_of v) (take (length s - (at + 4)) (drop (at + 4) s)) → (m : ℕ) → m ≡ at + (n + 2) → Ok (recorded b m) ≡ record_of n k s at
        unfolding record_of
        whole l b p m q =
            let f = from_1_to_5 v in
            rw (← is, q) (simp (le-ltb _ _ f.0, le-ltb _ _ f.1, eq-eqb _ _ e, le-ltb _ _ l) (ap (λ (x : Command). Ok (recorded x (at + (n + 2)))) (rw (rest s (at + 4)) at p)))
