-- The stack's run is the recursion by halves. The cubic with i others below it is at most 9 − i splits deep, so that a curved one has at most
-- eight below it: the stack is never full. One of n levels takes less than 2 · 2 ^ n steps, one for each split and each line, so that 1023 suffice.
use Prim.Native.Nat.{ℕ, zero, suc, ◌+◌, ◌-◌, ◌≤◌}
use mathlib.Core.Path.{◌≡◌, refl, sym, ap, ◌∙◌, subst}
use mathlib.Core.Bool.{Bool, true, false, not}
use mathlib.Core.List.{List, [], ◌∷◌, ◌++◌, append_assoc, append-nil}
use native.Mathlib.Omega.{arith}
use native.Mathlib.Nat.{le_of_suc-le-suc}
use lib.ListN.{length}
use lib.Dec.{T, lit≤}
use borrow.Author.Tests.{le-leb}
use Rattle.fixed.specs.declared.FixedPoint.{FixedPoint}
use Rattle.line.specs.Range.{Reach}
use Rattle.cubic.specs.Cubics.{Cubic, curved, start_half, end_half, cubic, cubic_from, cubic_points}
use Rattle.cubic.specs.Depth.{Flat, flat, split, Four, halves, stuck}
use Rattle.cubic.proofs.Depth.{flat_more, reach_flat}

-- ---- a cubic's tree

-- how many steps the stack takes over it: one for each split and one for each line
unfoldable pub nodes : ℕ → Cubic → ℕ
nodes zero k = 1
nodes (suc n) k = elim (curved k) [ true ↦ suc (nodes n (start_half k) + nodes n (end_half k)) | false ↦ 1 ]

unfoldable most : ℕ → ℕ
most zero = 1
most (suc n) = suc (most n + most n)

-- one that is not curved
pub flat_halves : (n : ℕ) (k : Cubic) → curved k ≡ false → halves n k ≡ k.p0 ∷ []
unfolding halves
flat_halves zero k e = refl
flat_halves (suc n) k e = rw (e, halves)

flat_nodes : (n : ℕ) (k : Cubic) → curved k ≡ false → nodes n k ≡ 1
unfolding nodes
flat_nodes zero k e = refl
flat_nodes (suc n) k e = rw (e, nodes)

-- one that is
split_halves : (n : ℕ) (k : Cubic) → curved k ≡ true → halves (suc n) k ≡ halves n (start_half k) ++ halves n (end_half k)
unfolding halves
split_halves n k e = rw (e, halves)

split_nodes : (n : ℕ) (k : Cubic) → curved k ≡ true → nodes (suc n) k ≡ suc (nodes n (start_half k) + nodes n (end_half k))
unfolding nodes
split_nodes n k e = rw (e, nodes)

-- either way
pub decide : {X : Type 0} (k : Cubic) → (curved k ≡ true → X) → (curved k ≡ false → X) → X
decide {X} k p q = go (curved k) refl
  where
    go : (b : Bool) → curved k ≡ b → X
    go true e = p e
    go false e = q e

nodes_most : (n : ℕ) (k : Cubic) → nodes n k ≤ most n
unfolding nodes most
nodes_most zero k = lit≤ tt
nodes_most (suc n) k =
    decide k
    (λ (e : curved k ≡ true). omega (arith, split_nodes n k e, nodes_most n (start_half k), nodes_most n (end_half k)))
    (λ (e : curved k ≡ false). omega (arith, flat_nodes (suc n) k e))

-- allowing more splits than it is deep changes nothing
pub halves_more : (n m : ℕ) (k : Cubic) → n ≤ m → Flat n k → halves m k ≡ halves n k
halves_more n m k h (flat e) = flat_halves m k e ∙ sym (flat_halves n k e)
halves_more (suc n) zero k h (split f g) = absurd (omega (arith, h))
halves_more (suc n) (suc m) k h (split f g) =
    decide k
    (λ (e : curved k ≡ true).
    split_halves m k e
    ∙ rw (halves_more n m (start_half k) (le_of_suc-le-suc h) f, halves_more n m (end_half k) (le_of_suc-le-suc h) g) (sym (split_halves n k e)))
    (λ (e : curved k ≡ false). flat_halves (suc m) k e ∙ sym (flat_halves (suc n) k e))

deeper_nodes : (n : ℕ) (k : Cubic) → Flat n k → nodes (suc n) k ≡ nodes n k
deeper_nodes n k (flat e) = flat_nodes (suc n) k e ∙ sym (flat_nodes n k e)
deeper_nodes (suc n) k (split f g) =
    decide k
    (λ (e : curved k ≡ true).
    split_nodes (suc n) k e ∙ rw (deeper_nodes n (start_half k) f, deeper_nodes n (end_half k) g) (sym (split_nodes n k e)))
    (λ (e : curved k ≡ false). flat_nodes (suc (suc n)) k e ∙ sym (flat_nodes (suc n) k e))

-- a curved one has a level left, and its halves are one less deep
no : {X : Type 0} {b : Bool} → b ≡ false → b ≡ true → X
no e c = let z : ◌≡◌ {A = Bool} false true = cc in absurd (subst (λ (b : Bool). T (not b)) z tt)

record Halved (n : ℕ) (k : Cubic) : Type 0 where
  pub level : 1 ≤ n
  pub start : Flat (n - 1) (start_half k)
  pub end : Flat (n - 1) (end_half k)

curved_halves : (n : ℕ) (k : Cubic) → Flat n k → curved k ≡ true → Halved n k
curved_halves n k (flat e) c = no e c
curved_halves (suc n) k (split f g) c = let u : suc n - 1 ≡ n = omega arith in record { level = omega arith; start = rw u f; end = rw u g }

-- ---- a stack of cubics, the top one first

-- the one with i others below it is at most 9 − i splits deep
pub data Stacked : List Cubic → Type 0 where
  none : Stacked []
  more : {k : Cubic} {ks : List Cubic} → Flat (9 - length ks) k → Stacked ks → Stacked (k ∷ ks)

-- the points to which its lines go, and the steps that it takes
unfoldable pub points : List Cubic → List FixedPoint
points [] = []
points (k ∷ ks) = halves 9 k ++ points ks

unfoldable pub steps : List Cubic → ℕ
steps [] = 0
steps (k ∷ ks) = nodes 9 k + steps ks

module _ (k : Cubic) (ks : List Cubic) (e : curved k ≡ false) where
  pub flat_points : points (k ∷ ks) ≡ k.p0 ∷ points ks
  unfolding points
  flat_points = rw (flat_halves 9 k e)

  pub flat_steps : steps (k ∷ ks) ≡ suc (steps ks)
  unfolding steps
  flat_steps = omega (arith, flat_nodes 9 k e)

module _ (k : Cubic) (ks : List Cubic) (e : curved k ≡ true) where
  pub split_stacked : Stacked (k ∷ ks) → Stacked (start_half k ∷ end_half k ∷ ks)
  split_stacked (more f s) =
      let h = curved_halves (9 - length ks) k f e in
      more (flat_more (9 - length ks - 1) (9 - suc (length ks)) (omega arith) h.start)
      (more (flat_more (9 - length ks - 1) (9 - length ks) (omega arith) h.end) s)

  pub split_few : Stacked (k ∷ ks) → length ks ≤ 8
  split_few (more f s) = omega (arith, (curved_halves (9 - length ks) k f e).level)

  pub split_points : Stacked (k ∷ ks) → points (k ∷ ks) ≡ points (start_half k ∷ end_half k ∷ ks)
  unfolding points
  split_points (more f s) =
      let h = curved_halves 9 k (flat_more (9 - length ks) 9 (omega arith) f) e in
      rw (split_halves 8 k e, append_assoc, halves_more 8 9 (start_half k) (lit≤ tt) h.start, halves_more 8 9 (end_half k) (lit≤ tt) h.end)

  pub split_steps : Stacked (k ∷ ks) → steps (k ∷ ks) ≡ suc (steps (start_half k ∷ end_half k ∷ ks))
  unfolding steps
  split_steps (more f s) =
      let h = curved_halves 9 k (flat_more (9 - length ks) 9 (omega arith) f) e in
      omega (arith, split_nodes 8 k e, deeper_nodes 8 (start_half k) h.start, deeper_nodes 8 (end_half k) h.end)

steps_some : (k : Cubic) (ks : List Cubic) → Stacked (k ∷ ks) → 1 ≤ steps (k ∷ ks)
steps_some k ks s =
    decide k (λ (e : curved k ≡ true). omega (arith, split_steps k ks e s)) (λ (e : curved k ≡ false). omega (arith, flat_steps k ks e))

-- ---- the rule, step by step
module _ (n : ℕ) (to : FixedPoint) (k : Cubic) where
  from_split : (ks : List Cubic) → curved k ≡ true → length ks ≤ 40 → cubic_from (suc n) to k ks ≡ cubic_from n to (start_half k) (end_half k ∷ ks)
  unfolding cubic_from
  from_split ks e h = rw (e, le-leb _ _ h, cubic_from)

  from_last : curved k ≡ false → cubic_from (suc n) to k [] ≡ k.p0 ∷ []
  unfolding cubic_from
  from_last e = rw (e, cubic_from)

  from_next : (w : Cubic) (ws : List Cubic) → curved k ≡ false → cubic_from (suc n) to k (w ∷ ws) ≡ k.p0 ∷ cubic_from n to w ws
  unfolding cubic_from
  from_next w ws e = rw (e, cubic_from)

module _ (n : ℕ) (k : Cubic) where
  stuck_split : (ks : List Cubic) → curved k ≡ true → length ks ≤ 40 → stuck (suc n) k ks ≡ stuck n (start_half k) (end_half k ∷ ks)
  unfolding stuck
  stuck_split ks e h = rw (e, le-leb _ _ h, stuck)

  stuck_last : curved k ≡ false → stuck (suc n) k [] ≡ false
  unfolding stuck
  stuck_last e = rw (e, stuck)

  stuck_next : (w : Cubic) (ws : List Cubic) → curved k ≡ false → stuck (suc n) k (w ∷ ws) ≡ stuck n w ws
  unfolding stuck
  stuck_next w ws e = rw (e, stuck)

-- from any stack, with as many steps as it takes
runs : (n : ℕ) (to : FixedPoint) (k : Cubic) (ks : List Cubic) → Stacked (k ∷ ks) → steps (k ∷ ks) ≤ n → cubic_from n to k ks ≡ points (k ∷ ks)
unfolding points
runs zero to k ks s h = absurd (omega (arith, steps_some k ks s))
runs (suc n) to k [] s h =
    decide k
    (λ (e : curved k ≡ true).
    from_split n to k [] e (omega arith)
    ∙ runs n to (start_half k) (end_half k ∷ []) (split_stacked k [] e s) (omega (arith, split_steps k [] e s))
    ∙ sym (split_points k [] e s))
    (λ (e : curved k ≡ false). from_last n to k e ∙ sym (flat_points k [] e))
runs (suc n) to k (w ∷ ws) (more f s) h =
    decide k
    (λ (e : curved k ≡ true).
    from_split n to k (w ∷ ws) e (omega (arith, split_few k (w ∷ ws) e (more f s)))
    ∙ runs n to (start_half k) (end_half k ∷ w ∷ ws) (split_stacked k (w ∷ ws) e (more f s)) (omega (arith, split_steps k (w ∷ ws) e (more f s)))
    ∙ sym (split_points k (w ∷ ws) e (more f s)))
    (λ (e : curved k ≡ false).
    from_next n to k w ws e ∙ ap (λ ps. k.p0 ∷ ps) (runs n to w ws s (omega (arith, flat_steps k (w ∷ ws) e))) ∙ sym (flat_points k (w ∷ ws) e))

free : (n : ℕ) (k : Cubic) (ks : List Cubic) → Stacked (k ∷ ks) → steps (k ∷ ks) ≤ n → stuck n k ks ≡ false
free zero k ks s h = absurd (omega (arith, steps_some k ks s))
free (suc n) k [] s h =
    decide k
    (λ (e : curved k ≡ true).
    stuck_split n k [] e (omega arith)
    ∙ free n (start_half k) (end_half k ∷ []) (split_stacked k [] e s) (omega (arith, split_steps k [] e s)))
    (λ (e : curved k ≡ false). stuck_last n k e)
free (suc n) k (w ∷ ws) (more f s) h =
    decide k
    (λ (e : curved k ≡ true).
    stuck_split n k (w ∷ ws) e (omega (arith, split_few k (w ∷ ws) e (more f s)))
    ∙ free n (start_half k) (end_half k ∷ w ∷ ws) (split_stacked k (w ∷ ws) e (more f s)) (omega (arith, split_steps k (w ∷ ws) e (more f s))))
    (λ (e : curved k ≡ false). stuck_next n k w ws e ∙ free n w ws s (omega (arith, flat_steps k (w ∷ ws) e)))

-- ---- a cubic that is at most nine deep
one_stacked : (k : Cubic) → Flat 9 k → Stacked (k ∷ [])
one_stacked k f = more f none

one_steps : (k : Cubic) → steps (k ∷ []) ≤ 1023
unfolding steps most
one_steps k = omega (arith, nodes_most 9 k)

module _ (a c d b : FixedPoint) where
  -- the rule's points are those of the stack that holds it alone
  nine_points : Flat 9 (cubic a c d b) → cubic_points a c d b ≡ points (cubic a c d b ∷ [])
  unfolding cubic_points
  nine_points f = runs 1024 b (cubic a c d b) [] (one_stacked _ f) (omega (arith, one_steps (cubic a c d b)))

  pub reach_points : Four Reach (cubic a c d b) → cubic_points a c d b ≡ points (cubic a c d b ∷ [])
  reach_points r = nine_points (reach_flat (cubic a c d b) r)

  -- and of the recursion by halves
  nine_halves : Flat 9 (cubic a c d b) → cubic_points a c d b ≡ halves 9 (cubic a c d b)
  unfolding points
  nine_halves f = nine_points f ∙ append-nil (halves 9 (cubic a c d b))

  pub reach_halves : (n : ℕ) → 9 ≤ n → Four Reach (cubic a c d b) → cubic_points a c d b ≡ halves n (cubic a c d b)
  reach_halves n h r = let f = reach_flat (cubic a c d b) r in nine_halves f ∙ sym (halves_more 9 n (cubic a c d b) h f)

  -- the full stack is never met, and 1024 steps suffice
  pub never_stuck : Four Reach (cubic a c d b) → stuck 1024 (cubic a c d b) [] ≡ false
  never_stuck r = free 1024 (cubic a c d b) [] (one_stacked _ (reach_flat (cubic a c d b) r)) (omega (arith, one_steps (cubic a c d b)))
