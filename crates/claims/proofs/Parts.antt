-- Parts of a log: what is known in them, how many places they have, and what they sum to.
use Prim.Native.Nat.{ℕ, ◌+◌, ◌-◌, ◌≤◌, ◌<◌}
use mathlib.Core.Path.{◌≡◌, refl, sym, ap, ◌∙◌}
use mathlib.Core.Bool.{Bool, true, false, not, ◌||◌, false≢true}
use mathlib.Core.List.{List, [], ◌∷◌}
use native.Mathlib.Omega.{arith}
use lib.Dec.{eqb, leb, ltb}
use borrow.Author.Tests.{leb-true, ltb-true, ltb-false, le-leb, lt-ltb, eqb-true, eq-eqb, ne_eqb}
use Rattle.storage.specs.Deposits.{Deposit, on, known, distinct, total}
use Rattle.line.proofs.Tests.{both_true}
use Rattle.claims.specs.Parts.{among, from, part}

-- two tests that hold together are one
pub same_test : (x y : Bool) → (x ≡ true → y ≡ true) → (y ≡ true → x ≡ true) → x ≡ y
same_test true true h g = refl
same_test false false h g = refl
same_test true false h g = absurd (false≢true (h refl))
same_test false true h g = absurd (false≢true (g refl))

-- ---- tests of places
pub record Among (lo hi p : ℕ) : Type 0 where
  pub low : lo ≤ p
  pub high : p < hi

module _ (lo hi p : ℕ) where
  pub among_is : Among lo hi p → among lo hi p ≡ true
  among_is h = rw (le-leb lo p h.low, lt-ltb p hi h.high)

  pub is_among : among lo hi p ≡ true → Among lo hi p
  is_among e = let h = both_true (leb lo p) (ltb p hi) e in record { low = leb-true lo p h.0; high = ltb-true p hi h.1 }

  pub among_not : (Among lo hi p → ⊥) → among lo hi p ≡ false
  among_not n = go (among lo hi p) refl
    where
      go : (t : Bool) → among lo hi p ≡ t → among lo hi p ≡ false
      go true e = absurd (n (is_among e))
      go false e = e

  pub not_among : among lo hi p ≡ false → Among lo hi p → ⊥
  not_among e h = false≢true (sym e ∙ among_is h)

-- ---- one deposit more
module _ (lo hi : ℕ) (d : Deposit) (ds : List Deposit) where
  pub part_in : among lo hi d.place ≡ true → part lo hi (d ∷ ds) ≡ from lo d ∷ part lo hi ds
  unfolding part
  part_in e = rw e

  pub part_out : among lo hi d.place ≡ false → part lo hi (d ∷ ds) ≡ part lo hi ds
  unfolding part
  part_out e = rw e

pub part_none : (lo hi : ℕ) → part lo hi [] ≡ []
unfolding part
part_none lo hi = refl

-- ---- a part of a part
from_from : (lo a : ℕ) (d : Deposit) → from a (from lo d) ≡ from (lo + a) d
from_from lo a d = let e : d.place - lo - a ≡ d.place - (lo + a) = omega arith in ap (λ (p : ℕ). record { place = p; cover = d.cover; area = d.area }) e

module _ (lo hi a b : ℕ) (inner : lo + b ≤ hi) where
  pub part_part : (log : List Deposit) → part a b (part lo hi log) ≡ part (lo + a) (lo + b) log
  part_part [] = rw (part_none lo hi, part_none a b) (sym (part_none (lo + a) (lo + b)))
  part_part (d ∷ ds) = go (part_part ds) (among lo hi d.place) (among a b (d.place - lo)) refl refl
    where
      go : part a b (part lo hi ds) ≡ part (lo + a) (lo + b) ds → (t u : Bool) → among lo hi d.place ≡ t → among a b (d.place - lo) ≡ u
          → part a b (part lo hi (d ∷ ds)) ≡ part (lo + a) (lo + b) (d ∷ ds)
      go rest true true e g =
          let h = is_among lo hi d.place e in
          let k = is_among a b (d.place - lo) g in
          let m = among_is (lo + a) (lo + b) d.place (record { low = omega (arith, h.low, k.low); high = omega (arith, h.low, k.high) }) in
          rw (part_in lo hi d ds e, part_in a b (from lo d) (part lo hi ds) g, part_in (lo + a) (lo + b) d ds m, rest, from_from lo a d)
      go rest true false e g =
          let n = not_among a b (d.place - lo) g in
          let m = among_not (lo + a) (lo + b) d.place (λ k. n (record { low = omega (arith, k.low); high = omega (arith, k.low, k.high) })) in
          rw (part_in lo hi d ds e, part_out a b (from lo d) (part lo hi ds) g, part_out (lo + a) (lo + b) d ds m) rest
      go rest false u e g =
          let n = not_among lo hi d.place e in
          let m = among_not (lo + a) (lo + b) d.place (λ k. n (record { low = omega (arith, k.low); high = omega (arith, k.high) })) in
          rw (part_out lo hi d ds e, part_out (lo + a) (lo + b) d ds m) rest

-- ---- what is known
known_one : (d : Deposit) (ds : List Deposit) (p : ℕ) → known (d ∷ ds) p ≡ (eqb p d.place || known ds p)
unfolding known
known_one d ds p = refl

known_none : (p : ℕ) → known [] p ≡ false
unfolding known
known_none p = refl

pub known_part : (lo hi : ℕ) (log : List Deposit) (p : ℕ) → Among lo hi p → known (part lo hi log) (p - lo) ≡ known log p
known_part lo hi [] p h = rw (part_none lo hi) (known_none (p - lo) ∙ sym (known_none p))
known_part lo hi (d ∷ ds) p h = go (known_part lo hi ds p h) (among lo hi d.place) refl
  where
    go : known (part lo hi ds) (p - lo) ≡ known ds p → (t : Bool) → among lo hi d.place ≡ t → known (part lo hi (d ∷ ds)) (p - lo) ≡ known (d ∷ ds) p
    go rest true e =
        let g = is_among lo hi d.place e in
        let q : eqb (p - lo) (d.place - lo) ≡ eqb p d.place =
        same_test _ _ (λ t. let u = eqb-true (p - lo) (d.place - lo) t in eq-eqb p d.place (omega arith)) (λ t. let u = eqb-true p d.place t in eq-eqb (p - lo) (d.place - lo) (omega arith))
        in
        rw (part_in lo hi d ds e, known_one (from lo d) (part lo hi ds) (p - lo), known_one d ds p, q, rest)
    go rest false e =
        let q : eqb p d.place ≡ false = ne_eqb p d.place (λ u. not_among lo hi d.place e (record { low = omega arith; high = omega arith })) in
        rw (part_out lo hi d ds e, known_one d ds p, q) rest

-- ---- how many places
distinct_one : (d : Deposit) (ds : List Deposit) → distinct (d ∷ ds) ≡ distinct ds + on (not (known ds d.place)) 1
unfolding distinct
distinct_one d ds = refl

distinct_none : distinct [] ≡ 0
unfolding distinct
distinct_none = refl

module _ (lo hi : ℕ) (d : Deposit) (ds : List Deposit) where
  distinct_in : Among lo hi d.place → distinct (part lo hi (d ∷ ds)) ≡ distinct (part lo hi ds) + on (not (known ds d.place)) 1
  distinct_in h = rw (part_in lo hi d ds (among_is lo hi d.place h), distinct_one (from lo d) (part lo hi ds), known_part lo hi ds d.place h)

  distinct_out : (Among lo hi d.place → ⊥) → distinct (part lo hi (d ∷ ds)) ≡ distinct (part lo hi ds)
  distinct_out n = rw (part_out lo hi d ds (among_not lo hi d.place n))

-- a part has no more places than the whole
pub distinct_part : (lo hi : ℕ) (log : List Deposit) → distinct (part lo hi log) ≤ distinct log
distinct_part lo hi [] = rw (part_none lo hi) (omega arith)
distinct_part lo hi (d ∷ ds) = go (distinct_part lo hi ds) (among lo hi d.place) refl
  where
    go : distinct (part lo hi ds) ≤ distinct ds → (t : Bool) → among lo hi d.place ≡ t → distinct (part lo hi (d ∷ ds)) ≤ distinct (d ∷ ds)
    go rest true e = omega (arith, distinct_in lo hi d ds (is_among lo hi d.place e), distinct_one d ds)
    go rest false e = omega (arith, distinct_out lo hi d ds (not_among lo hi d.place e), distinct_one d ds)

-- the places of two parts that meet add up
pub distinct_join : (lo mid hi : ℕ) → lo ≤ mid → mid ≤ hi → (log : List Deposit) → distinct (part lo mid log) + distinct (part mid hi log) ≡ distinct (part lo hi log)
distinct_join lo mid hi p q [] = rw (part_none lo mid, part_none mid hi, part_none lo hi) (omega (arith, distinct_none))
distinct_join lo mid hi p q (d ∷ ds) = go (distinct_join lo mid hi p q ds) (among lo hi d.place) (ltb d.place mid) refl refl
  where
    go : distinct (part lo mid ds) + distinct (part mid hi ds) ≡ distinct (part lo hi ds) → (t u : Bool) → among lo hi d.place ≡ t → ltb d.place mid ≡ u
        → distinct (part lo mid (d ∷ ds)) + distinct (part mid hi (d ∷ ds)) ≡ distinct (part lo hi (d ∷ ds))
    go rest false u e g =
        let n = not_among lo hi d.place e in
        omega (
          arith,
          distinct_out lo hi d ds n,
          distinct_out lo mid d ds (λ h. n (record { low = h.low; high = omega (arith, h.high) })),
          distinct_out mid hi d ds (λ h. n (record { low = omega (arith, h.low); high = h.high })),
        )
    go rest true true e g =
        let h = is_among lo hi d.place e in
        let k = ltb-true d.place mid g in
        omega (arith, distinct_in lo hi d ds h, distinct_in lo mid d ds (record { low = h.low; high = k }), distinct_out mid hi d ds (λ m. omega (arith, m.low)))
    go rest true false e g =
        let h = is_among lo hi d.place e in
        let k = ltb-false d.place mid g in
        omega (arith, distinct_in lo hi d ds h, distinct_in mid hi d ds (record { low = k; high = h.high }), distinct_out lo mid d ds (λ m. omega (arith, m.high)))

-- ---- sums of a part that does not turn on the place
module _ (f : Deposit → ℕ) (lo hi : ℕ) (free : (d : Deposit) → f (from lo d) ≡ f d) (t u : ℕ → Bool)
    (in-part : (p : ℕ) → Among lo hi p → u p ≡ t (p - lo)) (outside : (p : ℕ) → (Among lo hi p → ⊥) → u p ≡ false) where
  total_one : (v : ℕ → Bool) (d : Deposit) (ds : List Deposit) → total f v (d ∷ ds) ≡ on (v d.place) (f d) + total f v ds
  unfolding total
  total_one v d ds = refl

  total_none : (v : ℕ → Bool) → total f v [] ≡ 0
  unfolding total
  total_none v = refl

  pub total_part : (log : List Deposit) → total f t (part lo hi log) ≡ total f u log
  total_part [] = rw (part_none lo hi) (total_none t ∙ sym (total_none u))
  total_part (d ∷ ds) = go (total_part ds) (among lo hi d.place) refl
    where
      go : total f t (part lo hi ds) ≡ total f u ds → (b : Bool) → among lo hi d.place ≡ b → total f t (part lo hi (d ∷ ds)) ≡ total f u (d ∷ ds)
      go rest true e =
          rw (part_in lo hi d ds e, total_one t (from lo d) (part lo hi ds), total_one u d ds, in-part d.place (is_among lo hi d.place e), free d, rest)
      go rest false e = rw (part_out lo hi d ds e, total_one u d ds, outside d.place (not_among lo hi d.place e)) (omega arith)
