-- The cover of a row up to a place: spans of places, which keep their sum over a gap and gain a place's sum with the place.
use Rattle.std.proofs.Common.{◌≡◌, ℕ, ◌+◌, ◌%◌, ◌^◌, ◌<◌, ◌≤◌, Bool, true, false, ◌&&◌, ◌||◌, eqb, ltb, leb, List, [], ◌∷◌, sym, refl, ap, ◌∙◌, ap₂, true≢false, arith, le-ltb, lt-ltb, eq-eqb, ne_eqb, le-leb}
use native.Mathlib.Decide.{dec_lt, ℕ_discrete}
use borrow.Author.Tests.{lt-leb}
use Rattle.storage.specs.Deposits.{Deposit, on, known, total, sum_of}
use Rattle.storage.specs.Laws.{sum_total}

-- the places from a up to, not including, b
abbrev pub span : ℕ → ℕ → ℕ → Bool
span a b p = leb a p && ltb p b

-- two tests that agree on what is known have one sum
total_same : (f : Deposit → ℕ) (t u : ℕ → Bool) (log : List Deposit) → ((p : ℕ) → known log p ≡ true → t p ≡ u p) → total f t log ≡ total f u log
unfolding total known
total_same f t u [] h = refl
total_same f t u (d ∷ ds) h =
    ap₂ (λ (b : Bool) (x : ℕ). on b (f d) + x) (h d.place (rw (eq-eqb d.place d.place refl)))
    (total_same f t u ds (λ p k. h p (more p k (eqb p d.place))))
  where
    more : (p : ℕ) → known ds p ≡ true → (b : Bool) → (b || known ds p) ≡ true
    more p k true = refl
    more p k false = k

pub sum_same : (f : Deposit → ℕ) (t u : ℕ → Bool) (log : List Deposit) → ((p : ℕ) → known log p ≡ true → t p ≡ u p) → sum_of f t log ≡ sum_of f u log
sum_same f t u log h = sum_total f t log ∙ ap (λ (n : ℕ). n % 2 ^ 32) (total_same f t u log h) ∙ sym (sum_total f u log)

-- a test that is two apart has the sum of theirs
total_join : (f : Deposit → ℕ) (t u v : ℕ → Bool) (log : List Deposit) → ((p n : ℕ) → on (v p) n ≡ on (t p) n + on (u p) n)
    → total f v log ≡ total f t log + total f u log
unfolding total
total_join f t u v [] h = refl
total_join f t u v (d ∷ ds) h = omega (arith, total_join f t u v ds h, h d.place (f d))

-- a test that nothing passes
total_none : (f : Deposit → ℕ) (t : ℕ → Bool) (log : List Deposit) → ((p : ℕ) → t p ≡ false) → total f t log ≡ 0
unfolding total
total_none f t [] h = refl
total_none f t (d ∷ ds) h = rw (h d.place, total_none f t ds h)

-- a span that grows over a gap keeps its sum
pub span_gap : (f : Deposit → ℕ) (a b c : ℕ) (log : List Deposit) → b ≤ c → ((p : ℕ) → b ≤ p → p < c → known log p ≡ false) → sum_of f (span a c) log ≡ sum_of f (span a b) log
span_gap f a b c log h gap = sum_same f (span a c) (span a b) log (λ p k. go p k (dec_lt p b) (dec_lt p c))
  where
    go : (p : ℕ) → known log p ≡ true → Dec (p < b) → Dec (p < c) → span a c p ≡ span a b p
    go p k (yes x) (yes y) = rw (lt-ltb p b x, lt-ltb p c y)
    go p k (yes x) (no y) = absurd (omega arith)
    go p k (no x) (yes y) = absurd (true≢false (sym k ∙ gap p (omega arith) y))
    go p k (no x) (no y) = let g : b ≤ p = omega arith in let g' : c ≤ p = omega arith in rw (le-ltb p b g, le-ltb p c g')

-- a span and the place behind it
pub span_more : (f : Deposit → ℕ) (a m : ℕ) (log : List Deposit) → a ≤ m → sum_of f (span a (m + 1)) log ≡ (sum_of f (span a m) log + sum_of f (eqb m) log) % 2 ^ 32
span_more f a m log h =
    omega (
      arith,
      total_join f (span a m) (eqb m) (span a (m + 1)) log (λ p n. go p n (dec_lt p m) (ℕ_discrete m p)),
      sum_total f (span a m) log,
      sum_total f (eqb m) log,
      sum_total f (span a (m + 1)) log,
    )
  where
    go : (p n : ℕ) → Dec (p < m) → Dec (m ≡ p) → on (span a (m + 1) p) n ≡ on (span a m p) n + on (eqb m p) n
    go p n (yes x) (yes y) = absurd (omega arith)
    go p n (yes x) (no y) = let g : p < m + 1 = omega arith in rw (lt-ltb p (m + 1) g, lt-ltb p m x, ne_eqb m p y) (omega arith)
    go p n (no x) (yes y) =
        let g : p < m + 1 = omega arith in
        let g' : m ≤ p = omega arith in
        let g'' : a ≤ p = omega arith in
        rw (lt-ltb p (m + 1) g, le-ltb p m g', le-leb a p g'', eq-eqb m p y) (omega arith)
    go p n (no x) (no y) = let g : m + 1 ≤ p = omega arith in let g' : m ≤ p = omega arith in rw (le-ltb p (m + 1) g, le-ltb p m g', ne_eqb m p y) (omega arith)

-- an empty span
pub span_none : (f : Deposit → ℕ) (a : ℕ) (log : List Deposit) → sum_of f (span a a) log ≡ 0
span_none f a log = omega (arith, sum_total f (span a a) log, total_none f (span a a) log (λ p. go p (dec_lt p a)))
  where
    go : (p : ℕ) → Dec (p < a) → span a a p ≡ false
    go p (yes x) = rw (lt-leb a p x)
    go p (no x) = let g : a ≤ p = omega arith in rw (le-leb a p g, le-ltb p a g)

-- a span with its last place named
pub span_upto : (f : Deposit → ℕ) (a m : ℕ) (log : List Deposit) → sum_of f (λ (p : ℕ). leb a p && leb p m) log ≡ sum_of f (span a (m + 1)) log
span_upto f a m log = sum_same f (λ (p : ℕ). leb a p && leb p m) (span a (m + 1)) log (λ p k. go p (dec_lt m p))
  where
    go : (p : ℕ) → Dec (m < p) → (leb a p && leb p m) ≡ span a (m + 1) p
    go p (yes x) = let g : m + 1 ≤ p = omega arith in rw (lt-leb p m x, le-ltb p (m + 1) g)
    go p (no x) = let g : p ≤ m = omega arith in let g' : p < m + 1 = omega arith in rw (le-leb p m g, lt-ltb p (m + 1) g')
