-- What one deposit behind the others changes: what is known, how many places there are, the sums of a place.
use Rattle.std.proofs.Common.{◌≡◌, ℕ, suc, ◌+◌, ◌%◌, ◌^◌, ◌<◌, Bool, true, false, ◌||◌, eqb, List, [], ◌∷◌, ◌++◌, sym, refl, ap, ◌∙◌, true≢false, arith, eq-eqb, ne_eqb, eqb-true}
use Rattle.storage.specs.Deposits.{Deposit, on, known, distinct, total, sum_of}
use Rattle.storage.specs.Laws.{total_append, sum_total, known_snoc, distinct_snoc}

-- ---- known

module _ (d : Deposit) (log : List Deposit) where
  pub known_here : known (log ++ (d ∷ [])) d.place ≡ true
  known_here = rw (known_snoc, eq-eqb d.place d.place refl)

  pub known_other : (p : ℕ) → (p ≡ d.place → ⊥) → known (log ++ (d ∷ [])) p ≡ known log p
  known_other p h = rw (known_snoc, ne_eqb p d.place h)

  pub known_more : (p : ℕ) → known log p ≡ true → known (log ++ (d ∷ [])) p ≡ true
  known_more p h = known_snoc log d p ∙ go (eqb p d.place)
    where
      go : (b : Bool) → (b || known log p) ≡ true
      go true = refl
      go false = h

  -- a place that was known leaves what is known as it was
  pub known_again : (p : ℕ) → known log d.place ≡ true → known (log ++ (d ∷ [])) p ≡ known log p
  known_again p h = known_snoc log d p ∙ go (eqb p d.place) refl
    where
      go : (b : Bool) → eqb p d.place ≡ b → (b || known log p) ≡ known log p
      go true e = sym (rw (eqb-true p d.place e) h)
      go false e = refl

  pub distinct_again : known log d.place ≡ true → distinct (log ++ (d ∷ [])) ≡ distinct log
  distinct_again h = rw (distinct_snoc, h) (omega arith)

  pub distinct_new : known log d.place ≡ false → distinct (log ++ (d ∷ [])) ≡ suc (distinct log)
  distinct_new h = rw (distinct_snoc, h) (omega arith)

-- ---- sums

module _ (f : Deposit → ℕ) (t : ℕ → Bool) where
  total_snoc : (d : Deposit) (log : List Deposit) → total f t (log ++ (d ∷ [])) ≡ total f t log + on (t d.place) (f d)
  unfolding total
  total_snoc d log = omega (arith, total_append f t log (d ∷ []))

  pub sum_lt : (log : List Deposit) → sum_of f t log < 2 ^ 32
  sum_lt log = omega (arith, sum_total f t log)

  pub sum_here : (d : Deposit) (log : List Deposit) → t d.place ≡ true → sum_of f t (log ++ (d ∷ [])) ≡ (sum_of f t log + f d) % 2 ^ 32
  sum_here d log h =
      let e : total f t (log ++ (d ∷ [])) ≡ total f t log + f d = total_snoc d log ∙ ap (λ (b : Bool). total f t log + on b (f d)) h in
      omega (arith, sum_total f t log, sum_total f t (log ++ (d ∷ [])))

  pub sum_other : (d : Deposit) (log : List Deposit) → t d.place ≡ false → sum_of f t (log ++ (d ∷ [])) ≡ sum_of f t log
  sum_other d log h =
      let e : total f t (log ++ (d ∷ [])) ≡ total f t log + 0 = total_snoc d log ∙ ap (λ (b : Bool). total f t log + on b (f d)) h in
      omega (arith, sum_total f t log, sum_total f t (log ++ (d ∷ [])))

-- a place that is not known has sum 0
pub total_unknown : (f : Deposit → ℕ) (p : ℕ) (log : List Deposit) → known log p ≡ false → total f (eqb p) log ≡ 0
unfolding known total
total_unknown f p [] h = refl
total_unknown f p (d ∷ ds) h = go (eqb p d.place) (total_unknown f p ds) h
  where
    go : (b : Bool) → (known ds p ≡ false → total f (eqb p) ds ≡ 0) → (b || known ds p) ≡ false → on b (f d) + total f (eqb p) ds ≡ 0
    go true ih e = absurd (true≢false e)
    go false ih e = rw (ih e)

pub sum_unknown : (f : Deposit → ℕ) (p : ℕ) (log : List Deposit) → known log p ≡ false → sum_of f (eqb p) log ≡ 0
sum_unknown f p log h = omega (arith, sum_total f (eqb p) log, total_unknown f p log h)
