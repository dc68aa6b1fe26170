-- One of the bands from a row on is full: the k-th of them, for some k; and of the first such the record that 13 names.
use Prim.Native.Nat.{ℕ, zero, suc, ◌+◌, ◌-◌, ◌*◌, ◌≤◌, ◌<◌, min}
use mathlib.Core.Path.{◌≡◌, refl, sym, ap, ◌∙◌, subst}
use mathlib.Core.Bool.{Bool, true, false, ◌||◌}
use mathlib.Core.List.{List, [], ◌∷◌}
use mathlib.Core.Logic.{◌⊎◌, inl, inr, ⊎_elim}
use native.Mathlib.Omega.{arith}
use native.Mathlib.Nat.{mul-add, mul_comm, mul-le-mul}
use borrow.Author.Tests.{ltb-true, lt-ltb}
use lib.Dec.{ltb}
use Rattle.command.specs.declared.Command.{Command}
use Rattle.label.specs.declared.Label.{Label}
use Rattle.paper.specs.TurnedAway.{most_pixels}
use Rattle.paper.specs.Drawing.{full, one_full, record_of, first_of, band, bands_from}
use Rattle.paper.specs.Demands.{TooMany, RunsOut}
use Rattle.paper.proofs.Room.{neither, named, too_many, one_record}

either : (a b : Bool) → (a || b) ≡ true → (a ≡ true) ⊎ (b ≡ true)
either true b e = inl refl
either false b e = inr e

or-true : (a : Bool) → (a || true) ≡ true
or-true true = refl
or-true false = refl

module _ (step : ℕ) (l : Label) (words : ℕ) (cs : List Command) where
  -- the k-th band from a row on
  abbrev Own : ℕ → ℕ → Label
  Own from k = band l (from + k * step) (min l.end (from + (k + 1) * step))

  abbrev One : ℕ → Type 0
  One from = (k : ℕ) × (from + k * step < l.end) × TooMany (Own from k) words cs

  next : (k : ℕ) → (k + 1) * step ≡ k * step + step
  next k = mul_comm (k + 1) step ∙ mul-add step k 1 ∙ omega (arith, mul_comm k step)

  own_first : (from : ℕ) → Own from 0 ≡ band l from (min l.end (from + step))
  own_first from =
      let e : from + 0 * step ≡ from = omega arith in
      let g : from + (0 + 1) * step ≡ from + step = omega arith in
      rw (e, g)

  -- the k-th band behind the first is the next of the whole
  own_next : (from k : ℕ) → min l.end (from + step) + k * step < l.end → Own (min l.end (from + step)) k ≡ Own from (k + 1)
  own_next from k a =
      let e : min l.end (from + step) + k * step ≡ from + (k + 1) * step = omega (arith, next k) in
      let more = next (k + 1) in
      let g : min l.end (from + step) + (k + 1) * step ≡ from + (k + 1 + 1) * step = omega (arith, next k) in
      rw (e, g)

  own_behind : (from k : ℕ) → min l.end (from + step) + k * step < l.end → Own from (suc k) ≡ Own (min l.end (from + step)) k
  own_behind from k a = let e : suc k ≡ k + 1 = omega arith in ap (Own from) e ∙ sym (own_next from k a)

  -- the first band
  at_first : (from : ℕ) → from < l.end → TooMany (band l from (min l.end (from + step))) words cs → One from
  at_first from h m = (0, omega arith, subst (λ (b : Label). TooMany b words cs) (sym (own_first from)) m)

  -- one behind it
  behind : (from : ℕ) → One (min l.end (from + step)) → One from
  behind from (k, a, m) = (k + 1, omega (arith, next k), subst (λ (b : Label). TooMany b words cs) (own_next from k a) m)

  -- the bands from a row on, by the test whether there is one
  abbrev by_test : ℕ → ℕ → Bool → List Label
  by_test n from b =
      let to = min l.end (from + step) in
      elim b [ true ↦ band l from to ∷ bands_from n step l to | false ↦ [] ]

  abbrev rest : ℕ → ℕ → Bool
  rest n from = one_full words cs (bands_from n step l (min l.end (from + step)))

  abbrev here : ℕ → Bool
  here from = full words cs (band l from (min l.end (from + step)))

  two : (n from : ℕ) → from < l.end → one_full words cs (bands_from (suc n) step l from) ≡ (here from || rest n from)
  unfolding one_full bands_from
  two n from h = ap (λ (b : Bool). one_full words cs (by_test n from b)) (lt-ltb from l.end h)

  none : (n from : ℕ) → ltb from l.end ≡ false → one_full words cs (bands_from (suc n) step l from) ≡ false
  unfolding one_full bands_from
  none n from h = ap (λ (b : Bool). one_full words cs (by_test n from b)) h

  no_bands : (from : ℕ) → one_full words cs (bands_from zero step l from) ≡ false
  unfolding one_full bands_from
  no_bands from = refl

  not_both : {X : Type 0} (b : Bool) → b ≡ false → b ≡ true → X
  not_both b e g = absurd (let z : ◌≡◌ {A = ℕ} 0 1 = cc in omega arith)

  pub one_full_is : (n from : ℕ) → one_full words cs (bands_from n step l from) ≡ true → One from
  one_full_is zero from e = not_both (one_full words cs (bands_from zero step l from)) (no_bands from) e
  one_full_is (suc n) from e = go (one_full_is n (min l.end (from + step))) (ltb from l.end) refl
    where
      go : (rest n from ≡ true → One (min l.end (from + step))) → (b : Bool) → ltb from l.end ≡ b → One from
      go more true h =
          let less = ltb-true from l.end h in
          ⊎_elim
          (λ p. at_first from less (ltb-true _ _ p))
          (λ q. behind from (more q))
          (either (here from) (rest n from) (sym (two n from less) ∙ e))
      go more false h = not_both (one_full words cs (bands_from (suc n) step l from)) (none n from h) e

  module _ (some : 1 ≤ step) where
    calls_left : (end from n : ℕ) → end - from ≤ suc n → from < end → end - min end (from + step) ≤ n
    calls_left end from n f h = omega arith

    pub full_one : (n from : ℕ) → l.end - from ≤ n → (k : ℕ) → from + k * step < l.end → TooMany (Own from k) words cs
        → one_full words cs (bands_from n step l from) ≡ true
    full_one zero from f k a m = absurd (omega arith)
    full_one (suc n) from f zero a m =
        two n from (omega arith)
        ∙ ap (λ (b : Bool). b || rest n from) (lt-ltb _ _ (subst (λ (b : Label). TooMany b words cs) (own_first from) m))
    full_one (suc n) from f (suc k) a m =
        let one : suc k * step ≡ k * step + step = ap (λ (n : ℕ). n * step) (omega arith) ∙ next k in
        let less : from < l.end = omega arith in
        let inner : min l.end (from + step) + k * step < l.end = omega arith in
        let left = calls_left l.end from n f less in
        let own = subst (λ (b : Label). TooMany b words cs) (own_behind from k inner) m in
        let behind = full_one n (min l.end (from + step)) left k inner own in
        two n from less ∙ ap (λ (b : Bool). here from || b) behind ∙ or-true (here from)

  -- ---- the record: record i runs out in the k-th band, and none before that is full
  abbrev First : ℕ → ℕ → Type 0
  First from i =
      (k : ℕ) × (from + k * step < l.end) × ((j : ℕ) → j < k → ¬ TooMany (Own from j) words cs)
      × RunsOut (Own from k) words cs i

  first_two : (n from : ℕ) → from < l.end
      → first_of words cs (bands_from (suc n) step l from)
      ≡ (elim (here from) as (λ _. ℕ) [
        | true ↦ record_of words cs (band l from (min l.end (from + step)))
        | false ↦ first_of words cs (bands_from n step l (min l.end (from + step)))
      ])
  unfolding first_of bands_from
  first_two n from h = ap (λ (b : Bool). first_of words cs (by_test n from b)) (lt-ltb from l.end h)

  module _ (w : l.width ≤ most_pixels) where
    -- the first band is full
    first_here : (from : ℕ) → from < l.end → here from ≡ true → First from (record_of words cs (band l from (min l.end (from + step))))
    first_here from h t =
        let own = band l from (min l.end (from + step)) in
        (0, omega arith, λ j p. absurd (omega arith), subst (λ (b : Label). RunsOut b words cs (record_of words cs own)) (sym (own_first from)) (named own w words cs (ltb-true _ _ t)))

    -- it is not, and one behind it is
    first_behind : (from i : ℕ) → here from ≡ false → First (min l.end (from + step)) i → First from i
    first_behind from i t (k, a, few, out) =
        (k + 1, omega (arith, next k), before, subst (λ (b : Label). RunsOut b words cs i) (own_next from k a) out)
      where
        before : (j : ℕ) → j < k + 1 → ¬ TooMany (Own from j) words cs
        before zero p m = not_both (here from) t (lt-ltb _ _ (subst (λ (b : Label). TooMany b words cs) (own_first from) m))
        before (suc j) p m =
            let less : j * step ≤ k * step = mul-le-mul {m₂ = step} (omega arith) (omega arith) in
            few j (omega arith) (subst (λ (b : Label). TooMany b words cs) (own_behind from j (omega arith)) m)

    pub first_full : (n from : ℕ) → one_full words cs (bands_from n step l from) ≡ true → First from (first_of words cs (bands_from n step l from))
    first_full zero from e = not_both (one_full words cs (bands_from zero step l from)) (no_bands from) e
    first_full (suc n) from e = go (first_full n (min l.end (from + step))) (ltb from l.end) refl
      where
        at_test : (b : Bool) → here from ≡ b → from < l.end
            → (rest n from ≡ true → First (min l.end (from + step)) (first_of words cs (bands_from n step l (min l.end (from + step)))))
            → First from (elim b as (λ _. ℕ) [
              | true ↦ record_of words cs (band l from (min l.end (from + step)))
              | false ↦ first_of words cs (bands_from n step l (min l.end (from + step)))
            ])
        at_test true t less more = first_here from less t
        at_test false t less more = first_behind from _ t (more (sym (ap (λ (b : Bool). b || rest n from) t) ∙ sym (two n from less) ∙ e))

        go : (rest n from ≡ true → First (min l.end (from + step)) (first_of words cs (bands_from n step l (min l.end (from + step)))))
            → (b : Bool) → ltb from l.end ≡ b → First from (first_of words cs (bands_from (suc n) step l from))
        go more true h =
            let less = ltb-true from l.end h in
            rw (first_two n from less) (at_test (here from) refl less more)
        go more false h = not_both (one_full words cs (bands_from (suc n) step l from)) (none n from h) e

    -- and no other
    pub one_first : (from i j : ℕ) → First from i → First from j → i ≡ j
    one_first from i j (k, a, few, out) (k', a', few', out') =
        let e : k' ≡ k = neither k' k
        (λ h. few k' h (too_many (Own from k') w words cs j out'))
        (λ h. few' k h (too_many (Own from k) w words cs i out)) in
        one_record (Own from k) w words cs i j out (subst (λ (n : ℕ). RunsOut (Own from n) words cs j) e out')
