-- Every call, by the four ways in which a drawing ends: 1 to 5, 6 to 12 and 18, 13, and 0.
use Prim.Native.Nat.{ℕ, zero, suc, ◌≤◌, ◌<◌}
use mathlib.Core.Path.{◌≡◌, refl, sym, ap, ◌∙◌}
use mathlib.Core.Bool.{Bool, true, false}
use mathlib.Core.List.{List}
use mathlib.Core.Logic.{◌↔◌, ◌⊎◌, inl, inr}
use native.Mathlib.Omega.{arith}
use native.Mathlib.Decide.{dec_lt, ℕ_discrete}
use Rattle.std.specs.Prelude.{Option, None, Some}
use lib.ListN.{length, get_or, replicate, length-replicate}
use Rattle.command.specs.declared.Command.{Command}
use Rattle.label.specs.declared.Label.{Label}
use Rattle.label.specs.declared.Numbers.{Numbers}
use Rattle.paper.specs.Floats.{cut_in}
use Rattle.paper.specs.TurnedAway.{most_pixels, size_fault, Read, path, faulty, read_list}
use Rattle.paper.specs.Cells.{cells_of, distinct}
use Rattle.paper.specs.Bytes.{painted}
use Rattle.paper.specs.Drawing.{Outcome, refused, accepted, wiped, one_full, first_of, inked, draw_read, draw_in}
use Rattle.paper.specs.Demands.{number, In, place, Answered, EveryCall}
use Rattle.paper.proofs.Faults.{size_most, Listed, ListedRead, not_thirteen, answer_most, list_listed}
use Rattle.paper.proofs.Pictures.{sound, pixel_at}

one_path : {cs cs' : List Command} → path cs ≡ path cs' → cs ≡ cs'
one_path e = cc

pub no_path : {X : Type 0} {cs : List Command} {n i : ℕ} → path cs ≡ faulty n i → X
no_path e = absurd (let z : ◌≡◌ {A = ℕ} 0 1 = cc in omega arith)

pub one_number : {n i n' i' : ℕ} → faulty n i ≡ faulty n' i' → n ≡ n'
one_number e = cc

pub one_index : {n i n' i' : ℕ} → faulty n i ≡ faulty n' i' → i ≡ i'
one_index e = cc

pub same_fault : {n i n' i' : ℕ} → n ≡ n' → i ≡ i' → faulty n i ≡ faulty n' i'
same_fault e g = cc

-- ---- the four ways
module _ (bands : List Label) (l : Label) (s mask words : List ℕ) where
  abbrev read : Read
  read = read_list l.transform l.offset s

  abbrev size : ℕ
  size = size_fault l (length mask) (length words)

  abbrev out : Outcome
  out = draw_in bands l s mask words

  abbrev by_number : ℕ → Outcome
  by_number n = elim n [ zero ↦ draw_read bands l read mask words | suc fault ↦ refused (suc fault) 0 mask words ]

  pub by_size : (k : ℕ) → size ≡ suc k → out ≡ refused (suc k) 0 mask words
  unfolding draw_in
  by_size k e = ap by_number e

  by_read : (r : Read) → size ≡ 0 → read ≡ r → out ≡ draw_read bands l r mask words
  unfolding draw_in
  by_read r e g = ap by_number e ∙ ap (λ (z : Read). draw_read bands l z mask words) g

  pub by_fault : (n i : ℕ) → size ≡ 0 → read ≡ faulty n i → out ≡ refused n i mask words
  unfolding draw_read
  by_fault n i e g = by_read (faulty n i) e g

  -- a path, by the test whether a band is full
  abbrev by_test : List Command → Bool → Outcome
  by_test cs t =
      let full : Option ℕ = elim t [ true ↦ Some (first_of (length words) cs bands) | false ↦ None ] in
      inked full l cs mask words

  pub by_full : (cs : List Command) → size ≡ 0 → read ≡ path cs → one_full (length words) cs bands ≡ true
      → out ≡ refused 13 (first_of (length words) cs bands) mask (wiped words)
  unfolding draw_read inked
  by_full cs e g t = by_read (path cs) e g ∙ ap (by_test cs) t

  pub by_path : (cs : List Command) → size ≡ 0 → read ≡ path cs → one_full (length words) cs bands ≡ false
      → out ≡ accepted (length cs) (distinct (cells_of l cs)) (cut_in l.transform l.offset cs) (painted l (cells_of l cs) 0 mask) (wiped words)
  unfolding draw_read inked
  by_path cs e g t = by_read (path cs) e g ∙ ap (by_test cs) t

  -- ---- what each leaves
  module _ (Full : List Command → Type 0) (Out : List Command → ℕ → Type 0)
      (asked : (cs : List Command) → one_full (length words) cs bands ≡ true ↔ Full cs)
      (named : (cs : List Command) → l.width ≤ most_pixels → one_full (length words) cs bands ≡ true → (i : ℕ)
      → first_of (length words) cs bands ≡ i ↔ Out cs i) where
    abbrev Good : Outcome → Type 0
    Good = Answered Full Out l s mask words

    of_size : (k : ℕ) → size ≡ suc k → Good (refused (suc k) 0 mask words)
    of_size k e =
        let most = size_most l (length mask) (length words) in
        record {
          answers = inl (omega arith);
          sizes = λ n a b. (λ p. e ∙ p, λ q. sym e ∙ q);
          records = λ n i a b. (λ p. absurd (omega (arith, p.0)), λ q. absurd (omega (arith, q.0)));
          thirteen = (λ p. absurd (omega arith), λ q. absurd (omega (arith, q.1)));
          ran_out = λ cs i p. absurd (omega arith);
          accepted = (λ p. absurd (omega arith), λ q. absurd (omega (arith, q.1)));
          counts = λ cs p q. absurd (omega arith);
          no_counts = λ p. (refl, refl, refl);
          no_index = λ p. refl;
          mask_kept = λ p. refl;
          words_kept = λ p q. refl;
          words_wiped = elim [ inl p ↦ absurd (omega arith) | inr p ↦ absurd (omega arith) ];
        }

    of_fault : (n i : ℕ) → size ≡ 0 → read ≡ faulty n i → Listed n i → Good (refused n i mask words)
    of_fault n i e g h =
        let least = h.least in
        let other = not_thirteen h.most in
        record {
          answers = answer_most h.most;
          sizes = λ m a b. (λ p. absurd (omega arith), λ q. absurd (omega arith));
          records = λ m j a b.
              (λ p. (e, g ∙ same_fault p.0 p.1), λ q. (one_number (sym g ∙ q.1), one_index (sym g ∙ q.1)));
          thirteen = (λ p. absurd (other p), λ q. no_path (sym q.2 ∙ g));
          ran_out = λ cs j p. absurd (other p);
          accepted = (λ p. absurd (omega arith), λ q. no_path (sym q.2 ∙ g));
          counts = λ cs p q. absurd (omega arith);
          no_counts = λ p. (refl, refl, refl);
          no_index = h.none;
          mask_kept = λ p. refl;
          words_kept = λ p q. refl;
          words_wiped = elim [ inl p ↦ absurd (omega arith) | inr p ↦ absurd (other p) ];
        }

    module _ (cs : List Command) (e : size ≡ 0) (g : read ≡ path cs) where
      same_full : (cs' : List Command) → read ≡ path cs' → Full cs' → Full cs
      same_full cs' p h = rw (one_path (sym g ∙ p)) h

      same_out : (cs' : List Command) → read ≡ path cs' → (i : ℕ) → Out cs i ↔ Out cs' i
      same_out cs' p i = rw (one_path (sym g ∙ p)) (λ h. h, λ h. h)

      of_full : one_full (length words) cs bands ≡ true → Good (refused 13 (first_of (length words) cs bands) mask (wiped words))
      of_full t = record {
        answers = inl (omega arith);
        sizes = λ m a b. (λ p. absurd (omega arith), λ q. absurd (omega arith));
        records = λ m j a b. (λ p. absurd (b (sym p.0)), λ q. no_path (sym g ∙ q.1));
        thirteen = (λ p. (cs, e, g, (asked cs).0 t), λ q. refl);
        ran_out = λ cs' i p q.
            let own = named cs (sound l (length mask) (length words) e).narrow t i in
            let same = same_out cs' q i in
            (λ a. same.0 (own.0 a), λ b. own.1 (same.1 b));
        accepted = (λ p. absurd (omega arith), λ q. absurd (q.3 (rw (one_path (sym q.2 ∙ g)) ((asked cs).0 t))));
        counts = λ cs p q. absurd (omega arith);
        no_counts = λ p. (refl, refl, refl);
        no_index = λ p. absurd (omega arith);
        mask_kept = λ p. refl;
        words_kept = λ p q. absurd (q refl);
        words_wiped = λ p. refl;
      }

      not_full : one_full (length words) cs bands ≡ false → Full cs → ⊥
      not_full t h = let u = (asked cs).1 h in let z : ◌≡◌ {A = ℕ} 0 1 = cc in omega arith

      of_path : one_full (length words) cs bands ≡ false → (after : List ℕ)
          → Good (accepted (length cs) (distinct (cells_of l cs)) (cut_in l.transform l.offset cs) after (wiped words))
      of_path t after = record {
        answers = inl (omega arith);
        sizes = λ m a b. (λ p. absurd (omega arith), λ q. absurd (omega arith));
        records = λ m j a b. (λ p. absurd (omega (arith, p.0)), λ q. no_path (sym g ∙ q.1));
        thirteen = (λ p. absurd (omega arith), λ q. absurd (not_full t (same_full q.0 q.2 q.3)));
        ran_out = λ cs' i p. absurd (omega arith);
        accepted = (λ p. (cs, e, g, not_full t), λ q. refl);
        counts = λ cs' p q.
            let same = one_path (sym g ∙ q) in
            (ap length same, ap (λ (z : List Command). distinct (cells_of l z)) same, ap (cut_in l.transform l.offset) same);
        no_counts = λ p. absurd (omega arith);
        no_index = λ p. refl;
        mask_kept = λ p. absurd (omega arith);
        words_kept = λ p. absurd (omega arith);
        words_wiped = λ p. refl;
      }

    -- ---- and one of them it is
    full_or : (cs : List Command) → size ≡ 0 → read ≡ path cs → (t : Bool) → one_full (length words) cs bands ≡ t
        → Good out
    full_or cs e g true t = rw (by_full cs e g t) (of_full cs e g t)
    full_or cs e g false t = rw (by_path cs e g t) (of_path cs e g t (painted l (cells_of l cs) 0 mask))

    read_or : size ≡ 0 → (r : Read) → read ≡ r → ListedRead r → Good out
    read_or e (faulty n i) g h = rw (by_fault n i e g) (of_fault n i e g h)
    read_or e (path cs) g h = full_or cs e g (one_full (length words) cs bands) refl

    size_or : (k : ℕ) → size ≡ k → Good out
    size_or zero e = read_or e read refl (list_listed l.transform l.offset s)
    size_or (suc k) e = rw (by_size k e) (of_size k e)

    pub answered : Answered Full Out l s mask words (draw_in bands l s mask words)
    answered = size_or size refl

-- ---- other words
module _ (bands : List Label) (l : Label) (s mask words words' : List ℕ) (e : length words ≡ length words') where
  abbrev SameButWords : Outcome → Outcome → Type 0
  SameButWords o o' = (o.answer ≡ o'.answer) × (o.mask ≡ o'.mask)

  abbrev one : Outcome
  one = draw_in bands l s mask words

  abbrev two : Outcome
  two = draw_in bands l s mask words'

  -- the sizes are judged by how many words there are
  other_size : (k : ℕ) → size_fault l (length mask) (length words) ≡ k → size_fault l (length mask) (length words') ≡ k
  other_size k h = rw e at h

  words_full : (cs : List Command) → size bands l s mask words ≡ 0 → read bands l s mask words ≡ path cs
      → (t : Bool) → one_full (length words) cs bands ≡ t → SameButWords one two
  words_full cs h g true t =
      rw (by_full bands l s mask words cs h g t, by_full bands l s mask words' cs (other_size 0 h) g (rw e at t), e)
      (refl, refl)
  words_full cs h g false t =
      rw (by_path bands l s mask words cs h g t, by_path bands l s mask words' cs (other_size 0 h) g (rw e at t))
      (refl, refl)

  words_read : size bands l s mask words ≡ 0 → (r : Read) → read bands l s mask words ≡ r → SameButWords one two
  words_read h (faulty n i) g =
      rw (by_fault bands l s mask words n i h g, by_fault bands l s mask words' n i (other_size 0 h) g) (refl, refl)
  words_read h (path cs) g = words_full cs h g (one_full (length words) cs bands) refl

  words_size : (k : ℕ) → size bands l s mask words ≡ k → SameButWords one two
  words_size zero h = words_read h (read bands l s mask words) refl
  words_size (suc k) h =
      rw (by_size bands l s mask words k h, by_size bands l s mask words' k (other_size (suc k) h)) (refl, refl)

  pub same_but_words : ((draw_in bands l s mask words).answer ≡ (draw_in bands l s mask words').answer)
      × ((draw_in bands l s mask words).mask ≡ (draw_in bands l s mask words').mask)
  same_but_words = words_size (size bands l s mask words) refl

-- ---- other bytes
module _ (bands : List Label) (l : Label) (s mask mask' words : List ℕ) (e : length mask ≡ length mask') where
  abbrev SameButMask : Outcome → Outcome → Type 0
  SameButMask o o' = (o.answer ≡ o'.answer) × (o.words ≡ o'.words)
      × ((y x : ℕ) → number o ≡ 0 → In l y x → get_or o.mask (place l y x) 0 ≡ get_or o'.mask (place l y x) 0)

  abbrev before : Outcome
  before = draw_in bands l s mask words

  abbrev after : Outcome
  after = draw_in bands l s mask' words

  other_mask : (k : ℕ) → size_fault l (length mask) (length words) ≡ k → size_fault l (length mask') (length words) ≡ k
  other_mask k h = rw e at h

  mask_full : (cs : List Command) → size bands l s mask words ≡ 0 → read bands l s mask words ≡ path cs
      → (t : Bool) → one_full (length words) cs bands ≡ t → SameButMask before after
  mask_full cs h g true t =
      rw (by_full bands l s mask words cs h g t, by_full bands l s mask' words cs (other_mask 0 h) g t)
      (refl, refl, λ y x p. absurd (omega arith))
  mask_full cs h g false t =
      let fit = sound l (length mask) (length words) h in
      let fit' = sound l (length mask') (length words) (other_mask 0 h) in
      rw (by_path bands l s mask words cs h g t, by_path bands l s mask' words cs (other_mask 0 h) g t) (
        refl,
        refl,
        λ y x p q.
            pixel_at l (cells_of l cs) mask (length words) fit y x q
            ∙ sym (pixel_at l (cells_of l cs) mask' (length words) fit' y x q),
      )

  mask_read : size bands l s mask words ≡ 0 → (r : Read) → read bands l s mask words ≡ r → ListedRead r
      → SameButMask before after
  mask_read h (faulty n i) g k =
      let least = k.least in
      rw (by_fault bands l s mask words n i h g, by_fault bands l s mask' words n i (other_mask 0 h) g)
      (refl, refl, λ y x p. absurd (omega arith))
  mask_read h (path cs) g k = mask_full cs h g (one_full (length words) cs bands) refl

  mask_size : (k : ℕ) → size bands l s mask words ≡ k → SameButMask before after
  mask_size zero h = mask_read h (read bands l s mask words) refl (list_listed l.transform l.offset s)
  mask_size (suc k) h =
      rw (by_size bands l s mask words k h, by_size bands l s mask' words k (other_mask (suc k) h))
      (refl, refl, λ y x p. absurd (omega arith))

  pub same_but_mask : SameButMask before after
  same_but_mask = mask_size (size bands l s mask words) refl

-- ---- of every call, in whatever bands
module _ (bands : Label → List Label) (Full : Label → ℕ → List Command → Type 0)
    (Out : Label → ℕ → List Command → ℕ → Type 0)
    (asked : (l : Label) (words : ℕ) (cs : List Command) → one_full words cs (bands l) ≡ true ↔ Full l words cs)
    (named : (l : Label) (words : ℕ) (cs : List Command) → l.width ≤ most_pixels → one_full words cs (bands l) ≡ true
    → (i : ℕ) → first_of words cs (bands l) ≡ i ↔ Out l words cs i) where
  abbrev Call : Label → List ℕ → List ℕ → List ℕ → Outcome → Type 0
  Call l s mask words = Answered (Full l (length words)) (Out l (length words)) l s mask words

  calls : (l : Label) (s mask words : List ℕ) → Call l s mask words (draw_in (bands l) l s mask words)
  calls l s mask words =
      answered (bands l) l s mask words (Full l (length words)) (Out l (length words)) (asked l (length words)) (named l (length words))

  -- there are as many words as before
  as_many : (l : Label) (s mask words : List ℕ) → length (draw_in (bands l) l s mask words).words ≡ length words
  as_many l s mask words = go (draw_in (bands l) l s mask words) (calls l s mask words)
    where
      zeros : length (wiped words) ≡ length words
      zeros = length-replicate (length words) 0

      of_number : (o : Outcome) → Call l s mask words o
          → Dec (0 < number o) → Dec (number o ≡ 13) → length o.words ≡ length words
      of_number o h (no a) b = ap length (h.words_wiped (inl (omega arith))) ∙ zeros
      of_number o h (yes a) (no b) = ap length (h.words_kept a b)
      of_number o h (yes a) (yes b) = ap length (h.words_wiped (inr b)) ∙ zeros

      go : (o : Outcome) → Call l s mask words o → length o.words ≡ length words
      go o h = of_number o h (dec_lt 0 (number o)) (ℕ_discrete (number o) 13)

  -- after 0 and 13 two workspaces of one length are one
  both_wiped : (l : Label) (s mask words words' : List ℕ) → length words ≡ length words' → (o o' : Outcome)
      → Call l s mask words o → Call l s mask words' o'
      → o.answer ≡ o'.answer → (number o ≡ 0) ⊎ (number o ≡ 13) → o.words ≡ o'.words
  both_wiped l s mask words words' e o o' h h' same p =
      h.words_wiped p ∙ ap (λ (n : ℕ). replicate n 0) e ∙ sym (h'.words_wiped (there p))
    where
      there : (number o ≡ 0) ⊎ (number o ≡ 13) → (number o' ≡ 0) ⊎ (number o' ≡ 13)
      there (inl q) = inl (sym (ap (λ (a : Numbers). a.number) same) ∙ q)
      there (inr q) = inr (sym (ap (λ (a : Numbers). a.number) same) ∙ q)

  pub by_bands : EveryCall (λ l. draw_in (bands l) l) Full Out
  by_bands = record {
    answered = calls;
    next_label = λ l last s s' mask mask' words.
        same_but_words (bands l) l s mask (draw_in (bands last) last s' mask' words).words words
        (as_many last s' mask' words);
    old_words = λ l s mask words words' e.
        let same = same_but_words (bands l) l s mask words words' e in (
          same.0,
          same.1,
          both_wiped l s mask words words' e (draw_in (bands l) l s mask words) (draw_in (bands l) l s mask words')
              (calls l s mask words) (calls l s mask words') same.0,
        );
    old_mask = λ l s mask mask' words e. same_but_mask (bands l) l s mask mask' words e;
  }
