-- From the bands to the rule's outcome, and from that to the label drawn at once.
use Prim.Native.Nat.{ℕ, zero, suc, ◌*◌, ◌-◌, ◌≤◌, ◌<◌, max}
use mathlib.Core.Path.{◌≡◌, refl, sym, ap, ◌∙◌}
use mathlib.Core.Bool.{Bool, true, false}
use mathlib.Core.List.{List}
use native.Mathlib.Omega.{arith}
use lib.ListN.{length, replicate}
use lib.Dec.{ltb}
use borrow.Author.Tests.{ltb-true, ltb-false, le-ltb}
use Rattle.std.specs.Result.{is_ok}
use Rattle.storage.specs.Deposits.{per_row, distinct}
use Rattle.command.specs.declared.Command.{Command}
use Rattle.std.specs.Prelude.{Option, Result, Ok, Err}
use Rattle.path.specs.declared.Overfull.{Overfull}
use Rattle.path.specs.Inputs.{most_bytes}
use Rattle.path.specs.Storing.{overfull, Within}
use Rattle.path.specs.declared.Refusal.TheVariants as refusal
use Rattle.path.specs.Refusals.{refused_at}
use Rattle.path.specs.Reading.{path}
use Rattle.label.specs.declared.Label.{Label}
use Rattle.label.specs.Checks.{rows}
use Rattle.label.specs.Draw.{Answer, drawn_with, Outcome, outcome, pool_of, painted_of, wiped, log_of, drawn_as, too_many, inked, draw_by, draw_of}
use Rattle.label.specs.Inking.{Sized, most_told, told_of, Inked}
use Rattle.label.proofs.Sizes.{fitting}
use Rattle.label.proofs.Drawing.{by_path, drawn_from_is}
use Rattle.claims.specs.Parts.{band}
use Rattle.claims.specs.Bands.{band_of}
use Rattle.claims.proofs.Parts.{distinct_part}
use Rattle.claims.proofs.Draws.{Accepted, accepted, draws}
use Rattle.bands.specs.InBands.{band_end, too_many_from, too_many_in_band, ran_out_in_band, draw_in_bands_of, AsAtOnce}
use Rattle.bands.specs.Steps.{Counted, Painted}
use Rattle.bands.proofs.Cells.{sub_log}
use Rattle.bands.proofs.Rows.{none_left, none_behind, one_band}

-- ---- the outcome of an accepted list
module _ (l : Label) (step records cut : ℕ) (s mask words : List ℕ) where
  pub inked_full : (ws' ws'' : List ℕ) → ws'' ≡ replicate (length ws') 0 → length ws' ≡ length words → (k : Result ℕ Overfull) (i : ℕ) → k ≡ Err (overfull i) → Counted l step s (length words) k
      → Inked (ran_out_in_band step l (length words)) l records cut s mask words (outcome (refused_at refusal.Full i) mask ws'')
  unfolding inked
  inked_full ws' ws'' e long k i f C = record { rule = λ cs r m m'. rw (C.full i f cs r, C.named i f cs r, e, long) }

  pub inked_cells : (ws' ws'' mask' : List ℕ) → ws'' ≡ replicate (length ws') 0 → length ws' ≡ length words → (k : Result ℕ Overfull) (n : ℕ) → k ≡ Ok n → Counted l step s (length words) k
      → Painted l step s (length words) mask mask' → Inked (ran_out_in_band step l (length words)) l records cut s mask words (outcome (drawn_with records n cut) mask' ws'')
  unfolding inked
  inked_cells ws' ws'' mask' e long k n f C P = record {
    rule = λ cs r m m'. let fit = C.fit n f cs r in rw (fit, e, long, m, m', C.counted n f cs r, P.painted cs r fit);
  }

  -- of what was told of the count
  abbrev tells : Result ℕ Overfull → Answer
  tells k = told_of k (record { count = records; cut = cut })

  module _ (ws' ws'' : List ℕ) (e : ws'' ≡ replicate (length ws') 0) (long : length ws' ≡ length words) (k : Result ℕ Overfull) (C : Counted l step s (length words) k) where
    pub inked_kept : is_ok k ≡ false → Inked (ran_out_in_band step l (length words)) l records cut s mask words (outcome (tells k) mask ws'')
    inked_kept h = go k refl h
      where
        go : (r : Result ℕ Overfull) → k ≡ r → is_ok r ≡ false → Inked (ran_out_in_band step l (length words)) l records cut s mask words (outcome (tells r) mask ws'')
        go (Err full) f h = inked_full ws' ws'' e long k full.«record» f C
        go (Ok n) f h = absurd (let z : ◌≡◌ {A = ℕ} 0 1 = cc in omega arith)

    pub inked_painted : is_ok k ≡ true → (mask' : List ℕ) → Painted l step s (length words) mask mask'
        → Inked (ran_out_in_band step l (length words)) l records cut s mask words (outcome (tells k) mask' ws'')
    inked_painted h mask' P = go k refl h
      where
        go : (r : Result ℕ Overfull) → k ≡ r → is_ok r ≡ true → Inked (ran_out_in_band step l (length words)) l records cut s mask words (outcome (tells r) mask' ws'')
        go (Ok n) f h = inked_cells ws' ws'' mask' e long k n f C P
        go (Err full) f h = absurd (let z : ◌≡◌ {A = ℕ} 0 1 = cc in omega arith)

-- counts and records are small enough to be told
pub tellable : (l : Label) (step : ℕ) (s : List ℕ) (words : ℕ) (k : Result ℕ Overfull) → length s ≤ most_bytes → Counted l step s words k → Within most_told most_told k
tellable l step s words (Ok n) b C = let few = C.few n refl in omega (arith, few)
tellable l step s words (Err full) b C = let early = C.early full.«record» refl in omega (arith, early)

-- ---- a label that fits at once fits in bands
module _ (l : Label) (z : Sized l) (cs : List Command) (step words : ℕ) (positive : 0 < step) (room : distinct (log_of l cs) ≤ pool_of l words) where
  one_fits : (a b : ℕ) → l.first ≤ a → a ≤ b → b ≤ l.end → too_many (band_of l a b) words cs ≡ false
  one_fits a b p q r =
      let few : distinct (band (a - l.first) (b - l.first) (log_of l cs)) ≤ distinct (log_of l cs) = distinct_part (per_row * (a - l.first)) (per_row * (b - l.first)) (log_of l cs) in
      let e : distinct (log_of (band_of l a b) cs) ≡ distinct (band (a - l.first) (b - l.first) (log_of l cs)) = ap distinct (sub_log l z cs a b p q r) in
      le-ltb _ _ (within e few room (omega arith))
    where
      within : {a b c d f : ℕ} → a ≡ b → b ≤ c → c ≤ d → d ≤ f → a ≤ f
      within p q r t = omega arith

  fit_from : (fuel at : ℕ) → l.first ≤ at → too_many_from fuel step l words cs at ≡ false
  fit_from zero at p = none_left l step words cs at
  fit_from (suc n) at p = go (fit_from n (band_end step at l.end)) (ltb at l.end) refl
    where
      go : (l.first ≤ band_end step at l.end → too_many_from n step l words cs (band_end step at l.end) ≡ false) → (t : Bool) → ltb at l.end ≡ t → too_many_from (suc n) step l words cs at ≡ false
      go rest true e =
          let h = ltb-true at l.end e in
          let k : suc n - 1 ≡ n = omega arith in
          one_band l step words cs at h (suc n) (omega arith) ∙ rw (one_fits at (band_end step at l.end) p (omega arith) (omega arith), k) (rest (omega arith))
      go rest false e = none_behind l step words cs at (ltb-false at l.end e) (suc n)

  all_fit : too_many_in_band step l words cs ≡ false
  all_fit = fit_from (rows l) l.first (omega arith)

-- ---- at once and in bands
pub bands_are : (step : ℕ) (l : Label) (s mask words : List ℕ) → draw_by (ran_out_in_band (max 1 step) l (length words)) l s mask words ≡ draw_in_bands_of step l s mask words
unfolding draw_in_bands_of
bands_are step l s mask words = refl

module _ (step : ℕ) (l : Label) (s mask words : List ℕ) (records cells cut : ℕ) (h : (draw_of l s mask words).answer ≡ drawn_with records cells cut) where
  was : Accepted l s (length mask) (length words) records cells cut
  was = accepted l s mask words records cells cut h

  some : 0 < max 1 step
  some = omega arith

  abbrev full : List Command → Option ℕ
  full = ran_out_in_band (max 1 step) l (length words)

  is_fit : too_many_in_band (max 1 step) l (length words) was.cs ≡ false
  is_fit = all_fit l (fitting l (length s) (length mask) (length words) was.fine).sized was.cs (max 1 step) (length words) some was.room

  inks : inked (full was.cs) l mask words was.cs ≡ outcome (drawn_as l was.cs) (painted_of l (log_of l was.cs) mask) (wiped words)
  unfolding inked
  inks = rw is_fit

  same_outcome : draw_in_bands_of step l s mask words ≡ draw_of l s mask words
  same_outcome =
      sym (bands_are step l s mask words) ∙ sym (drawn_from_is full l s mask words was.fine (path was.cs) was.read) ∙ by_path full l mask words was.cs ∙ inks
      ∙ sym (draws l s mask words was.cs was.fine was.read was.room)

pub at_once_is : (step : ℕ) (l : Label) (s mask words : List ℕ) → AsAtOnce (draw_of l s mask words) (draw_in_bands_of step l s mask words)
at_once_is step l s mask words = record { same = same_outcome step l s mask words }

-- both parts of the promise
pub promised : (step : ℕ) (l : Label) (s mask words : List ℕ) (o : Outcome) → o ≡ draw_by (ran_out_in_band (max 1 step) l (length words)) l s mask words
    → (o ≡ draw_in_bands_of step l s mask words) × AsAtOnce (draw_of l s mask words) o
promised step l s mask words o e = let d = e ∙ bands_are step l s mask words in (d, rw d (at_once_is step l s mask words))
