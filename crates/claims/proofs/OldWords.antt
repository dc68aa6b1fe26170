-- Two drawings that differ in old words: the rules look at how many there are, and what they leave is zeros.
use Prim.Native.Nat.{ℕ}
use mathlib.Core.Path.{◌≡◌, refl, sym, ◌∙◌}
use mathlib.Core.Bool.{true}
use mathlib.Core.List.{List}
use lib.ListN.{length}
use Rattle.command.specs.declared.Command.{Command}
use Rattle.std.specs.Prelude.{Option, None, Some, ⊤, Result, Ok, Err}
use Rattle.path.specs.declared.Refusal.{Refusal}
use Rattle.path.specs.Reading.{Read, refused, path, read_list}
use Rattle.label.specs.declared.Label.{Label}
use Rattle.label.specs.Checks.{checked_of}
use Rattle.label.specs.Draw.{Answer, Outcome, ran_out, inked, drawn_from, checked_draw, draw_by, draw_of}
use Rattle.claims.specs.OldContents.{wipes, words_after, AlikeButWords, OldWords}
use Rattle.claims.proofs.WordsAfter.{words_after_by}

-- a drawing, by the lengths of its mask and its words
module _ (full : List Command → Option ℕ) (l : Label) (s mask words : List ℕ) where
  pub by_lengths : (m w : ℕ) → length mask ≡ m → length words ≡ w → draw_by full l s mask words ≡ checked_draw full (checked_of l (length s) m w) l s mask words
  unfolding draw_by
  by_lengths m w p q = rw (p, q)

-- ---- other words
record Same (o o' : Outcome) : Type 0 where
  pub answer : o.answer ≡ o'.answer
  pub mask : o.mask ≡ o'.mask

module _ (full : List Command → Option ℕ) (l : Label) (mask words words' : List ℕ) where
  same_inked : (b : Option ℕ) (cs : List Command) → Same (inked b l mask words cs) (inked b l mask words' cs)
  unfolding inked
  same_inked (Some i) cs = record { answer = refl; mask = refl }
  same_inked None cs = record { answer = refl; mask = refl }

  same_drawn : (r : Read) → Same (drawn_from full l mask words r) (drawn_from full l mask words' r)
  unfolding drawn_from
  same_drawn (refused w i) = record { answer = refl; mask = refl }
  same_drawn (path cs) = same_inked (full cs) cs

  same_checked : (s : List ℕ) (v : Result ⊤ Refusal) → Same (checked_draw full v l s mask words) (checked_draw full v l s mask words')
  unfolding checked_draw
  same_checked s (Err w) = record { answer = refl; mask = refl }
  same_checked s (Ok u) = same_drawn (read_list l.transform l.offset s)

module _ (full : Label → ℕ → List Command → Option ℕ) (l : Label) (s mask words words' : List ℕ) (e : length words ≡ length words') where
  abbrev before : Outcome
  before = draw_by (full l (length words)) l s mask words

  abbrev after : Outcome
  after = draw_by (full l (length words')) l s mask words'

  same : Same before after
  same =
      rw (← e, by_lengths (full l (length words)) l s mask words (length mask) (length words) refl refl, by_lengths (full l (length words)) l s mask words' (length mask) (length words) refl (sym e))
      (same_checked (full l (length words)) l mask words words' s (checked_of l (length s) (length mask) (length words)))

  -- words that are all zero are as many zeros
  zeros : (a a' : Answer) → a ≡ a' → wipes a ≡ true → words_after a words ≡ words_after a' words'
  zeros a a' p h = rw (← p, h, e)

  pub old_words_by : AlikeButWords before after
  old_words_by = record {
    answer = same.answer;
    mask = same.mask;
    words = λ h.
        words_after_by full l s mask words
        ∙ zeros before.answer after.answer same.answer h
        ∙ sym (words_after_by full l s mask words');
  }

pub old_words_is : OldWords draw_of
unfolding draw_of
old_words_is = old_words_by ran_out
