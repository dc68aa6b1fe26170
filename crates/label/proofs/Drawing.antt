-- The outcome of a drawing by its first answers, whatever rule 13 is.
use Prim.Native.Nat.{ℕ}
use mathlib.Core.Path.{◌≡◌, refl, sym, ap, ◌∙◌}
use mathlib.Core.List.{List}
use lib.ListN.{length}
use Rattle.std.specs.Prelude.{Option, ⊤, Result, Ok, Err}
use Rattle.command.specs.declared.Command.{Command}
use Rattle.path.specs.declared.Records.{Records}
use Rattle.path.specs.declared.Refusal.{Refusal}
use Rattle.path.specs.declared.Refused.{Refused}
use Rattle.path.specs.Refusals.{refused_at}
use Rattle.path.specs.Reading.{Read, path, refused, read_list, counted, judged_of}
use Rattle.path.proofs.Telling.{same_ok, same_err, ok_not_err, same_counts, same_refusal}
use Rattle.label.specs.declared.Label.{Label}
use Rattle.label.specs.declared.Drawn.{Drawn}
use Rattle.label.specs.Checks.{checked_of}
use Rattle.label.specs.Draw.{drawn_with, Outcome, outcome, ran_out, inked, drawn_from, checked_draw, draw_by, draw_of}
use Rattle.label.specs.Inking.{unless_turned, accepted_of, Inked}

pub answered : {o o' : Outcome} → o ≡ o' → o.answer ≡ o'.answer
answered e = ap (λ (o : Outcome). o.answer) e

pub worded : {o o' : Outcome} → o ≡ o' → o.words ≡ o'.words
worded e = ap (λ (o : Outcome). o.words) e

pub same_drawn : {r n k r' n' k' : ℕ} → drawn_with r n k ≡ drawn_with r' n' k' → (r ≡ r') × (n ≡ n') × (k ≡ k')
same_drawn e =
    let d = same_ok e in
    (ap (λ (d : Drawn). d.records) d, ap (λ (d : Drawn). d.cells) d, ap (λ (d : Drawn). d.cut) d)

pub draw_is : (l : Label) (s mask words : List ℕ) → draw_by (ran_out l (length words)) l s mask words ≡ draw_of l s mask words
unfolding draw_of
draw_is l s mask words = refl

-- ---- one step of the rule
module _ (full : List Command → Option ℕ) (l : Label) (s mask words : List ℕ) where
  pub by_check : (v : Result ⊤ Refusal) → checked_of l (length s) (length mask) (length words) ≡ v → checked_draw full v l s mask words ≡ draw_by full l s mask words
  unfolding draw_by
  by_check v e = rw e

  pub by_turned : (w : Refusal) → checked_draw full (Err w) l s mask words ≡ outcome (refused_at w 0) mask words
  unfolding checked_draw
  by_turned w = refl

  pub by_read : (r : Read) → read_list l.transform l.offset s ≡ r → drawn_from full l mask words r ≡ checked_draw full (Ok tt) l s mask words
  unfolding checked_draw
  by_read r e = rw e

module _ (full : List Command → Option ℕ) (l : Label) (mask words : List ℕ) where
  pub by_refused : (w : Refusal) (i : ℕ) → drawn_from full l mask words (refused w i) ≡ outcome (refused_at w i) mask words
  unfolding drawn_from
  by_refused w i = refl

  pub by_path : (cs : List Command) → drawn_from full l mask words (path cs) ≡ inked (full cs) l mask words cs
  unfolding drawn_from
  by_path cs = refl

-- ---- the first answers
module _ (full : List Command → Option ℕ) (l : Label) (s mask words : List ℕ) where
  pub turned : (w : Refusal) → checked_of l (length s) (length mask) (length words) ≡ Err w → outcome (refused_at w 0) mask words ≡ draw_by full l s mask words
  turned w e = sym (by_turned full l s mask words w) ∙ by_check full l s mask words (Err w) e

  module _ (c : checked_of l (length s) (length mask) (length words) ≡ Ok tt) where
    pub drawn_from_is : (r : Read) → read_list l.transform l.offset s ≡ r → drawn_from full l mask words r ≡ draw_by full l s mask words
    drawn_from_is r e = by_read full l s mask words r e ∙ by_check full l s mask words (Ok tt) c

    refuses : (r : Read) (w : Refusal) (i : ℕ) → judged_of l.transform l.offset r ≡ refused_at w i → outcome (refused_at w i) mask words ≡ drawn_from full l mask words r
    unfolding judged_of
    refuses (refused w' i') w i e = let p = same_refusal e in rw (← p.0, ← p.1) (sym (by_refused full l mask words w' i'))
    refuses (path cs) w i e = ok_not_err e

    pub faulty : (w : Refusal) (i : ℕ) → judged_of l.transform l.offset (read_list l.transform l.offset s) ≡ refused_at w i → outcome (refused_at w i) mask words ≡ draw_by full l s mask words
    faulty w i e = refuses (read_list l.transform l.offset s) w i e ∙ drawn_from_is (read_list l.transform l.offset s) refl

    accepts : (r : Read) (n m : ℕ) (o : Outcome) → read_list l.transform l.offset s ≡ r → judged_of l.transform l.offset r ≡ counted n m → Inked full l n m s mask words o → o ≡ drawn_from full l mask words r
    unfolding judged_of
    accepts (path cs) n m o a e k = let p = same_counts e in k.rule cs a (sym p.0) (sym p.1) ∙ sym (by_path full l mask words cs)
    accepts (refused w i) n m o a e k = ok_not_err (sym e)

    pub drawn : (n m : ℕ) (o : Outcome) → judged_of l.transform l.offset (read_list l.transform l.offset s) ≡ counted n m → Inked full l n m s mask words o → o ≡ draw_by full l s mask words
    drawn n m o e k = accepts (read_list l.transform l.offset s) n m o refl e k ∙ drawn_from_is (read_list l.transform l.offset s) refl

-- ---- what `accept` answers
module _ (l : Label) (s : List ℕ) (mask words : ℕ) where
  abbrev checks : Result ⊤ Refusal
  checks = checked_of l (length s) mask words

  abbrev judges : Result Records Refused
  judges = judged_of l.transform l.offset (read_list l.transform l.offset s)

  pub passes : (r : Records) → accepted_of l s mask words ≡ Ok r → (checks ≡ Ok tt) × (judges ≡ counted r.count r.cut)
  passes r e = go checks refl e
    where
      go : (v : Result ⊤ Refusal) → checks ≡ v → unless_turned v judges ≡ Ok r → (checks ≡ Ok tt) × (judges ≡ counted r.count r.cut)
      go (Ok u) h k = (h, k)
      go (Err w) h k = ok_not_err (sym k)

pub sent_away : (full : List Command → Option ℕ) (l : Label) (s mask words : List ℕ) (d : Refused) → accepted_of l s (length mask) (length words) ≡ Err d
    → outcome (Err d) mask words ≡ draw_by full l s mask words
sent_away full l s mask words d e = go (checked_of l (length s) (length mask) (length words)) refl e
  where
    go : (v : Result ⊤ Refusal) → checked_of l (length s) (length mask) (length words) ≡ v
        → unless_turned v (judged_of l.transform l.offset (read_list l.transform l.offset s)) ≡ Err d → outcome (Err d) mask words ≡ draw_by full l s mask words
    go (Ok u) h k = faulty full l s mask words h d.why d.«record» k
    go (Err w) h k = ap (λ (r : Refused). outcome (Err r) mask words) (same_err (sym k)) ∙ turned full l s mask words w h
