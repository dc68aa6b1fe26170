-- Two drawings that differ in old mask bytes: the checks look at the mask's length only, and a written byte is a pixel of the deposits.
use Prim.Native.Nat.{ℕ}
use mathlib.Core.Path.{◌≡◌, refl, sym, ◌∙◌}
use mathlib.Core.List.{List}
use native.Mathlib.Omega.{arith}
use lib.ListN.{length}
use Rattle.command.specs.declared.Command.{Command}
use Rattle.path.specs.declared.Refusal.{Refusal}
use Rattle.path.specs.declared.Refusal.TheVariants.{Full}
use Rattle.std.specs.Prelude.{Option, None, Some, ⊤, Result, Ok, Err}
use Rattle.path.specs.Refusals.{refused_at}
use Rattle.path.specs.Reading.{Read, refused, path, read_list}
use Rattle.label.specs.declared.Label.{Label}
use Rattle.label.specs.Checks.{checked_of}
use Rattle.label.specs.Draw.{outcome, wiped, log_of, ran_out, inked, drawn_from, checked_draw, draw_by, draw_of}
use Rattle.label.proofs.Sizes.{Fitting, fitting}
use Rattle.claims.specs.OldContents.{MaskAfter, MasksAfter, AlikeButMask, OldMask}
use Rattle.claims.proofs.OldWords.{by_lengths}
use Rattle.claims.proofs.Painted.{painted_long, painted_line, other_byte}

-- ---- the mask after a drawing
module _ (full : List Command → Option ℕ) (l : Label) (mask words : List ℕ) where
  left : (w : Refusal) (i : ℕ) (words' : List ℕ) → MaskAfter l mask (outcome (refused_at w i) mask words')
  left w i words' = record { long = refl; refused = λ h. refl; others = λ i h n. refl }

  after_inked : (b : Option ℕ) (cs : List Command) → MaskAfter l mask (inked b l mask words cs)
  unfolding inked
  after_inked (Some i) cs = left Full i (wiped words)
  after_inked None cs = record {
    long = painted_long l (log_of l cs) mask;
    refused = λ h. absurd (let z : ◌≡◌ {A = ℕ} 0 1 = cc in omega arith);
    others = other_byte l (log_of l cs) mask;
  }

  after_drawn : (r : Read) → MaskAfter l mask (drawn_from full l mask words r)
  unfolding drawn_from
  after_drawn (refused w i) = left w i words
  after_drawn (path cs) = after_inked (full cs) cs

  after_checked : (s : List ℕ) (v : Result ⊤ Refusal) → MaskAfter l mask (checked_draw full v l s mask words)
  unfolding checked_draw
  after_checked s (Err w) = left w 0 words
  after_checked s (Ok u) = after_drawn (read_list l.transform l.offset s)

pub masks_after_by : (full : Label → ℕ → List Command → Option ℕ) → MasksAfter (λ l s mask words. draw_by (full l (length words)) l s mask words)
unfolding draw_by
masks_after_by full l s mask words = after_checked (full l (length words)) l mask words s (checked_of l (length s) (length mask) (length words))

pub masks_after : MasksAfter draw_of
unfolding draw_of
masks_after = masks_after_by ran_out

-- ---- other bytes
module _ (full : List Command → Option ℕ) (l : Label) (mask mask' words : List ℕ) (e : length mask ≡ length mask') where
  both_left : (w : Refusal) (i : ℕ) (words' : List ℕ) → AlikeButMask l (outcome (refused_at w i) mask words') (outcome (refused_at w i) mask' words')
  both_left w i words' = record { answer = refl; words = refl; written = λ h. absurd (let z : ◌≡◌ {A = ℕ} 0 1 = cc in omega arith) }

  module _ (f : Fitting l (length mask) (length words)) where
    f' : Fitting l (length mask') (length words)
    f' = rw (← e) f

    both_inked : (b : Option ℕ) (cs : List Command) → AlikeButMask l (inked b l mask words cs) (inked b l mask' words cs)
    unfolding inked
    both_inked (Some i) cs = both_left Full i (wiped words)
    both_inked None cs = record {
      answer = refl;
      words = refl;
      written = λ h y x a b.
          painted_line l (log_of l cs) mask f.sized.pitched f.lent.lines y x a b
          ∙ sym (painted_line l (log_of l cs) mask' f'.sized.pitched f'.lent.lines y x a b);
    }

    both_drawn : (r : Read) → AlikeButMask l (drawn_from full l mask words r) (drawn_from full l mask' words r)
    unfolding drawn_from
    both_drawn (refused w i) = both_left w i words
    both_drawn (path cs) = both_inked (full cs) cs

  both_checked : (s : List ℕ) (v : Result ⊤ Refusal) → (v ≡ Ok tt → Fitting l (length mask) (length words)) → AlikeButMask l (checked_draw full v l s mask words) (checked_draw full v l s mask' words)
  unfolding checked_draw
  both_checked s (Err w) g = both_left w 0 words
  both_checked s (Ok u) g = both_drawn (g refl) (read_list l.transform l.offset s)

pub old_mask_by : (full : Label → ℕ → List Command → Option ℕ) → OldMask (λ l s mask words. draw_by (full l (length words)) l s mask words)
old_mask_by full l s mask mask' words e =
    let w = full l (length words) in
    rw (by_lengths w l s mask words (length mask) (length words) refl refl, by_lengths w l s mask' words (length mask) (length words) (sym e) refl)
    (both_checked w l mask mask' words e s (checked_of l (length s) (length mask) (length words)) (fitting l (length s) (length mask) (length words)))

pub old_mask_is : OldMask draw_of
unfolding draw_of
old_mask_is = old_mask_by ran_out
