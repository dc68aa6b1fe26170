-- The cells of a drawing that is not swept: its answer is the drawing's, and the words hold what the strokes store, or are
-- those that the drawing's refusal leaves.
use Prim.Native.Nat.{ℕ, ◌≤◌}
use mathlib.Core.Path.{◌≡◌, refl, sym, ◌∙◌}
use mathlib.Core.List.{List}
use native.Mathlib.Omega.{arith}
use mathlib.Core.Bool.{true, false}
use lib.ListN.{length, replicate}
use Rattle.std.specs.Result.{is_err}
use Rattle.std.specs.Prelude.{Result, Ok, Err}
use borrow.Author.Tests.{le-ltb}
use Rattle.storage.specs.Deposits.{distinct}
use Rattle.storage.specs.Cells.{Holds}
use Rattle.command.specs.declared.Command.{Command}
use Rattle.path.specs.declared.Overfull.{Overfull}
use Rattle.path.specs.declared.Refusal.{Refusal}
use Rattle.path.specs.declared.Refusal.TheVariants as refusal
use Rattle.path.specs.declared.Refused.{Refused}
use Rattle.path.specs.Refusals.{refused_at}
use Rattle.path.specs.Storing.{overfull}
use Rattle.path.specs.Reading.{Read, path, refused, cuts_in, read_list, counted, judged_of}
use Rattle.path.proofs.Telling.{ok_not_err, same_counts}
use Rattle.label.specs.declared.Label.{Label}
use Rattle.label.specs.Checks.{rows, checked_of}
use Rattle.label.specs.Draw.{Answer, drawn_with, outcome, pool_of, log_of, ran_out, inked, drawn_from, draw_of}
use Rattle.label.specs.Inking.{Sized, accepted_of, told_of, Poured, Celled}
use Rattle.label.proofs.Pouring.{inked_full}
use Rattle.label.proofs.Drawing.{answered, worded, same_drawn, draw_is, by_path, drawn_from_is, drawn, sent_away}

module _ (l : Label) (s : List ℕ) (mask : ℕ) (words : List ℕ) where
  -- the outcome of a refusal tells both
  refusing : {w : Refusal} {i : ℕ} {after : List ℕ} → ((m : List ℕ) → length m ≡ mask → outcome (refused_at w i) m after ≡ draw_of l s m words)
      → Celled l s mask words after (refused_at w i)
  refusing o = record { told = λ m h. answered (o m h); held = λ r n k p. ok_not_err (sym p); left = λ why index p m h. worded (o m h) }

  pub celled_away : (d : Refused) → accepted_of l s mask (length words) ≡ Err d → Celled l s mask words words (Err d)
  celled_away d e = refusing (λ m h. sent_away (ran_out l (length words)) l s m words d (rw h e) ∙ draw_is l s m words)

  module _ (c : checked_of l (length s) mask (length words) ≡ Ok tt) where
    fine : (m : List ℕ) → length m ≡ mask → checked_of l (length s) (length m) (length words) ≡ Ok tt
    fine m h = rw h c

    module _ (z : Sized l) (records cut : ℕ) (j : judged_of l.transform l.offset (read_list l.transform l.offset s) ≡ counted records cut) (ws' : List ℕ) (k : Result ℕ Overfull) (p : Poured l s words ws' k) where
      pub celled_full : (i : ℕ) → k ≡ Err (overfull i) → (ws'' : List ℕ) → ws'' ≡ replicate (length ws') 0 → Celled l s mask words ws'' (refused_at refusal.Full i)
      celled_full i f ws'' e =
          refusing
          (λ m h.
          drawn (ran_out l (length words)) l s m words (fine m h) records cut _ j (inked_full l z records cut s m words ws' i k f p ws'' e)
          ∙ draw_is l s m words)

      module _ (n : ℕ) (f : k ≡ Ok n) where
        holds : (cs : List Command) → read_list l.transform l.offset s ≡ path cs → Holds ws' (rows l) l.width n (log_of l cs)
        holds cs a = rw f at (p.stored cs a)

        inked_answer : (m : List ℕ) (cs : List Command) → read_list l.transform l.offset s ≡ path cs → records ≡ length cs → cut ≡ cuts_in l.transform l.offset cs
            → drawn_with records n cut ≡ (inked (ran_out l (length words) cs) l m words cs).answer
        unfolding inked
        inked_answer m cs a q q' =
            let log = log_of l cs in
            let few : n ≤ pool_of l (length words) = rw f at p.within in
            let count : n ≡ distinct log = (holds cs a).pool.counted in
            let no : distinct log ≤ pool_of l (length words) = omega arith in
            rw (le-ltb _ _ no, ← count, q, q')

        read_answer : (m : List ℕ) (r : Read) → read_list l.transform l.offset s ≡ r → judged_of l.transform l.offset r ≡ counted records cut → drawn_with records n cut ≡ (drawn_from (ran_out l (length words)) l m words r).answer
        unfolding judged_of
        read_answer m (path cs) a e = let p = same_counts e in inked_answer m cs a (sym p.0) (sym p.1) ∙ sym (answered (by_path (ran_out l (length words)) l m words cs))
        read_answer m (refused w i) a e = ok_not_err (sym e)

        pub celled_cells : Celled l s mask words ws' (drawn_with records n cut)
        celled_cells = record {
          told = λ m h. read_answer m (read_list l.transform l.offset s) refl j
              ∙ answered (drawn_from_is (ran_out l (length words)) l s m words (fine m h) (read_list l.transform l.offset s) refl ∙ draw_is l s m words);
          held = λ r n' k' q cs a. rw (← (same_drawn q).1) (holds cs a);
          left = λ why index q. ok_not_err q;
        }

      -- ---- what is told of what was poured
      abbrev tells : Result ℕ Overfull → Answer
      tells r = told_of r (record { count = records; cut = cut })

      pub celled_wiped : is_err k ≡ true → (ws'' : List ℕ) → ws'' ≡ replicate (length ws') 0 → Celled l s mask words ws'' (tells k)
      celled_wiped h ws'' e = go k refl h
        where
          go : (r : Result ℕ Overfull) → k ≡ r → is_err r ≡ true → Celled l s mask words ws'' (tells r)
          go (Err full) f h = celled_full full.«record» f ws'' e
          go (Ok n) f h = absurd (let z : ◌≡◌ {A = ℕ} 0 1 = cc in omega arith)

      pub celled_kept : is_err k ≡ false → Celled l s mask words ws' (tells k)
      celled_kept h = go k refl h
        where
          go : (r : Result ℕ Overfull) → k ≡ r → is_err r ≡ false → Celled l s mask words ws' (tells r)
          go (Ok n) f h = celled_cells n f
          go (Err full) f h = absurd (let z : ◌≡◌ {A = ℕ} 0 1 = cc in omega arith)
