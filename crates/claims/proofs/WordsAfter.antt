-- The workspace after a drawing. Neither the checks nor the reading answer 13: by cases of each rule that refuses.
use Prim.Native.Nat.{ℕ, zero, suc, ◌+◌, ◌*◌, ◌-◌}
use mathlib.Core.Path.{◌≡◌, refl, sym, ap}
use mathlib.Core.Bool.{Bool, true, false, not, cond, ◌&&◌, ◌||◌}
use mathlib.Core.List.{List}
use lib.Dec.{eqb, ltb}
use lib.ListN.{length, replicate}
use Rattle.std.specs.Prelude.{Option, None, Some, ⊤, Result, Ok, Err}
use Rattle.geometry.specs.declared.Point.{Point}
use Rattle.geometry.specs.declared.Transform.{Transform}
use Rattle.command.specs.declared.Command.{Command}
use Rattle.command.specs.Commands.{is_move, draws, points_of}
use Rattle.list.specs.declared.Reason.{Reason}
use Rattle.list.specs.declared.Reason.TheVariants as reason
use Rattle.list.specs.Records.{Step, step_at}
use Rattle.path.specs.declared.Refusal.{Refusal}
use Rattle.path.specs.declared.Refusal.TheVariants.{Size, Band, Pitch, Mask, Workspace, NotFinite, Long, First, Outside, AfterClose}
use Rattle.path.proofs.Telling.{ok_not_err, same_err}
use Rattle.path.specs.Refusals.{number_of, refusal_of, refused_at}
use Rattle.path.specs.Inputs.{most_bytes, finite_point, finite_transform, inputs_of}
use Rattle.path.specs.Reading.{Read, refused, path, before, judged, all_pass, after_close, verdict_of, read_step, read_from, read_list}
use Rattle.label.specs.declared.Label.{Label}
use Rattle.label.specs.Checks.{most_pixels, most_pitch, rows, sizes_of, and_then, checked_of}
use Rattle.label.specs.Draw.{Outcome, outcome, ran_out, inked, drawn_from, checked_draw, draw_by, draw_of}
use Rattle.claims.specs.OldContents.{words_after, WordsAfter}

-- ---- neither the checks nor the reading answer 13

abbrev Early : Refusal → Type 0
Early w = eqb (number_of w) 13 ≡ false

-- of a verdict, should it be a refusal
record EarlyVerdict (v : Result ⊤ Refusal) : Type 0 where
  pub early : (w : Refusal) → v ≡ Err w → Early w

abbrev EarlyRead : Read → Type 0
EarlyRead (path cs) = Unit {0}
EarlyRead (refused w i) = Early w

fine : EarlyVerdict (Ok tt)
fine = record { early = λ w e. ok_not_err e }

faulty : (w : Refusal) → Early w → EarlyVerdict (Err w)
faulty w h = record { early = λ w' e. rw (← same_err e) h }

either : (b : Bool) (v w : Result ⊤ Refusal) → EarlyVerdict v → EarlyVerdict w → EarlyVerdict (cond b v w)
either true v w p q = p
either false v w p q = q

sizes : (l : Label) (mask words : ℕ) → EarlyVerdict (sizes_of l mask words)
unfolding sizes_of
sizes l mask words =
    either (ltb most_pixels l.width || ltb most_pixels l.height) _ _ (faulty Size refl)
    (either (ltb l.end l.first || ltb l.height l.end) _ _ (faulty Band refl)
    (either (ltb l.pitch l.width || ltb most_pitch l.pitch) _ _ (faulty Pitch refl)
    (either (ltb 0 (rows l) && ltb mask (l.pitch * (rows l - 1) + l.width)) _ _ (faulty Mask refl)
    (either (ltb words (rows l)) _ _ (faulty Workspace refl) fine))))

inputs : (t : Transform) (o : Point) (list : ℕ) → EarlyVerdict (inputs_of t o list)
unfolding inputs_of
inputs t o list =
    either (not (finite_transform t && finite_point o)) _ _ (faulty NotFinite refl)
    (either (ltb most_bytes list) _ _ (faulty Long refl) fine)

then : (v w : Result ⊤ Refusal) → EarlyVerdict v → EarlyVerdict w → EarlyVerdict (and_then v w)
then (Ok u) w p q = q
then (Err r) w p q = p

checked : (l : Label) (list mask words : ℕ) → EarlyVerdict (checked_of l list mask words)
unfolding checked_of
checked l list mask words = then (sizes_of l mask words) (inputs_of l.transform l.offset list) (sizes l mask words) (inputs l.transform l.offset list)

verdict : (t : Transform) (o : Point) (i : ℕ) (closed : Bool) (c : Command) → EarlyVerdict (verdict_of t o i closed c)
unfolding verdict_of
verdict t o i closed c =
    either (eqb i 0 && not (is_move c)) _ _ (faulty First refl)
    (either (closed && draws c) _ _ (faulty AfterClose refl)
    (either (all_pass t o (points_of c)) _ _ fine (faulty Outside refl)))

reasons : (why : Reason) → Early (refusal_of why)
reasons reason.Cut = refl
reasons reason.Kind = refl
reasons reason.Length = refl

behind : (c : Command) (r : Read) → EarlyRead r → EarlyRead (before c r)
behind c (refused w i) h = h
behind c (path cs) h = tt

judging : (v : Result ⊤ Refusal) (i : ℕ) (c : Command) (r : Read) → EarlyVerdict v → EarlyRead r → EarlyRead (judged v i c r)
judging (Ok u) i c r p q = behind c r q
judging (Err w) i c r p q = p.early w refl

stepping : (t : Transform) (o : Point) (i : ℕ) (p : Option Command) (s : Step) (rest : ℕ → Command → Read) → ((n : ℕ) (c : Command) → EarlyRead (rest n c)) → EarlyRead (read_step t o i p s rest)
unfolding read_step
stepping t o i p (Ok None) rest h = tt
stepping t o i p (Ok (Some r)) rest h =
    let c = r.command in
    judging (verdict_of t o i (after_close p) c) i c (rest r.next c) (verdict t o i (after_close p) c) (h r.next c)
stepping t o i p (Err why) rest h = reasons why

reading : (n : ℕ) (t : Transform) (o : Point) (s : List ℕ) (at i : ℕ) (p : Option Command) → EarlyRead (read_from n t o s at i p)
unfolding read_from
reading zero t o s at i p = tt
reading (suc n) t o s at i p = stepping t o i p (step_at s at) (λ next c. read_from n t o s next (i + 1) (Some c)) (λ next c. reading n t o s next (i + 1) (Some c))

read : (t : Transform) (o : Point) (s : List ℕ) → EarlyRead (read_list t o s)
unfolding read_list
read t o s = reading (length s + 1) t o s 0 0 None

-- ---- the words afterwards

abbrev After : List ℕ → Outcome → Type 0
After words o = o.words ≡ words_after o.answer words

refusing : (w : Refusal) (i : ℕ) (mask words : List ℕ) → Early w → After words (outcome (refused_at w i) mask words)
refusing w i mask words h = sym (ap (λ (b : Bool). cond b (replicate (length words) 0) words) h)

inking : (full : Option ℕ) (l : Label) (mask words : List ℕ) (cs : List Command) → After words (inked full l mask words cs)
unfolding inked
inking (Some i) l mask words cs = refl
inking None l mask words cs = refl

-- ---- whatever rule 13 is
module _ (full : List Command → Option ℕ) (l : Label) (mask words : List ℕ) where
  drawing : (r : Read) → EarlyRead r → After words (drawn_from full l mask words r)
  unfolding drawn_from
  drawing (refused w i) h = refusing w i mask words h
  drawing (path cs) h = inking (full cs) l mask words cs

  checking : (s : List ℕ) (v : Result ⊤ Refusal) → EarlyVerdict v → After words (checked_draw full v l s mask words)
  unfolding checked_draw
  checking s (Err w) h = refusing w 0 mask words (h.early w refl)
  checking s (Ok u) h = drawing (read_list l.transform l.offset s) (read l.transform l.offset s)

pub words_after_by : (full : Label → ℕ → List Command → Option ℕ) → WordsAfter (λ l s mask words. draw_by (full l (length words)) l s mask words)
unfolding draw_by
words_after_by full l s mask words =
    checking (full l (length words)) l mask words s (checked_of l (length s) (length mask) (length words)) (checked l (length s) (length mask) (length words))

pub words_after_is : WordsAfter draw_of
unfolding draw_of
words_after_is = words_after_by ran_out
