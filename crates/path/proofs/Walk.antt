-- The loop over a list's records keeps what is left to read.
use Prim.Native.Nat.{ℕ, zero, suc, ◌+◌, ◌-◌, ◌*◌, ◌≤◌, ◌<◌}
use mathlib.Core.Path.{◌≡◌, refl, sym, ap, ap₂, ◌∙◌}
use mathlib.Core.Bool.{Bool, false}
use mathlib.Core.List.{List, [], ◌∷◌}
use native.Mathlib.Omega.{arith}
use lib.ListN.{length}
use Rattle.std.specs.Prelude.{Option, None, Some, ⊤, Result, Ok, Err}
use Rattle.geometry.specs.declared.Point.{Point}
use Rattle.geometry.specs.declared.Transform.{Transform}
use Rattle.command.specs.declared.Command.{Command}
use Rattle.command.specs.Commands.{is_close, points_of}
use Rattle.list.specs.declared.Reason.{Reason}
use Rattle.list.specs.Records.{found, step_at}
use Rattle.list.proofs.Next.{next_in_is}
use Rattle.path.specs.declared.Refusal.{Refusal}
use Rattle.path.specs.declared.Records.{Records}
use Rattle.path.specs.declared.Refused.{Refused}
use Rattle.path.specs.Refusals.{refusal_of, refused_at}
use Rattle.path.specs.Reading.{Read, refused, path, before, judged, cuts_at, cuts_in, after_close, verdict_of, ruled, read_step, read_from, read_list, counted, judged_of}
use Rattle.path.proofs.Points.{few_cuts}

-- ---- a list that was read: its commands are its own, and it was not refused
pub same_commands : {xs ys : List Command} → path xs ≡ path ys → xs ≡ ys
same_commands p = cc

pub refused_not_path : {w : Refusal} {i : ℕ} {cs : List Command} → refused w i ≡ path cs → ⊥
refused_not_path p = let z : ◌≡◌ {A = ℕ} 0 1 = cc in omega arith

-- ---- what a ruling says of the verdict
ruled_fine : (v : Result ⊤ Refusal) (n m : ℕ) → Ok m ≡ ruled v n → (v ≡ Ok tt) × (m ≡ n)
ruled_fine (Ok u) n m e = (refl, cc)
ruled_fine (Err w) n m e = absurd (let z : ◌≡◌ {A = ℕ} 0 1 = cc in omega arith)

ruled_faulty : (v : Result ⊤ Refusal) (n : ℕ) (w : Refusal) → Err w ≡ ruled v n → v ≡ Err w
ruled_faulty (Ok u) n w e = absurd (let z : ◌≡◌ {A = ℕ} 0 1 = cc in omega arith)
ruled_faulty (Err w') n w e = cc

-- ---- so many records and coordinates that are cut, and those that are still read
module _ (t : Transform) (o : Point) where
  abbrev tallied : ℕ → ℕ → Read → Result Records Refused
  tallied n m (path cs) = counted (n + length cs) (m + cuts_in t o cs)
  tallied n m (refused w i) = refused_at w i

  tallied_none : (r : Read) → tallied 0 0 r ≡ judged_of t o r
  unfolding judged_of
  tallied_none (path cs) = ap₂ counted (omega arith) (omega arith)
  tallied_none (refused w i) = refl

  tallied_one : (n m : ℕ) (c : Command) (r : Read) → tallied n m (before c r) ≡ tallied (n + 1) (m + cuts_at t o (points_of c)) r
  unfolding cuts_in
  tallied_one n m c (path cs) = ap₂ counted (omega arith) (omega arith)
  tallied_one n m c (refused w i) = refl

module _ (t : Transform) (o : Point) (s : List ℕ) where
  -- one step, where there is fuel
  pub one : (f at i : ℕ) (p : Option Command) → 0 < f
      → read_from f t o s at i p ≡ read_step t o i p (step_at s at) (λ next c. read_from (f - 1) t o s next (i + 1) (Some c))
  unfolding read_from
  one zero at i p h = absurd (omega arith)
  one (suc f) at i p h =
      let e : suc f - 1 ≡ f = omega arith in
      rw e

  -- n records and m coordinates that are cut have been judged, and from `at` on what is left is judged as the whole, behind
  -- the last of them
  pub record Going (at n m : ℕ) (closed : Bool) : Type 0 where
    pub fuel : ℕ
    pub last : Option Command
    pub close : closed ≡ after_close last
    pub enough : length s < fuel + at
    pub inside : at ≤ length s
    pub few : n ≤ at
    pub few_cut : m ≤ 6 * n
    pub same : tallied t o n m (read_from fuel t o s at n last) ≡ judged_of t o (read_list t o s)

  pub started : Going 0 0 0 false
  unfolding read_list
  started = record {
    fuel = length s + 1;
    last = None;
    close = refl;
    enough = omega arith;
    inside = omega arith;
    few = omega arith;
    few_cut = omega arith;
    same = tallied_none t o (read_from (length s + 1) t o s 0 0 None);
  }

  module _ (at n m : ℕ) {closed : Bool} (g : Going at n m closed) where
    rest : ℕ → Command → Read
    rest next c = read_from (g.fuel - 1) t o s next (n + 1) (Some c)

    step_is : tallied t o n m (read_step t o n g.last (step_at s at) rest) ≡ judged_of t o (read_list t o s)
    unfolding rest
    step_is = ap (tallied t o n m) (sym (one g.fuel at n g.last (omega arith))) ∙ g.same

    pub ended : step_at s at ≡ Ok None → counted n m ≡ judged_of t o (read_list t o s)
    unfolding read_step
    ended e =
        let z : n ≡ n + 0 = omega arith in
        let z' : m ≡ m + cuts_in t o [] = unfold cuts_in in omega arith in
        ap₂ counted z z' ∙ rw e at step_is

    pub turned : (w : Reason) → step_at s at ≡ Err w → refused_at (refusal_of w) n ≡ judged_of t o (read_list t o s)
    unfolding read_step
    turned w e = rw e at step_is

    module _ (c : Command) (next : ℕ) (e : step_at s at ≡ found c next) where
      pub faulty : (w : Refusal) → Err w ≡ ruled (verdict_of t o n closed c) (cuts_at t o (points_of c)) → refused_at w n ≡ judged_of t o (read_list t o s)
      unfolding read_step
      faulty w v = rw (e, rw g.close at (ruled_faulty (verdict_of t o n closed c) (cuts_at t o (points_of c)) w v)) at step_is

      goes : verdict_of t o n closed c ≡ Ok tt → tallied t o n m (before c (rest next c)) ≡ judged_of t o (read_list t o s)
      unfolding read_step
      goes v = rw (e, rw g.close at v) at step_is

      pub few_more : (m' : ℕ) → Ok m' ≡ ruled (verdict_of t o n closed c) (cuts_at t o (points_of c)) → m' ≤ 6
      few_more m' v = rw (ruled_fine (verdict_of t o n closed c) (cuts_at t o (points_of c)) m' v).1 (few_cuts t o c)

      pub goes_on : {closed' : Bool} (m' : ℕ) → closed' ≡ is_close c → Ok m' ≡ ruled (verdict_of t o n closed c) (cuts_at t o (points_of c)) → Going next (n + 1) (m + m') closed'
      unfolding rest
      goes_on m' k v =
          let b = next_in_is s at c next e in
          let f = ruled_fine (verdict_of t o n closed c) (cuts_at t o (points_of c)) m' v in
          record {
            fuel = g.fuel - 1;
            last = Some c;
            close = k;
            enough = omega (arith, b.past, b.inside);
            inside = b.inside;
            few = omega (arith, b.past);
            few_cut = omega (arith, g.few_cut, few_more m' v);
            same = rw f.1 (sym (tallied_one t o n m c (rest next c)) ∙ goes f.0);
          }

  -- ---- an accepted list: what is left of it are commands

  -- from `at` on the commands `rest` are read
  pub record Unread (at : ℕ) (rest : List Command) : Type 0 where
    pub fuel : ℕ
    pub index : ℕ
    pub last : Option Command
    pub enough : length s < fuel + at
    pub inside : at ≤ length s
    pub reads : read_from fuel t o s at index last ≡ path rest

  -- at first all of them
  pub all_unread : (cs : List Command) → read_list t o s ≡ path cs → Unread 0 cs
  unfolding read_list
  all_unread cs e = record { fuel = length s + 1; index = 0; last = None; enough = omega arith; inside = omega arith; reads = e }

  -- a command, and the commands behind it
  pub record Onward (c : Command) (next : ℕ) (cs : List Command) : Type 0 where
    pub behind : List Command
    pub splits : cs ≡ (c ∷ behind)
    pub unread : Unread next behind

  module _ (at : ℕ) (cs : List Command) (u : Unread at cs) where
    later : ℕ → Command → Read
    later next c = read_from (u.fuel - 1) t o s next (u.index + 1) (Some c)

    here : read_step t o u.index u.last (step_at s at) later ≡ path cs
    unfolding later
    here = sym (one u.fuel at u.index u.last (omega (arith, u.enough, u.inside))) ∙ u.reads

    pub at_the_end : step_at s at ≡ Ok None → cs ≡ []
    unfolding read_step
    at_the_end e = sym (same_commands (rw e at here))

    pub never_refused : (w : Reason) → step_at s at ≡ Err w → ⊥
    unfolding read_step
    never_refused w e = refused_not_path (rw e at here)

    module _ (c : Command) (next : ℕ) (e : step_at s at ≡ found c next) where
      split : (r : Read) → later next c ≡ r → before c r ≡ path cs → Onward c next cs
      unfolding later
      split (path bs) h p =
          let b = next_in_is s at c next e in
          record {
            behind = bs;
            splits = cc;
            unread = record { fuel = u.fuel - 1; index = u.index + 1; last = Some c; enough = omega (arith, u.enough, b.past, b.inside); inside = b.inside; reads = h };
          }
      split (refused w k) h p = absurd (refused_not_path p)

      judge_split : (v : Result ⊤ Refusal) → judged v u.index c (later next c) ≡ path cs → Onward c next cs
      judge_split (Ok u) p = split (later next c) refl p
      judge_split (Err w) p = absurd (refused_not_path p)

      pub onward : Onward c next cs
      unfolding read_step
      onward = judge_split (verdict_of t o u.index (after_close u.last) c) (rw e at here)
