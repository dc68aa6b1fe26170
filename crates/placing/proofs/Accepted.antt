-- An accepted list: each record was found fine, so the first is a MoveTo, whose point is the first point, and every point passes the point rule.
use Prim.Native.Nat.{ℕ, zero, suc, ◌+◌}
use mathlib.Core.Path.{◌≡◌, refl, subst}
use mathlib.Core.Bool.{Bool, true, false, not, cond, ◌&&◌}
use mathlib.Core.List.{List, [], ◌∷◌}
use native.Mathlib.Omega.{arith}
use lib.ListN.{length}
use lib.Dec.{eqb}
use Rattle.std.specs.Prelude.{Option, None, Some, ⊤, Result, Ok, Err}
use Rattle.geometry.specs.declared.Point.{Point}
use Rattle.geometry.specs.declared.Transform.{Transform}
use Rattle.geometry.specs.Affine.{moved}
use Rattle.command.specs.declared.Command.{Command}
use Rattle.command.specs.declared.Command.TheVariants.{MoveTo, LineTo, QuadTo, CurveTo, Close}
use Rattle.command.specs.Commands.{is_move, draws, points_of}
use Rattle.list.specs.Records.{Step, step_at}
use Rattle.path.specs.declared.Refusal.{Refusal}
use Rattle.path.specs.declared.Refusal.TheVariants.{First, Outside, AfterClose}
use Rattle.path.specs.Reading.{Read, refused, path, judged, all_pass, after_close, verdict_of, read_step, read_from, read_list}
use Rattle.path.proofs.Walk.{same_commands, refused_not_path}
use Rattle.placing.specs.Placing.{path_points}

-- a path that has a first point: that of a MoveTo
pub record Begins (t : Transform) (c : Command) (cs : List Command) : Type 0 where
  pub point : Point
  pub first : c ≡ MoveTo point
  pub points : path_points t (c ∷ cs) ≡ moved t point ∷ path_points t cs

-- commands that are fine from the index i on, behind the command p
pub data FineFrom (t : Transform) (o : Point) : ℕ → Option Command → List Command → Type 0 where
  end : {i : ℕ} {p : Option Command} → FineFrom t o i p []
  more : {i : ℕ} {p : Option Command} {c : Command} {cs : List Command} → verdict_of t o i (after_close p) c ≡ Ok tt → FineFrom t o (i + 1) (Some c) cs → FineFrom t o i p (c ∷ cs)

module _ (t : Transform) (o : Point) where
  -- a record, where what is read behind it is fine
  fine_judged : (i : ℕ) (p : Option Command) (c : Command) (v : Result ⊤ Refusal) → verdict_of t o i (after_close p) c ≡ v → (r : Read) → ((cs : List Command) → r ≡ path cs → FineFrom t o (i + 1) (Some c) cs)
      → (cs : List Command) → judged v i c r ≡ path cs → FineFrom t o i p cs
  fine_judged i p c (Ok u) v (path bs) h cs e = subst (FineFrom t o i p) (same_commands e) (more v (h bs refl))
  fine_judged i p c (Ok u) v (refused w k) h cs e = absurd (refused_not_path e)
  fine_judged i p c (Err w) v r h cs e = absurd (refused_not_path e)

  fine_step : (i : ℕ) (p : Option Command) (x : Step) (rest : ℕ → Command → Read) → ((next : ℕ) (c : Command) (cs : List Command) → rest next c ≡ path cs → FineFrom t o (i + 1) (Some c) cs)
      → (cs : List Command) → read_step t o i p x rest ≡ path cs → FineFrom t o i p cs
  unfolding read_step
  fine_step i p (Ok None) rest h cs e = subst (FineFrom t o i p) (same_commands e) end
  fine_step i p (Err w) rest h cs e = absurd (refused_not_path e)
  fine_step i p (Ok (Some r)) rest h cs e =
      let c = r.command in
      fine_judged i p c (verdict_of t o i (after_close p) c) refl (rest r.next c) (h r.next c) cs e

  fine_from : (s : List ℕ) (f at i : ℕ) (p : Option Command) (cs : List Command) → read_from f t o s at i p ≡ path cs → FineFrom t o i p cs
  unfolding read_from
  fine_from s zero at i p cs e = subst (FineFrom t o i p) (same_commands e) end
  fine_from s (suc f) at i p cs e = fine_step i p (step_at s at) (λ next c. read_from f t o s next (i + 1) (Some c)) (λ next c bs. fine_from s f next (i + 1) (Some c) bs) cs e

  pub all_fine : (s : List ℕ) (cs : List Command) → read_list t o s ≡ path cs → FineFrom t o 0 None cs
  unfolding read_list
  all_fine s cs e = fine_from s (length s + 1) 0 0 None cs e

  -- 11 did not refuse
  first_moves : (closed : Bool) (c : Command) → verdict_of t o 0 closed c ≡ Ok tt → is_move c ≡ true
  unfolding verdict_of
  first_moves closed c e = go (is_move c) e
    where
      go : (b : Bool) → cond (eqb 0 0 && not b) (Err First) (cond (closed && draws c) (Err AfterClose) (cond (all_pass t o (points_of c)) (Ok (tt {0})) (Err Outside))) ≡ Ok (tt {0}) → b ≡ true
      go true h = refl
      go false h = absurd (let z : ◌≡◌ {A = ℕ} 0 1 = cc in omega arith)

  move_begins : (c : Command) (cs : List Command) → is_move c ≡ true → Begins t c cs
  unfolding path_points
  move_begins (MoveTo p) cs e = record { point = p; first = refl; points = refl }
  move_begins (LineTo p) cs e = absurd (let z : ◌≡◌ {A = ℕ} 0 1 = cc in omega arith)
  move_begins (QuadTo c p) cs e = absurd (let z : ◌≡◌ {A = ℕ} 0 1 = cc in omega arith)
  move_begins (CurveTo c d p) cs e = absurd (let z : ◌≡◌ {A = ℕ} 0 1 = cc in omega arith)
  move_begins Close cs e = absurd (let z : ◌≡◌ {A = ℕ} 0 1 = cc in omega arith)

  fine_begins : (c : Command) (cs : List Command) → FineFrom t o 0 None (c ∷ cs) → Begins t c cs
  fine_begins c cs (more v h) = move_begins c cs (first_moves false c v)

  -- an accepted list that is not empty has a first point
  pub begins : (s : List ℕ) (c : Command) (cs : List Command) → read_list t o s ≡ path (c ∷ cs) → Begins t c cs
  begins s c cs e = fine_begins c cs (all_fine s (c ∷ cs) e)

  -- 12 did not refuse
  pub points_pass : (i : ℕ) (closed : Bool) (c : Command) → verdict_of t o i closed c ≡ Ok tt → all_pass t o (points_of c) ≡ true
  unfolding verdict_of
  points_pass i closed c e = go (eqb i 0 && not (is_move c)) (closed && draws c) (all_pass t o (points_of c)) e
    where
      go : (a d b : Bool) → cond a (Err First) (cond d (Err AfterClose) (cond b (Ok (tt {0})) (Err Outside))) ≡ Ok (tt {0}) → b ≡ true
      go false false true h = refl
      go false false false h = absurd (let z : ◌≡◌ {A = ℕ} 0 1 = cc in omega arith)
      go false true b h = absurd (let z : ◌≡◌ {A = ℕ} 0 1 = cc in omega arith)
      go true d b h = absurd (let z : ◌≡◌ {A = ℕ} 0 1 = cc in omega arith)
