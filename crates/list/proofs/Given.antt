-- What the iterator gave tells what stands in the list: the end, a reason to refuse, or a command, behind which it goes on.
use Prim.Native.Nat.{ℕ}
use mathlib.Core.Path.{◌≡◌, refl, ◌∙◌}
use mathlib.Core.List.{List}
use native.Mathlib.Omega.{arith}
use Rattle.std.specs.Prelude.{Some, None, Ok, Err}
use Rattle.command.specs.declared.Command.{Command}
use Rattle.list.specs.declared.Reason.{Reason}
use Rattle.list.specs.declared.Commands.{Commands}
use Rattle.list.specs.Records.{Step, found, step_at}
use Rattle.list.specs.Commands.{item_of, behind, Stepped}

-- ---- what stands where this was given
is_end : (r : Step) → None ≡ item_of r → r ≡ Ok None
is_end (Ok None) e = cc
is_end (Ok (Some r)) e = absurd (let z : ◌≡◌ {A = ℕ} 0 1 = cc in omega arith)
is_end (Err w) e = absurd (let z : ◌≡◌ {A = ℕ} 0 1 = cc in omega arith)

is_fault : (r : Step) (w : Reason) → Some (Err w) ≡ item_of r → r ≡ Err w
is_fault (Ok None) w e = absurd (let z : ◌≡◌ {A = ℕ} 0 1 = cc in omega arith)
is_fault (Ok (Some r)) w e = absurd (let z : ◌≡◌ {A = ℕ} 0 1 = cc in omega arith)
is_fault (Err w') w e = cc

is_found : (s : List ℕ) (at next : ℕ) (r : Step) (c : Command) → Some (Ok c) ≡ item_of r → next ≡ behind s at r → r ≡ found c next
is_found s at next (Ok None) c e h = absurd (let z : ◌≡◌ {A = ℕ} 0 1 = cc in omega arith)
is_found s at next (Ok (Some r)) c e h = let k : c ≡ r.command = cc in rw (k, h) refl
is_found s at next (Err w) c e h = absurd (let z : ◌≡◌ {A = ℕ} 0 1 = cc in omega arith)

module _ {s : List ℕ} {before after : Commands} (e : before.list.now ≡ s) where
  pub gave_end : Stepped before None after → step_at s before.at ≡ Ok None
  gave_end g = is_end _ (rw e at g.gives)

  pub gave_fault : {w : Reason} → Stepped before (Some (Err w)) after → step_at s before.at ≡ Err w
  gave_fault g = is_fault _ _ (rw e at g.gives)

  pub gave : {c : Command} → Stepped before (Some (Ok c)) after → step_at s before.at ≡ found c after.at
  gave g = is_found s before.at after.at _ _ (rw e at g.gives) (rw e at g.goes)

  pub same_list : {c : Command} → Stepped before (Some (Ok c)) after → after.list.now ≡ s
  same_list g = g.same ∙ e
