-- What the iterator over a list's commands gives, call by call.
use Rattle.std.specs.Prelude.{ℕ, ◌≡◌, List, length, Option, Some, None, Result, Ok, Err}
use Rattle.command.specs.declared.Command.{Command}
use Rattle.list.specs.declared.Reason.{Reason}
use Rattle.list.specs.declared.Commands.{Commands}
use Rattle.list.specs.Records.{Step, step_at}

-- what is given where this stands
abbrev pub item_of : Step → Option (Result Command Reason)
item_of (Ok None) = None
item_of (Ok (Some r)) = Some (Ok r.command)
item_of (Err why) = Some (Err why)

-- and the place from which it goes on: the list's end behind a reason to refuse
abbrev pub behind : List ℕ → ℕ → Step → ℕ
behind s at (Ok None) = at
behind s at (Ok (Some r)) = r.next
behind s at (Err why) = length s

pub record Stepped (before : Commands) (item : Option (Result Command Reason)) (after : Commands) : Type 0 where
  pub gives : item ≡ item_of (step_at before.list.now before.at)
  pub same : after.list.now ≡ before.list.now
  pub goes : after.at ≡ behind before.list.now before.at (step_at before.list.now before.at)
