-- docs/RULES.md, "When a label is turned away": the records in their order, up to one that is refused. Of a record
-- `list` asks first whether its header is whole, 9, 10 and whether its body is whole; then come 11, 18 and 12.
use Rattle.std.specs.Prelude.{ℕ, zero, suc, ◌+◌, ◌≤◌, Bool, true, false, not, cond, ◌&&◌, List, [], ◌∷◌, length, eqb, Option, None, Some, ⊤, Result, Ok, Err}
use Rattle.std.specs.Float.Ieee.{add, mul}
use Rattle.geometry.specs.declared.Point.{Point}
use Rattle.geometry.specs.declared.Transform.{Transform}
use Rattle.geometry.specs.Affine.{moved, shifted}
use Rattle.fixed.specs.declared.Spot.{Spot}
use Rattle.fixed.specs.Fixed.{spot_of, cut_parts}
use Rattle.command.specs.declared.Command.{Command}
use Rattle.command.specs.Commands.{is_move, is_close, draws, points_of}
use Rattle.list.specs.Records.{Step, step_at}
use Rattle.path.specs.declared.Refusal.{Refusal}
use Rattle.path.specs.declared.Refusal.TheVariants.{First, Outside, AfterClose}
use Rattle.path.specs.declared.Records.{Records}
use Rattle.path.specs.declared.Refused.{Refused}
use Rattle.path.specs.Refusals.{refusal_of, refused_at}

-- a point of the list under the transform, and then the offset added
abbrev pub place_of : Transform → Point → Point → Point
place_of t o p = shifted o (moved t p)

-- and by the point rule
unfoldable pub spot_at : Transform → Point → Point → Option Spot
unfolding spot_of add mul
spot_at t o p = spot_of (place_of t o p)

abbrev pub passed : Option Spot → Bool
passed (Some s) = true
passed None = false

unfoldable pub all_pass : Transform → Point → List Point → Bool
unfolding spot_at
all_pass t o [] = true
all_pass t o (p ∷ ps) = passed (spot_at t o p) && all_pass t o ps

-- how many coordinates of these points are cut, and of all points of these commands
unfoldable pub cuts_at : Transform → Point → List Point → ℕ
unfolding add mul
cuts_at t o [] = 0
cuts_at t o (p ∷ ps) = cut_parts (place_of t o p) + cuts_at t o ps

unfoldable pub cuts_in : Transform → Point → List Command → ℕ
unfolding cuts_at
cuts_in t o [] = 0
cuts_in t o (c ∷ cs) = cuts_at t o (points_of c) + cuts_in t o cs

-- whether a record stands directly after Close, by the command before it: the first record has none
abbrev pub after_close : Option Command → Bool
after_close None = false
after_close (Some c) = is_close c

-- the record of index i, directly after Close or not: 11, the list begins with no MoveTo; 18, it draws directly after
-- Close; 12, the point rule refuses a point
unfoldable pub verdict_of : Transform → Point → ℕ → Bool → Command → Result ⊤ Refusal
unfolding all_pass
verdict_of t o i closed c =
    cond (eqb i 0 && not (is_move c)) (Err First)
    (cond (closed && draws c) (Err AfterClose)
    (cond (all_pass t o (points_of c)) (Ok tt)
    (Err Outside)))

-- a record that is fine, with so many coordinates that are cut
abbrev pub ruled : Result ⊤ Refusal → ℕ → Result ℕ Refusal
ruled (Ok u) n = Ok n
ruled (Err w) n = Err w

-- points by the point rule alone
abbrev pub points_ruled : Transform → Point → List Point → Result ℕ Refusal
points_ruled t o ps = ruled (cond (all_pass t o ps) (Ok tt) (Err Outside)) (cuts_at t o ps)

-- of two parts of a record that come one behind the other
abbrev pub both_ruled : Result ℕ Refusal → Result ℕ Refusal → Result ℕ Refusal
both_ruled (Ok m) (Ok n) = Ok (m + n)
both_ruled (Ok m) (Err w) = Err w
both_ruled (Err w) r = Err w

-- few enough to be added: a record has three points at most
abbrev pub Few : Result ℕ Refusal → Type 0
Few (Ok n) = n ≤ 6
Few (Err w) = ⊤

-- a list as it is read: its commands, or the first fault and the index of its record
pub data Read : Type 0 where
  refused : Refusal → ℕ → Read
  path : List Command → Read

abbrev pub before : Command → Read → Read
before c (refused w i) = refused w i
before c (path cs) = path (c ∷ cs)

abbrev pub judged : Result ⊤ Refusal → ℕ → Command → Read → Read
judged (Ok u) i c rest = before c rest
judged (Err w) i c rest = refused w i

-- what is read where this stands behind the command p, if there is one; `rest` is what is read from a place on, behind a
-- command
unfoldable pub read_step : Transform → Point → ℕ → Option Command → Step → (ℕ → Command → Read) → Read
unfolding verdict_of
read_step t o i p (Ok None) rest = path []
read_step t o i p (Ok (Some r)) rest = judged (verdict_of t o i (after_close p) r.command) i r.command (rest r.next r.command)
read_step t o i p (Err why) rest = refused (refusal_of why) i

-- from a place and the index i on, behind the command p. A record has four bytes or more, so fuel above the number of
-- bytes that are left suffices
unfoldable pub read_from : ℕ → Transform → Point → List ℕ → ℕ → ℕ → Option Command → Read
unfolding read_step step_at
read_from zero t o s at i p = path []
read_from (suc n) t o s at i p = read_step t o i p (step_at s at) (λ next c. read_from n t o s next (i + 1) (Some c))

unfoldable pub read_list : Transform → Point → List ℕ → Read
unfolding read_from
read_list t o s = read_from (length s + 1) t o s 0 0 None

-- so many records, and so many coordinates that are cut
abbrev pub counted : ℕ → ℕ → Result Records Refused
counted n m = Ok (record { count = n; cut = m })

-- how many records an accepted list has, and how many coordinates that are cut
unfoldable pub judged_of : Transform → Point → Read → Result Records Refused
unfolding cuts_in
judged_of t o (path cs) = counted (length cs) (cuts_in t o cs)
judged_of t o (refused w i) = refused_at w i
