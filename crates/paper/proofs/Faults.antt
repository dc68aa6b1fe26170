-- The numbers that the checks and the reading give: 1 to 5, and 6 to 12 and 18, of which 6 and 7 are no record's.
use Prim.Native.Nat.{ℕ, zero, suc, ◌+◌, ◌-◌, ◌*◌, ◌≤◌, ◌<◌}
use mathlib.Core.Path.{◌≡◌, refl}
use mathlib.Core.Bool.{Bool, true, false, not, cond, ◌&&◌, ◌||◌}
use mathlib.Core.List.{List, [], ◌∷◌}
use mathlib.Core.Logic.{◌⊎◌, inl, inr}
use native.Mathlib.Omega.{arith}
use Rattle.std.specs.Prelude.{Option, None, Some}
use lib.Dec.{ltb, eqb}
use lib.ListN.{length, drop}
use lib.Ieee.Scale.{finite}
use Rattle.geometry.specs.declared.Point.{Point}
use Rattle.geometry.specs.declared.Transform.{Transform}
use Rattle.command.specs.declared.Command.{Command}
use Rattle.label.specs.declared.Label.{Label}
use Rattle.paper.specs.PathList.{length_in, kind_in, length_of, command_in, points_of}
use Rattle.paper.specs.TurnedAway.{rows, most_pixels, size_fault, all_finite, input_fault, all_pass}
use Rattle.paper.specs.TurnedAway.{after_close, draws, record_fault}
use Rattle.paper.specs.TurnedAway.{Read, path, faulty, before, read_from, read_list}

first_of_five : (a b c d e : Bool) → cond {A = ℕ} a 1 (cond b 2 (cond c 3 (cond d 4 (cond e 5 0)))) ≤ 5
first_of_five true b c d e = omega arith
first_of_five false true c d e = omega arith
first_of_five false false true d e = omega arith
first_of_five false false false true e = omega arith
first_of_five false false false false true = omega arith
first_of_five false false false false false = omega arith

pub size_most : (l : Label) (mask words : ℕ) → size_fault l mask words ≤ 5
unfolding size_fault
size_most l mask words = first_of_five
    (ltb most_pixels l.width || ltb most_pixels l.height)
    (ltb l.end l.first || ltb l.height l.end)
    (ltb l.pitch l.width || ltb 65536 l.pitch)
    (ltb 0 (rows l) && ltb mask (l.pitch * (rows l - 1) + l.width))
    (ltb words (rows l))

-- ---- the fault of a record
pub record Recorded (n : ℕ) : Type 0 where
  pub least : 8 ≤ n
  pub most : (n ≤ 12) ⊎ (n ≡ 18)

first_of_seven : (a b c d e f g : Bool) (n : ℕ)
    → cond {A = ℕ} a 8 (cond b 9 (cond c 10 (cond d 8 (cond e 11 (cond f 18 (cond g 12 0)))))) ≡ n → 0 < n → Recorded n
first_of_seven true b c d e f g n h k = record { least = omega arith; most = inl (omega arith) }
first_of_seven false true c d e f g n h k = record { least = omega arith; most = inl (omega arith) }
first_of_seven false false true d e f g n h k = record { least = omega arith; most = inl (omega arith) }
first_of_seven false false false true e f g n h k = record { least = omega arith; most = inl (omega arith) }
first_of_seven false false false false true f g n h k = record { least = omega arith; most = inl (omega arith) }
first_of_seven false false false false false true g n h k = record { least = omega arith; most = inr (omega arith) }
first_of_seven false false false false false false true n h k = record { least = omega arith; most = inl (omega arith) }
first_of_seven false false false false false false false n h k = absurd (omega arith)

record-most : (t : Transform) (o : Point) (i : ℕ) (prior : Option Command) (s : List ℕ) (n : ℕ) → record_fault t o i prior s ≡ n → 0 < n → Recorded n
unfolding record_fault
record-most t o i prior s n = first_of_seven
    (ltb (length s) 4)
    (ltb (kind_in s) 1 || ltb 5 (kind_in s))
    (not (eqb (length_in s) (length_of (kind_in s))))
    (ltb (length s) (length_in s + 2))
    (eqb i 0 && not (eqb (kind_in s) 1))
    (after_close prior && draws (command_in s))
    (not (all_pass t o (points_of (command_in s))))
    n

-- ---- the fault of a list
pub record Listed (n i : ℕ) : Type 0 where
  pub least : 6 ≤ n
  pub most : (n ≤ 12) ⊎ (n ≡ 18)
  pub none : n < 8 → i ≡ 0

abbrev pub ListedRead : Read → Type 0
ListedRead (path cs) = Unit {0}
ListedRead (faulty n i) = Listed n i

-- 13 is none of them, and each of them is a number that a call answers with
pub not_thirteen : {n : ℕ} → (n ≤ 12) ⊎ (n ≡ 18) → ¬ (n ≡ 13)
not_thirteen (inl h) p = omega arith
not_thirteen (inr h) p = omega arith

pub answer_most : {n : ℕ} → (n ≤ 12) ⊎ (n ≡ 18) → (n ≤ 13) ⊎ (n ≡ 18)
answer_most (inl h) = inl (omega arith)
answer_most (inr h) = inr h

recorded : (n i : ℕ) → Recorded n → Listed n i
recorded n i h =
    let least = h.least in
    record { least = omega arith; most = h.most; none = λ g. absurd (omega arith) }

before_listed : (c : Command) (r : Read) → ListedRead r → ListedRead (before c r)
before_listed c (path cs) h = tt
before_listed c (faulty n i) h = h

from_listed : (n : ℕ) (t : Transform) (o : Point) (i : ℕ) (prior : Option Command) (s : List ℕ) → ListedRead (read_from n t o i prior s)
unfolding read_from
from_listed zero t o i prior s = tt
from_listed (suc n) t o i prior [] = tt
from_listed (suc n) t o i prior (b ∷ bs) =
    go (record_fault t o i prior (b ∷ bs)) (record-most t o i prior (b ∷ bs) (record_fault t o i prior (b ∷ bs)) refl)
    (read_from n t o (i + 1) (Some (command_in (b ∷ bs))) (drop (length_in (b ∷ bs) + 2) (b ∷ bs)))
    (from_listed n t o (i + 1) (Some (command_in (b ∷ bs))) (drop (length_in (b ∷ bs) + 2) (b ∷ bs)))
  where
    go : (k : ℕ) → (0 < k → Recorded k) → (r : Read) → ListedRead r
        → ListedRead (elim k as (λ _. Read) [ zero ↦ before (command_in (b ∷ bs)) r | suc fault ↦ faulty (suc fault) i ])
    go zero e r h = before_listed (command_in (b ∷ bs)) r h
    go (suc k) e r h = recorded (suc k) i (e (omega arith))

first_of_two : (a b : Bool) (r : Read) → ListedRead r
    → ListedRead (elim (cond {A = ℕ} a 6 (cond b 7 0)) as (λ _. Read) [ zero ↦ r | suc fault ↦ faulty (suc fault) 0 ])
first_of_two true b r h = record { least = omega arith; most = inl (omega arith); none = λ g. refl }
first_of_two false true r h = record { least = omega arith; most = inl (omega arith); none = λ g. refl }
first_of_two false false r h = h

pub list_listed : (t : Transform) (o : Point) (s : List ℕ) → ListedRead (read_list t o s)
unfolding read_list input_fault
list_listed t o s = first_of_two
    (not (all_finite t && (finite o.x && finite o.y))) (ltb 65536 (length s))
    (read_from (length s + 1) t o 0 None s) (from_listed (length s + 1) t o 0 None s)
