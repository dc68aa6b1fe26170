-- docs/RULES.md, "The path list": what stands at a place of it, and the number of each reason to refuse.
use Rattle.std.specs.Prelude.{ℕ, ◌+◌, ◌*◌, List, cond, not, ◌||◌, length, get_or, drop, ltb, leb, eqb, Float, Option, Some, None, Result, Ok, Err}
use Rattle.std.specs.Float.Ieee.{of_bits}
use Rattle.float.specs.Bits.{float_of}
use Rattle.geometry.specs.declared.Point.{Point}
use Rattle.command.specs.declared.Command.{Command}
use Rattle.command.specs.declared.Command.TheVariants.{MoveTo, LineTo, QuadTo, CurveTo, Close}
use Rattle.list.specs.declared.Reason.{Reason}
use Rattle.list.specs.declared.Reason.TheVariants.{Cut, Kind, Length}
use Rattle.list.specs.declared.Record.{Record}

-- a 2-byte number, little-endian
abbrev pub le16 : List ℕ → ℕ → ℕ
le16 s at = get_or s at 0 + 256 * get_or s (at + 1) 0

-- a 32-bit float: IEEE 754 binary32 bits, little-endian
abbrev pub float_at : List ℕ → ℕ → Float
float_at s at = float_of (get_or s at 0) (get_or s (at + 1) 0) (get_or s (at + 2) 0) (get_or s (at + 3) 0)

-- coordinates: x before y
unfoldable pub point_at : List ℕ → ℕ → Point
unfolding of_bits
point_at s at = record { x = float_at s at; y = float_at s (at + 4) }

-- the command of kind k, with its coordinates from the bytes behind the header:
-- 1 MoveTo p, 2 LineTo p, 3 QuadTo c p, 4 CurveTo c1 c2 p, 5 Close
unfoldable pub body_of : ℕ → List ℕ → Command
unfolding point_at
body_of k s =
    cond (eqb k 1) (MoveTo (point_at s 0))
    (cond (eqb k 2) (LineTo (point_at s 0))
    (cond (eqb k 3) (QuadTo (point_at s 0) (point_at s 8))
    (cond (eqb k 4) (CurveTo (point_at s 0) (point_at s 8) (point_at s 16))
    Close)))

-- the kind's length, which counts the bytes after itself
unfoldable pub length_of : ℕ → ℕ
length_of k = cond (eqb k 1) 10 (cond (eqb k 2) 10 (cond (eqb k 3) 18 (cond (eqb k 4) 26 2)))

-- a command, and the place behind its record
abbrev pub recorded : Command → ℕ → Record
recorded c next = record { command = c; next = next }

-- the record of n + 2 bytes whose header says length n and kind k, judged in this order:
-- kind not 1 to 5; length is not the kind's; its body passes the end
unfoldable pub record_of : ℕ → ℕ → List ℕ → ℕ → Result Record Reason
unfolding body_of length_of
record_of n k s at =
    cond (ltb k 1 || ltb 5 k) (Err Kind)
    (cond (not (eqb n (length_of k))) (Err Length)
    (cond (ltb (length s) (at + (n + 2))) (Err Cut)
    (Ok (recorded (body_of k (drop (at + 4) s)) (at + (n + 2))))))

-- what stands at a place: a record, the end, or a reason to refuse
abbrev pub Step : Type 0
Step = Result (Option Record) Reason

-- a record with this command, and the place behind it
abbrev pub found : Command → ℕ → Step
found c next = Ok (Some (recorded c next))

-- a record that was read, or the reason to refuse it
abbrev pub step_of : Result Record Reason → Step
step_of (Ok r) = Ok (Some r)
step_of (Err why) = Err why

-- the end; 1 to 3 bytes left; a record
unfoldable pub step_at : List ℕ → ℕ → Step
unfolding record_of
step_at s at =
    cond (leb (length s) at) (Ok None)
    (cond (ltb (length s) (at + 4)) (Err Cut)
    (step_of (record_of (le16 s at) (le16 s (at + 2)) s at)))

-- the refusal's number
abbrev pub number_of : Reason → ℕ
number_of Cut = 8
number_of Kind = 9
number_of Length = 10
