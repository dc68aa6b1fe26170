-- A part of a log: its deposits in the places from lo on and before hi, the places counted from lo.
use Rattle.std.specs.Prelude.{ℕ, ◌+◌, ◌-◌, ◌*◌, Bool, ◌&&◌, List, [], ◌∷◌, leb, ltb}
use Rattle.storage.specs.Deposits.{per_row, Deposit}
use Rattle.pen.specs.declared.Frame.{Frame}
use Rattle.pen.specs.Marks.{when}

abbrev pub among : ℕ → ℕ → ℕ → Bool
among lo hi p = leb lo p && ltb p hi

abbrev pub from : ℕ → Deposit → Deposit
from lo d = record { place = d.place - lo; cover = d.cover; area = d.area }

unfoldable pub part : ℕ → ℕ → List Deposit → List Deposit
part lo hi [] = []
part lo hi (d ∷ ds) = when (among lo hi d.place) (from lo d) (part lo hi ds)

-- the rows from first on and before end, counted from first
abbrev pub band : ℕ → ℕ → List Deposit → List Deposit
band first end log = part (per_row * first) (per_row * end) log

-- the edges of the band [first, end) of a label of this width, as cells
abbrev pub frame : ℕ → ℕ → ℕ → Frame
frame width first end = record { wide = 8192 + width; first = 8192 + first; end = 8192 + end }
