-- docs/RULES.md, "When a label is turned away": the number of each refusal.
use Rattle.std.specs.Prelude.{ℕ, Result, Err}
use Rattle.list.specs.declared.Reason.{Reason}
use Rattle.list.specs.declared.Reason.TheVariants as reason
use Rattle.path.specs.declared.Refusal.{Refusal}
use Rattle.path.specs.declared.Refused.{Refused}
use Rattle.path.specs.declared.Refusal.TheVariants.{Size, Band, Pitch, Mask, Workspace, NotFinite, Long, Cut, Kind, Length, First, Outside, Full, AfterClose}

abbrev pub number_of : Refusal → ℕ
number_of Size = 1
number_of Band = 2
number_of Pitch = 3
number_of Mask = 4
number_of Workspace = 5
number_of NotFinite = 6
number_of Long = 7
number_of Cut = 8
number_of Kind = 9
number_of Length = 10
number_of First = 11
number_of Outside = 12
number_of Full = 13
number_of AfterClose = 18

-- the refusal of a record that cannot be read
abbrev pub refusal_of : Reason → Refusal
refusal_of reason.Cut = Cut
refusal_of reason.Kind = Kind
refusal_of reason.Length = Length

-- a refusal for which no record is at fault
abbrev pub of_no_record : Refusal → Refused
of_no_record w = record { why = w; «record» = 0 }

-- refused by this, at the record of this index
abbrev pub refused_at : {A : Type 0} → Refusal → ℕ → Result A Refused
refused_at w i = Err (record { why = w; «record» = i })
