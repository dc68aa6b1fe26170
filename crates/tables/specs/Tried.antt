-- The third demand's premises are met: K1's label, accepted with 40 words, its row 1 drawn alone into four bytes, and
-- its rows cut into [0, 1), [1, 1) and [1, 3).
use Rattle.std.specs.Prelude.{ℕ, ◌≡◌, refl, replicate}
use Rattle.std.proofs.Common.{arith}
use mathlib.Core.List.{List, [], ◌∷◌, flatten}
use Rattle.std.specs.Float.Ieee.{of_bits, add, mul, lt, neg, of_int}
use Rattle.label.specs.declared.Label.{Label}
use Rattle.paper.specs.Numbers.{wrapped}
use Rattle.paper.specs.PathList.{command_in}
use Rattle.paper.specs.Floats.{points_in, fixed_of, cut_of}
use Rattle.paper.specs.TurnedAway.{size_fault, input_fault, all_pass, record_fault, read_from, read_list}
use Rattle.paper.specs.Lines as lines
use Rattle.paper.specs.Cells.{spot_in, marks_by, trail, pen_after, stored, cells_of, known, distinct}
use Rattle.paper.specs.Bytes.{cover_up_to, area_at, byte_of, painted}
use Rattle.paper.specs.Drawing.{accepted, one_full, inked, draw_read, draw_in, draw, band}
use Rattle.tables.specs.Lists.{rectangle, label}
use Rattle.paper.specs.Demands.{number, whole, LongEnough, Piece, Partition, cells_over}

abbrev k1 : Label
k1 = label 4 3

abbrev pieces : List Piece
pieces =
    (record { end = 1; mask = replicate 4 7; words = replicate 40 9 })
    ∷ (record { end = 1; mask = []; words = replicate 41 0 })
    ∷ (record { end = 3; mask = replicate 8 7; words = replicate 40 5 })
    ∷ []

pub record Tried : Type 0 where
  pub premise : number (draw (whole k1) rectangle (replicate 12 7) (replicate 40 9)) ≡ 0
  pub long_enough : LongEnough (band k1 1 2) (replicate 4 7)
  pub alone : draw (band k1 1 2) rectangle (replicate 4 7) (replicate 40 9)
      ≡ accepted 5 2 0 (0 ∷ 255 ∷ 255 ∷ 0 ∷ []) (replicate 40 0)
  pub cut : Partition k1 40 0 pieces
  pub together : cells_over k1 rectangle 0 pieces ≡ 2

pub tried : Tried
unfolding
    Partition cells_over draw draw_in one_full draw_read inked painted byte_of cover_up_to area_at distinct known cells_of stored
    trail pen_after marks_by flatten spot_in lines.line lines.whole lines.walk lines.upright read_list read_from record_fault all_pass input_fault
    size_fault points_in fixed_of cut_of command_in wrapped of_bits add mul lt neg of_int
tried = record {
  premise = refl;
  long_enough = λ h. omega arith;
  alone = refl;
  cut = (
    omega arith,
    λ h. omega arith,
    omega arith,
    (omega arith, λ h. omega arith, omega arith, (omega arith, λ h. omega arith, omega arith, refl)),
  );
  together = refl;
}
