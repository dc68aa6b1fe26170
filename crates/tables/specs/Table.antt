-- docs/RULES.md, "Labels to try": K1 to K12 in one table, each entry computed from the rules.
use Rattle.std.specs.Prelude.{◌≡◌, refl, pos, negsuc}
use mathlib.Core.List.{[], ◌∷◌, ◌++◌, flatten}
use Rattle.std.specs.Float.Ieee.{of_bits, add, mul, lt, neg, of_int}
use Rattle.geometry.specs.declared.Origin.TheVariants.{BottomLeft}
use Rattle.geometry.specs.Bits.{at}
use Rattle.sweep.specs.declared.Fill.TheVariants.{NonZero, EvenOdd}
use Rattle.list.specs.Written.{move, line, close}
use Rattle.paper.specs.Numbers.{wrapped}
use Rattle.paper.specs.PathList.{command_in}
use Rattle.paper.specs.Floats.{points_in, fixed_of, cut_of, identity}
use Rattle.paper.specs.TurnedAway.{size_fault, input_fault, all_pass, record_fault, read_from, read_list}
use Rattle.paper.specs.Lines as lines
use Rattle.paper.specs.Curves as curves
use Rattle.paper.specs.Cells.{spot_in, marks_by, trail, pen_after, stored, cells_of, stored_by, cells_by, known, distinct}
use Rattle.paper.specs.Bytes.{cover_up_to, area_at, byte_of, painted}
use Rattle.paper.specs.Drawing.{one_full, fitting, first_of, inked, draw_read, draw_in, draw}
use Rattle.paper.specs.Placing.{box_from, box_of, bounds, floor, placement_of, placement}
use Rattle.tables.specs.Lists.{−5, −1, n0, n0·25, n0·5, n1, n1·5, n2, n3, n3·25, n9, corners, label}
use Rattle.tables.specs.Lists.{drawn, full, Draws, lies}

pub record Table : Type 0 where
  -- K1: rectangle (1,1) (3,1) (3,2) (1,2), 4×3
  pub k1 :
      Draws (label 4 3) (corners n1 n1 n3 n1 n3 n2 n1 n2) 12 40
      (drawn 5 2
      (0 ∷ 0 ∷ 0 ∷ 0
      ∷ 0 ∷ 255 ∷ 255 ∷ 0
      ∷ 0 ∷ 0 ∷ 0 ∷ 0 ∷ []))
  -- K2: (1.5,1) (2,1) (2,2) (1.5,2), 4×3
  pub k2 :
      Draws (label 4 3) (corners n1·5 n1 n2 n1 n2 n2 n1·5 n2) 12 40
      (drawn 5 2
      (0 ∷ 0 ∷ 0 ∷ 0
      ∷ 0 ∷ 127 ∷ 0 ∷ 0
      ∷ 0 ∷ 0 ∷ 0 ∷ 0 ∷ []))
  -- K3, the reverse order: the points backwards
  pub k3 :
      Draws (label 4 3) (corners n1·5 n2 n2 n2 n2 n1 n1·5 n1) 12 40
      (drawn 5 3
      (0 ∷ 0 ∷ 0 ∷ 0
      ∷ 0 ∷ 128 ∷ 0 ∷ 0
      ∷ 0 ∷ 0 ∷ 0 ∷ 0 ∷ []))
  -- K3 by its other reading: from the same start, turned round
  pub k3_turned :
      Draws (label 4 3) (corners n1·5 n1 n1·5 n2 n2 n2 n2 n1) 12 40
      (drawn 5 2
      (0 ∷ 0 ∷ 0 ∷ 0
      ∷ 0 ∷ 128 ∷ 0 ∷ 0
      ∷ 0 ∷ 0 ∷ 0 ∷ 0 ∷ []))
  -- K4: triangle (0,0) (1,1) (0,1), 1×1
  pub k4 : Draws (label 1 1) (move n0 n0 ++ line n1 n1 ++ line n0 n1 ++ close) 1 40 (drawn 4 1 (128 ∷ []))
  -- K5: the same, 2×1
  pub k5 : Draws (label 2 1) (move n0 n0 ++ line n1 n1 ++ line n0 n1 ++ close) 2 40 (drawn 4 2 (128 ∷ 0 ∷ []))
  -- K6: rectangle x −5 to 2, y 0 to 1, 4×1
  pub k6 : Draws (label 4 1) (corners −5 n0 n2 n0 n2 n1 −5 n1) 4 40 (drawn 5 2 (255 ∷ 255 ∷ 0 ∷ 0 ∷ []))
  -- K7: x 2 to 9
  pub k7 : Draws (label 4 1) (corners n2 n0 n9 n0 n9 n1 n2 n1) 4 40 (drawn 5 1 (0 ∷ 0 ∷ 255 ∷ 255 ∷ []))
  -- K8: lone MoveTo (0,0), 1×1; with a 1-word workspace, 13 with record 1, and with 4 words too
  pub k8 : Draws (label 1 1) (move n0 n0) 1 5 (drawn 1 1 (0 ∷ []))
  pub k8_full : Draws (label 1 1) (move n0 n0) 1 1 (full 1)
  pub k8_4_words : Draws (label 1 1) (move n0 n0) 1 4 (full 1)
  -- K9: the byte of v = −131,072 under either rule
  pub k9 : (byte_of NonZero (negsuc 131071) ≡ 255) × (byte_of EvenOdd (negsuc 131071) ≡ 255)
  -- K10: v = 262,144, nonzero and even-odd
  pub k10 : (byte_of NonZero (pos 262144) ≡ 255) × (byte_of EvenOdd (pos 262144) ≡ 0)
  -- K11: box (0.5,0.25) to (3.25,2), offset (−1,1), bottom-left; the new offset is (1,−1)
  pub k11 :
      placement BottomLeft identity (at −1 n1) (move n0·5 n0·25 ++ line n3·25 n2)
      ≡ lies n1 −1 (negsuc 0) (pos 3) 4 2
  -- K12: empty list, 3×2
  pub k12 :
      Draws (label 3 2) [] 6 40
      (drawn 0 0
      (0 ∷ 0 ∷ 0
      ∷ 0 ∷ 0 ∷ 0 ∷ []))

pub table : Table
unfolding draw draw_in one_full first_of fitting draw_read inked painted byte_of cover_up_to area_at distinct known cells_of cells_by
    stored stored_by trail pen_after marks_by flatten spot_in curves.quad curves.cubic curves.along curves.quad_points curves.doublings curves.cubic_points curves.curved
    lines.line lines.whole lines.walk lines.upright read_list read_from record_fault all_pass input_fault size_fault
    fixed_of cut_of command_in wrapped placement placement_of bounds points_in box_of box_from floor of_bits add mul lt neg of_int
table = record {
  k1 = refl;
  k2 = refl;
  k3 = refl;
  k3_turned = refl;
  k4 = refl;
  k5 = refl;
  k6 = refl;
  k7 = refl;
  k8 = refl;
  k8_full = refl;
  k8_4_words = refl;
  k9 = (refl, refl);
  k10 = (refl, refl);
  k11 = refl;
  k12 = refl;
}
