-- Worked values of the rules, by computation. A float is given by its bits.
use Rattle.std.specs.Prelude.{ℕ, ◌≡◌, refl, List, [], ◌∷◌, ◌++◌, replicate, ℤ, pos, negsuc}
use Rattle.std.specs.Float.Ieee.{of_bits}
use Rattle.geometry.specs.declared.Point.{Point}
use Rattle.geometry.specs.declared.Transform.{Transform}
use Rattle.geometry.specs.declared.Origin.{Origin}
use Rattle.geometry.specs.declared.Origin.TheVariants.{TopLeft, BottomLeft}
use Rattle.geometry.specs.Affine.{transform_of, identity_of, translation_of}
use Rattle.geometry.specs.Bits.{float, at}
use Rattle.list.specs.Written.{move, line, quad, curve, close}
use Rattle.placing.specs.declared.BoxNumbers.{BoxNumbers}
use Rattle.placing.specs.declared.PlaceNumbers.{PlaceNumbers}
use Rattle.placing.specs.Placing.{bounds_of, laid_of}
use Rattle.placing.specs.Numbers.{box_numbers_of, place_numbers_of}

-- the identity with tx = ty = −0
abbrev still : Transform
still = translation_of (float 0x8000_0000) (float 0x8000_0000)

-- ---- answers in the rules' numbers
abbrev bounds : Transform → List ℕ → BoxNumbers
bounds t s = box_numbers_of (bounds_of t s)

abbrev box : ℕ → ℕ → ℕ → ℕ → BoxNumbers
box a b c d = record { number = 0; index = 0; min_x = float a; min_y = float b; max_x = float c; max_y = float d }

abbrev box_refused : ℕ → ℕ → BoxNumbers
box_refused n i = record { number = n; index = i; min_x = float 0; min_y = float 0; max_x = float 0; max_y = float 0 }

abbrev placement : Origin → Transform → Point → List ℕ → PlaceNumbers
placement g t o s = place_numbers_of (laid_of g t o s)

abbrev lies : ℕ → ℕ → ℤ → ℤ → ℕ → ℕ → ℕ → PlaceNumbers
lies a b l t w h cut = record { number = 0; index = 0; offset_x = float a; offset_y = float b; left = l; top = t; width = w; height = h; cut = cut }

abbrev place_refused : ℕ → ℕ → PlaceNumbers
place_refused n i = record { number = n; index = i; offset_x = float 0; offset_y = float 0; left = pos 0; top = pos 0; width = 0; height = 0; cut = 0 }

-- ---- K11, by a list of the two corners (0.5,0.25) and (3.25,2), offset (−1,1), bottom-left: 4×2, left −1, top 3
abbrev corners : List ℕ
corners = move 0x3f00_0000 0x3e80_0000 ++ line 0x4050_0000 0x4000_0000

pub k11 : placement BottomLeft identity_of (at 0xbf80_0000 0x3f80_0000) corners ≡ lies 0x3f80_0000 0xbf80_0000 (negsuc 0) (pos 3) 4 2 0
unfolding of_bits laid_of
k11 = refl

pub k11_top_left : placement TopLeft identity_of (at 0xbf80_0000 0x3f80_0000) corners ≡ lies 0x3f80_0000 0xbf80_0000 (negsuc 0) (pos 1) 4 2 0
unfolding of_bits laid_of
k11_top_left = refl

-- its box, to which nothing is added
pub k11_box : bounds identity_of corners ≡ box 0x3f00_0000 0x3e80_0000 0x4050_0000 0x4000_0000
unfolding of_bits bounds_of
k11_box = refl

-- ---- an empty list
pub empty_box : bounds identity_of [] ≡ box 0 0 0 0
unfolding of_bits bounds_of
empty_box = refl

-- offset (0.5,0.5): 1×1, left 0, top 0, and 1 from bottom-left; the new offset is −0, −0
pub empty_top_left : placement TopLeft identity_of (at 0x3f00_0000 0x3f00_0000) [] ≡ lies 0x8000_0000 0x8000_0000 (pos 0) (pos 0) 1 1 0
unfolding of_bits laid_of
empty_top_left = refl

pub empty_bottom_left : placement BottomLeft identity_of (at 0x3f00_0000 0x3f00_0000) [] ≡ lies 0x8000_0000 0x8000_0000 (pos 0) (pos 1) 1 1 0
unfolding of_bits laid_of
empty_bottom_left = refl

-- offset 4096 passes, 4096.00390625 is 12 with index 0, as x and as y
pub empty_farthest : placement TopLeft identity_of (at 0x4580_0000 0) [] ≡ lies 0xc580_0000 0x8000_0000 (pos 4096) (pos 0) 0 0 0
unfolding of_bits laid_of
empty_farthest = refl

pub empty_outside : placement TopLeft identity_of (at 0x4580_0008 0) [] ≡ place_refused 12 0
unfolding of_bits laid_of
empty_outside = refl

pub empty_outside_y : placement TopLeft identity_of (at 0 0xc580_0008) [] ≡ place_refused 12 0
unfolding of_bits laid_of
empty_outside_y = refl

-- ---- zeros
-- MoveTo (−0,−0) with tx = ty = −0 has a box of −0; under the identity it has +0
pub zero_kept : bounds still (move 0x8000_0000 0x8000_0000) ≡ box 0x8000_0000 0x8000_0000 0x8000_0000 0x8000_0000
unfolding of_bits bounds_of
zero_kept = refl

pub zero_moved : bounds identity_of (move 0x8000_0000 0x8000_0000) ≡ box 0 0 0 0
unfolding of_bits bounds_of
zero_moved = refl

-- a tie keeps the first: 0 then −0 gives the new offset −0, and −0 then 0 gives +0
pub tie : placement TopLeft still (at 0x8000_0000 0x8000_0000) (move 0 0 ++ line 0x8000_0000 0x8000_0000) ≡ lies 0x8000_0000 0x8000_0000 (pos 0) (pos 0) 0 0 0
unfolding of_bits laid_of
tie = refl

pub tie_turned : placement TopLeft still (at 0x8000_0000 0x8000_0000) (move 0x8000_0000 0x8000_0000 ++ line 0 0) ≡ lies 0 0 (pos 0) (pos 0) 0 0 0
unfolding of_bits laid_of
tie_turned = refl

-- ---- the point rule judges the cut number: 4096.0034 passes, and both ways gives 8194×8194, left −4097, new offset 4097
pub farthest : placement TopLeft identity_of (at 0 0) (move 0xc580_0007 0xc580_0007 ++ line 0x4580_0007 0x4580_0007) ≡ lies 0x4580_0800 0x4580_0800 (negsuc 4096) (negsuc 4096) 8194 8194 4
unfolding of_bits laid_of
farthest = refl

-- ---- both parts of both points of K11 are cut where the offset is (1/512,1/512); of an empty list nothing is
pub cut_all : placement TopLeft identity_of (at 0x3b00_0000 0x3b00_0000) corners ≡ lies 0x8000_0000 0x8000_0000 (pos 0) (pos 0) 4 3 4
unfolding of_bits laid_of
cut_all = refl

pub cut_none : placement TopLeft identity_of (at 0x3b00_0000 0x3b00_0000) [] ≡ lies 0x8000_0000 0x8000_0000 (pos 0) (pos 0) 1 1 0
unfolding of_bits laid_of
cut_none = refl

-- a transform may kill a huge coordinate, 3e38 with xx = 0, and not an infinite one
abbrev flat : Transform
flat = transform_of (float 0) (float 0) (float 0) (float 0x3f80_0000) (float 0) (float 0)

pub killed : bounds flat (move 0x7f61_b1e6 0x3f80_0000) ≡ box 0 0x3f80_0000 0 0x3f80_0000
unfolding of_bits bounds_of
killed = refl

pub not_killed : bounds flat (move 0x7f80_0000 0x3f80_0000) ≡ box_refused 12 0
unfolding of_bits bounds_of
not_killed = refl

-- ---- control points count: (0,0), a quad by (5,−3) to (1,1), a cubic by (−2,0) and (0,7) to (0,0), Close
pub controls :
    bounds identity_of (move 0 0 ++ quad 0x40a0_0000 0xc040_0000 0x3f80_0000 0x3f80_0000 ++ curve 0xc000_0000 0 0 0x40e0_0000 0 0 ++ close)
    ≡ box 0xc000_0000 0xc040_0000 0x40a0_0000 0x40e0_0000
unfolding of_bits bounds_of
controls = refl

-- ---- refusals
-- 6: a NaN as tx; an infinite offset, before 7
pub six : bounds (translation_of (float 0x7fc0_0000) (float 0)) corners ≡ box_refused 6 0
unfolding of_bits bounds_of
six = refl

pub six_offset : placement TopLeft identity_of (at 0 0xff80_0000) (replicate 65540 0) ≡ place_refused 6 0
unfolding of_bits laid_of
six_offset = refl

-- 7: 65,540 bytes
pub seven : bounds identity_of (replicate 65540 0) ≡ box_refused 7 0
unfolding of_bits bounds_of
seven = refl

pub seven_placed : placement TopLeft identity_of (at 0 0) (replicate 65540 0) ≡ place_refused 7 0
unfolding of_bits laid_of
seven_placed = refl

-- 8: one byte behind two records; 9: kind 0; 10: a Close of length 3; 11: Close first
pub eight : bounds identity_of (corners ++ 0x02 ∷ []) ≡ box_refused 8 2
unfolding of_bits bounds_of
eight = refl

pub nine : placement TopLeft identity_of (at 0 0) (corners ++ 0x02 ∷ 0x00 ∷ 0x00 ∷ 0x00 ∷ []) ≡ place_refused 9 2
unfolding of_bits laid_of
nine = refl

pub ten : bounds identity_of (corners ++ 0x03 ∷ 0x00 ∷ 0x05 ∷ 0x00 ∷ 0x00 ∷ []) ≡ box_refused 10 2
unfolding of_bits bounds_of
ten = refl

pub eleven : placement TopLeft identity_of (at 0 0) (close ++ corners) ≡ place_refused 11 0
unfolding of_bits laid_of
eleven = refl

-- 12: the second point at 4096.00390625; with the offset (1,0), (4096,0) fails, which bounds accept
pub twelve : bounds identity_of (move 0 0 ++ line 0 0x4580_0008 ++ close) ≡ box_refused 12 1
unfolding of_bits bounds_of
twelve = refl

pub twelve_placed : placement TopLeft identity_of (at 0x3f80_0000 0) (move 0 0 ++ line 0x4580_0000 0) ≡ place_refused 12 1
unfolding of_bits laid_of
twelve_placed = refl

pub twelve_not : bounds identity_of (move 0 0 ++ line 0x4580_0000 0) ≡ box 0 0 0x4580_0000 0
unfolding of_bits bounds_of
twelve_not = refl
