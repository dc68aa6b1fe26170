-- Worked values of the rules, by computation. A float is given by its bits.
use Rattle.std.specs.Prelude.{◌≡◌, refl, Bool, true, false, Option, None, Some, List, [], ◌∷◌, ℕ, ℤ, pos, negsuc}
use Rattle.std.specs.Float.{binary32}
use Rattle.std.specs.Float.Ieee.{of_bits, to_bits, add, mul, lt, le, neg}
use Rattle.float.specs.Round.{floor_z, ceil_z, floor_of}
use Rattle.geometry.specs.declared.Point.{Point}
use Rattle.geometry.specs.declared.Transform.{Transform}
use Rattle.geometry.specs.declared.Bounds.{Bounds}
use Rattle.geometry.specs.declared.Origin.TheVariants.{TopLeft, BottomLeft}
use Rattle.geometry.specs.declared.Placed.{Placed}
use Rattle.geometry.specs.Affine.{shifted, transform_of, identity_of, translation_of, scale_of, combine_of, translated_of, moved}
use Rattle.geometry.specs.Bits.{float, at}
use Rattle.geometry.specs.Box.{bounds_of, box_from, box_of, empty_of, inside_of}
use Rattle.geometry.specs.Placing.{reaches, placed_of}

bits : Point → List ℕ
bits p = to_bits binary32 p.x ∷ to_bits binary32 p.y ∷ []

entries : Transform → List ℕ
entries t = to_bits binary32 t.xx ∷ to_bits binary32 t.xy ∷ to_bits binary32 t.yx ∷ to_bits binary32 t.yy ∷ to_bits binary32 t.x ∷ to_bits binary32 t.y ∷ []

-- ---- transforms

-- identity then scale (-1, 1): yx is 0·-1 + 1·0, which is +0
flipped : entries (combine_of identity_of (scale_of (float 0xbf80_0000) (float 0x3f80_0000))) ≡ (0xbf80_0000 ∷ 0 ∷ 0 ∷ 0x3f80_0000 ∷ 0 ∷ 0 ∷ [])
unfolding entries of_bits to_bits add mul
flipped = refl

-- then move (1.5, -2)
chained : entries (translated_of (combine_of identity_of (scale_of (float 0x4000_0000) (float 0x4040_0000))) (float 0x3fc0_0000) (float 0xc000_0000)) ≡ (0x4000_0000 ∷ 0 ∷ 0 ∷ 0x4040_0000 ∷ 0x3fc0_0000 ∷ 0xc000_0000 ∷ [])
unfolding entries of_bits to_bits add mul
chained = refl

-- a quarter turn, then scale (2, 1), sends (1, 0) to (0, 1): it is turned to (0, 1), of which the scale leaves y
quarter : Transform
quarter = transform_of (float 0) (float 0x3f80_0000) (float 0xbf80_0000) (float 0) (float 0) (float 0)

turned : bits (moved (combine_of quarter (scale_of (float 0x4000_0000) (float 0x3f80_0000))) (at 0x3f80_0000 0)) ≡ (0 ∷ 0x3f80_0000 ∷ [])
unfolding bits quarter of_bits to_bits add mul
turned = refl

-- a move by (3, 5), then the quarter turn: (3, 5) is turned to (-5, 3)
moved_then_turned :
    entries (combine_of (translation_of (float 0x4040_0000) (float 0x40a0_0000)) quarter)
    ≡ (0 ∷ 0x3f80_0000 ∷ 0xbf80_0000 ∷ 0 ∷ 0xc0a0_0000 ∷ 0x4040_0000 ∷ [])
unfolding entries quarter of_bits to_bits add mul
moved_then_turned = refl

-- the other way round it stays (3, 5)
turned_then_moved :
    entries (combine_of quarter (translation_of (float 0x4040_0000) (float 0x40a0_0000)))
    ≡ (0 ∷ 0x3f80_0000 ∷ 0xbf80_0000 ∷ 0 ∷ 0x4040_0000 ∷ 0x40a0_0000 ∷ [])
unfolding entries quarter of_bits to_bits add mul
turned_then_moved = refl

-- 2 3 5 7 11 13, then 17 19 23 29 31 37: 2·17 + 3·23, 2·19 + 3·29, 5·17 + 7·23, 5·19 + 7·29,
-- 11·17 + 13·23 + 31, 11·19 + 13·29 + 37
low_primes : Transform
low_primes =
    transform_of (float 0x4000_0000) (float 0x4040_0000) (float 0x40a0_0000)
    (float 0x40e0_0000) (float 0x4130_0000) (float 0x4150_0000)

high_primes : Transform
high_primes =
    transform_of (float 0x4188_0000) (float 0x4198_0000) (float 0x41b8_0000)
    (float 0x41e8_0000) (float 0x41f8_0000) (float 0x4214_0000)

each_product :
    entries (combine_of low_primes high_primes)
    ≡ (0x42ce_0000 ∷ 0x42fa_0000 ∷ 0x4376_0000 ∷ 0x4395_0000 ∷ 0x4401_4000 ∷ 0x441b_c000 ∷ [])
unfolding entries low_primes high_primes of_bits to_bits add mul
each_product = refl

-- 2^24·1 + 1·1, then + 1: from the left each 1 is lost on the way, in x and in y
from_the_left :
    entries (combine_of
    (transform_of (float 0) (float 0) (float 0) (float 0) (float 0x4b80_0000) (float 0x3f80_0000))
    (transform_of (float 0x3f80_0000) (float 0x3f80_0000) (float 0x3f80_0000) (float 0x3f80_0000) (float 0x3f80_0000) (float 0x3f80_0000)))
    ≡ (0 ∷ 0 ∷ 0 ∷ 0 ∷ 0x4b80_0000 ∷ 0x4b80_0000 ∷ [])
unfolding entries of_bits to_bits add mul
from_the_left = refl

-- -0 and 0 by turns, then a move by (-0, -0): `then_translate` keeps every -0, and combining with the translation none
zeros : Transform
zeros = transform_of (float 0x8000_0000) (float 0) (float 0x8000_0000) (float 0) (float 0x8000_0000) (float 0)

zeros_kept :
    entries (translated_of zeros (float 0x8000_0000) (float 0x8000_0000))
    ≡ (0x8000_0000 ∷ 0 ∷ 0x8000_0000 ∷ 0 ∷ 0x8000_0000 ∷ 0 ∷ [])
unfolding entries zeros of_bits to_bits add mul
zeros_kept = refl

zeros_lost :
    entries (combine_of zeros (translation_of (float 0x8000_0000) (float 0x8000_0000)))
    ≡ (0 ∷ 0 ∷ 0 ∷ 0 ∷ 0 ∷ 0 ∷ [])
unfolding entries zeros of_bits to_bits add mul
zeros_lost = refl

-- 0.1·0.1 + 0.2·0.2, then + 0.3, each rounded
rounded : bits (moved (transform_of (float 0x3dcc_cccd) (float 0) (float 0x3e4c_cccd) (float 0) (float 0x3e99_999a) (float 0)) (at 0x3dcc_cccd 0x3e4c_cccd)) ≡ (0x3eb3_3334 ∷ 0 ∷ [])
unfolding bits of_bits to_bits add mul
rounded = refl

-- (1, 2) moved by (1.5, -2), as a transform and as an offset
translated : bits (moved (translation_of (float 0x3fc0_0000) (float 0xc000_0000)) (at 0x3f80_0000 0x4000_0000)) ≡ (0x4020_0000 ∷ 0 ∷ [])
unfolding bits of_bits to_bits add mul
translated = refl

offset : bits (shifted (at 0x3fc0_0000 0xc000_0000) (at 0x3f80_0000 0x4000_0000)) ≡ (0x4020_0000 ∷ 0 ∷ [])
unfolding bits of_bits to_bits add
offset = refl

-- ---- boxes

corners : Bounds → List (List ℕ)
unfolding bits
corners b = bits b.min ∷ bits b.max ∷ []

-- 0.0 then -0.0: the first is kept, and the other way round
zero_first : corners (box_of (at 0 0x8000_0000 ∷ at 0x8000_0000 0 ∷ [])) ≡ ((0 ∷ 0x8000_0000 ∷ []) ∷ (0 ∷ 0x8000_0000 ∷ []) ∷ [])
unfolding bits corners of_bits to_bits lt le box_from box_of
zero_first = refl

-- (1, 2), (-3, 5), (0, 0)
three : corners (box_of (at 0x3f80_0000 0x4000_0000 ∷ at 0xc040_0000 0x40a0_0000 ∷ at 0 0 ∷ [])) ≡ ((0xc040_0000 ∷ 0 ∷ []) ∷ (0x3f80_0000 ∷ 0x40a0_0000 ∷ []) ∷ [])
unfolding bits corners of_bits to_bits lt box_from box_of
three = refl

nothing : corners (box_of []) ≡ ((0 ∷ 0 ∷ []) ∷ (0 ∷ 0 ∷ []) ∷ [])
unfolding bits corners of_bits to_bits box_of
nothing = refl

-- in the box (0, 0) to (2, 2): (1, 1) is inside, and a point of each edge is not
inside : Point → Bool
inside p = inside_of (bounds_of (at 0 0) (at 0x4000_0000 0x4000_0000)) p

edges :
    inside (at 0x3f80_0000 0x3f80_0000)
    ∷ inside (at 0 0x3f80_0000)
    ∷ inside (at 0x4000_0000 0x3f80_0000)
    ∷ inside (at 0x3f80_0000 0)
    ∷ inside (at 0x3f80_0000 0x4000_0000)
    ∷ []
    ≡ (true ∷ false ∷ false ∷ false ∷ false ∷ [])
unfolding inside of_bits lt le
edges = refl

-- (0, 0) to (2, 1); no width; no height; the minimum right of the maximum
empties :
    empty_of (bounds_of (at 0 0) (at 0x4000_0000 0x3f80_0000))
    ∷ empty_of (bounds_of (at 0x3f80_0000 0) (at 0x3f80_0000 0x3f80_0000))
    ∷ empty_of (bounds_of (at 0 0x3f80_0000) (at 0x4000_0000 0x3f80_0000))
    ∷ empty_of (bounds_of (at 0x4000_0000 0) (at 0x3f80_0000 0x3f80_0000))
    ∷ []
    ≡ (false ∷ true ∷ true ∷ true ∷ [])
unfolding of_bits lt le
empties = refl

-- ---- placement

-- an answer's numbers: the new offset's bits, left, top, width and height
data Answer : Type 0 where
  at_answer : ℕ → ℕ → ℤ → ℤ → ℕ → ℕ → Answer
  outside : Answer

answer : Option Placed → Answer
answer (Some w) = at_answer (to_bits binary32 w.offset.x) (to_bits binary32 w.offset.y) w.placement.left w.placement.top w.placement.width w.placement.height
answer None = outside

-- K11: box (0.5, 0.25) to (3.25, 2), offset (-1, 1), bottom-left: 4×2, left -1, top 3
k11 : answer (placed_of BottomLeft (at 0xbf80_0000 0x3f80_0000) (bounds_of (at 0x3f00_0000 0x3e80_0000) (at 0x4050_0000 0x4000_0000))) ≡ at_answer 0x3f80_0000 0xbf80_0000 (negsuc 0) (pos 3) 4 2
unfolding answer of_bits to_bits add neg floor_z ceil_z floor_of reaches
k11 = refl

-- the box (0, 0) to (0, 0), offset (0.5, 0.5): 1×1, left 0, top 0 (1 from bottom-left), new offset -0
half_top : answer (placed_of TopLeft (at 0x3f00_0000 0x3f00_0000) (box_of [])) ≡ at_answer 0x8000_0000 0x8000_0000 (pos 0) (pos 0) 1 1
unfolding answer of_bits to_bits add neg floor_z ceil_z floor_of reaches box_of
half_top = refl

half_bottom : answer (placed_of BottomLeft (at 0x3f00_0000 0x3f00_0000) (box_of [])) ≡ at_answer 0x8000_0000 0x8000_0000 (pos 0) (pos 1) 1 1
unfolding answer of_bits to_bits add neg floor_z ceil_z floor_of reaches box_of
half_bottom = refl

-- a maximum below the minimum, (3, 1.5) to (1, 0.5): no width, no height
upside_down : answer (placed_of BottomLeft (at 0 0) (bounds_of (at 0x4040_0000 0x3fc0_0000) (at 0x3f80_0000 0x3f00_0000))) ≡ at_answer 0xc040_0000 0xbf80_0000 (pos 3) (pos 1) 0 0
unfolding answer of_bits to_bits add neg floor_z ceil_z floor_of reaches
upside_down = refl

-- the largest that reaches, 8388607.5 both ways
largest : answer (placed_of BottomLeft (at 0 0) (bounds_of (at 0xcaff_ffff 0xcaff_ffff) (at 0x4aff_ffff 0x4aff_ffff))) ≡ at_answer 0x4b00_0000 0x4b00_0000 (negsuc 8388607) (pos 8388608) 16777216 16777216
unfolding answer of_bits to_bits add neg floor_z ceil_z floor_of reaches
largest = refl

-- 2 ^ 23, infinity and NaN do not
too_far : answer (placed_of TopLeft (at 0 0) (bounds_of (at 0 0) (at 0 0x4b00_0000))) ≡ outside
unfolding answer of_bits add reaches
too_far = refl

infinite : answer (placed_of TopLeft (at 0xff80_0000 0) (bounds_of (at 0 0) (at 0 0))) ≡ outside
unfolding answer of_bits add reaches
infinite = refl

no_number : answer (placed_of TopLeft (at 0 0) (bounds_of (at 0 0x7fc0_0000) (at 0 0))) ≡ outside
unfolding answer of_bits add reaches
no_number = refl
