-- Worked values of the rules, by computation. A float is given by its bits.
use Rattle.std.specs.Prelude.{◌≡◌, refl, List, [], ◌∷◌, map, true, false, Option, None, ℕ, ℤ, pos, negsuc}
use Rattle.std.specs.Float.{binary32}
use Rattle.std.specs.Float.Ieee.{of_bits, to_bits, lt}
use Rattle.float.specs.declared.Cut.{Cut}
use Rattle.float.specs.Bits.{float_of}
use Rattle.float.specs.Cut.{near, sized_of, cut_of}
use Rattle.float.specs.Round.{floor_z, ceil_z, floor_of, ceil_of}

-- the bytes 00 00 80 3F are 1.0
one_bytes : to_bits binary32 (float_of 0 0 0x80 0x3f) ≡ 0x3f80_0000
unfolding of_bits to_bits
one_bytes = refl

-- 0.5, -0.5, -0, 3.25, -3.25, 2048.5, the smallest above zero, the largest, infinity, a NaN
inputs : List ℕ
inputs = 0x3f00_0000 ∷ 0xbf00_0000 ∷ 0x8000_0000 ∷ 0x4050_0000 ∷ 0xc050_0000 ∷ 0x4500_0800 ∷ 1 ∷ 0x7f7f_ffff ∷ 0x7f80_0000 ∷ 0x7fc0_0000 ∷ []

cut_bits : ℕ → Option Cut
cut_bits b = cut_of (of_bits binary32 b)

cut_table :
    map cut_bits inputs
    ≡ (near false 0 true ∷ near true 0 true ∷ near false 0 false ∷ near false 3 true ∷ near true 3 true ∷ near false 2048 true ∷ near false 0 true ∷ None ∷ None ∷ None ∷ [])
unfolding inputs cut_bits of_bits lt sized_of
cut_table = refl

floor_bits : ℕ → ℕ
floor_bits b = to_bits binary32 (floor_of (of_bits binary32 b))

-- 0, -1, -0, 3, -4, 2048, 0, and the last three stay
floor_table :
    map floor_bits inputs
    ≡ (0 ∷ 0xbf80_0000 ∷ 0x8000_0000 ∷ 0x4040_0000 ∷ 0xc080_0000 ∷ 0x4500_0000 ∷ 0 ∷ 0x7f7f_ffff ∷ 0x7f80_0000 ∷ 0x7fc0_0000 ∷ [])
unfolding inputs floor_bits of_bits to_bits floor_of
floor_table = refl

ceil_bits : ℕ → ℕ
ceil_bits b = to_bits binary32 (ceil_of (of_bits binary32 b))

-- 1, -0, -0, 4, -3, 2049, 1, and the last three stay
ceil_table :
    map ceil_bits inputs
    ≡ (0x3f80_0000 ∷ 0x8000_0000 ∷ 0x8000_0000 ∷ 0x4080_0000 ∷ 0xc040_0000 ∷ 0x4500_1000 ∷ 0x3f80_0000 ∷ 0x7f7f_ffff ∷ 0x7f80_0000 ∷ 0x7fc0_0000 ∷ [])
unfolding inputs ceil_bits of_bits to_bits ceil_of
ceil_table = refl

floor_number : ℕ → ℤ
floor_number b = floor_z (of_bits binary32 b)

ceil_number : ℕ → ℤ
ceil_number b = ceil_z (of_bits binary32 b)

-- 0.5, -0.5, -0, 3.25, -3.25, 2048.5 as numbers, down and up
numbers : List ℕ
numbers = 0x3f00_0000 ∷ 0xbf00_0000 ∷ 0x8000_0000 ∷ 0x4050_0000 ∷ 0xc050_0000 ∷ 0x4500_0800 ∷ []

floor_numbers : map floor_number numbers ≡ (pos 0 ∷ negsuc 0 ∷ pos 0 ∷ pos 3 ∷ negsuc 3 ∷ pos 2048 ∷ [])
unfolding numbers floor_number of_bits floor_z
floor_numbers = refl

ceil_numbers : map ceil_number numbers ≡ (pos 1 ∷ pos 0 ∷ pos 0 ∷ pos 4 ∷ negsuc 2 ∷ pos 2049 ∷ [])
unfolding numbers ceil_number of_bits ceil_z
ceil_numbers = refl
