-- Worked values of the rules, by computation. A float is given by its bits.
use Rattle.std.specs.Prelude.{◌≡◌, refl, [], ◌∷◌, map, true, false, Option, None, ℕ, pos, negsuc}
use Rattle.std.specs.Float.{binary32}
use Rattle.std.specs.Float.Ieee.{of_bits}
use Rattle.fixed.specs.declared.Fix.{Fix}
use Rattle.fixed.specs.declared.Spot.{Spot}
use Rattle.fixed.specs.Fixed.{fix, spot, value_of, to_fixed, spot_of, cell, fraction}
use Rattle.fixed.specs.Points.{above, below, at}
use Rattle.fixed.specs.Split.{split_quad, split_cubic}

-- ---- the point rule
fixed_bits : ℕ → Option Fix
fixed_bits b = to_fixed (of_bits binary32 b)

-- 4096.0 passes and 4096.00390625 fails; the float before it passes, cut; −4096 passes and −4096.00390625 fails
limits :
    map fixed_bits (0x4580_0000 ∷ 0x4580_0008 ∷ 0x4580_0007 ∷ 0xc580_0000 ∷ 0xc580_0008 ∷ [])
    ≡ fix (above 1048576) false ∷ None ∷ fix (above 1048576) true ∷ fix (below 1048576) false ∷ None ∷ []
unfolding fixed_bits of_bits to_fixed
limits = refl

-- −0.003 is cut to 0, −0.00390625 is −1; 1.5 is 384, 0.1 is 25, −0.1 is −25
toward_zero :
    map fixed_bits (0xbb44_9ba6 ∷ 0xbb80_0000 ∷ 0x3fc0_0000 ∷ 0x3dcc_cccd ∷ 0xbdcc_cccd ∷ [])
    ≡ fix (above 0) true ∷ fix (below 1) false ∷ fix (above 384) false ∷ fix (above 25) true ∷ fix (below 25) true ∷ []
unfolding fixed_bits of_bits to_fixed
toward_zero = refl

-- 0, −0, the smallest and its negative
zeros :
    map fixed_bits (0 ∷ 0x8000_0000 ∷ 1 ∷ 0x8000_0001 ∷ [])
    ≡ fix (above 0) false ∷ fix (above 0) false ∷ fix (above 0) true ∷ fix (above 0) true ∷ []
unfolding fixed_bits of_bits to_fixed
zeros = refl

-- the largest, the infinities, and a NaN with either sign
none_of_these :
    map fixed_bits (0x7f7f_ffff ∷ 0x7f80_0000 ∷ 0xff80_0000 ∷ 0x7fc0_0000 ∷ 0xffc0_0000 ∷ [])
    ≡ None ∷ None ∷ None ∷ None ∷ None ∷ []
unfolding fixed_bits of_bits to_fixed
none_of_these = refl

-- ---- both parts
spot_bits : ℕ → ℕ → Option Spot
spot_bits a b = spot_of (record { x = of_bits binary32 a; y = of_bits binary32 b })

-- (1.5, −0.00390625), (−0.003, 1.5), (0.1, −0.1), (0, infinity), (NaN, 0)
spots :
    spot_bits 0x3fc0_0000 0xbb80_0000
    ∷ spot_bits 0xbb44_9ba6 0x3fc0_0000
    ∷ spot_bits 0x3dcc_cccd 0xbdcc_cccd
    ∷ spot_bits 0 0x7f80_0000
    ∷ spot_bits 0x7fc0_0000 0
    ∷ []
    ≡ spot (at (above 384) (below 1)) 0
    ∷ spot (at (above 0) (above 384)) 1
    ∷ spot (at (above 25) (below 25)) 2
    ∷ None
    ∷ None
    ∷ []
unfolding spot_bits of_bits spot_of
spots = refl

-- ---- cell and fraction: −1 is cell −1, fraction 255; −256, −257, 0, 255, 256
cells : map cell (below 1 ∷ below 256 ∷ below 257 ∷ above 0 ∷ above 255 ∷ above 256 ∷ []) ≡ 8191 ∷ 8191 ∷ 8190 ∷ 8192 ∷ 8192 ∷ 8193 ∷ []
cells = refl

fractions : map fraction (below 1 ∷ below 256 ∷ below 257 ∷ above 0 ∷ above 255 ∷ above 256 ∷ []) ≡ 255 ∷ 0 ∷ 255 ∷ 0 ∷ 255 ∷ 0 ∷ []
fractions = refl

values : map value_of (below 257 ∷ below 1 ∷ above 0 ∷ above 3 ∷ []) ≡ negsuc 256 ∷ negsuc 0 ∷ pos 0 ∷ pos 3 ∷ []
unfolding value_of
values = refl

-- ---- splits
-- (−3, 5) (4, −7) (−8, 2): 1/2, −2/2; −3/4, −7/4; −4/2, −5/2
quad :
    split_quad (at (below 3) (above 5) ∷ at (above 4) (below 7) ∷ at (below 8) (above 2) ∷ [])
    ≡ at (below 3) (above 5) ∷ at (above 0) (below 1) ∷ at (below 1) (below 2) ∷ at (below 2) (below 3) ∷ at (below 8) (above 2) ∷ []
unfolding split_quad
quad = refl

-- (−5, 1) (2, −4) (−1, 6) (7, −9): −3/2, −3/2; −2/4, −1/4; 5/8, −2/8; 7/4, −1/4; 6/2, −3/2
cubic :
    split_cubic (at (below 5) (above 1) ∷ at (above 2) (below 4) ∷ at (below 1) (above 6) ∷ at (above 7) (below 9) ∷ [])
    ≡ at (below 5) (above 1)
    ∷ at (below 2) (below 2)
    ∷ at (below 1) (below 1)
    ∷ at (above 0) (below 1)
    ∷ at (above 1) (below 1)
    ∷ at (above 3) (below 2)
    ∷ at (above 7) (below 9)
    ∷ []
unfolding split_cubic
cubic = refl
