-- docs/RULES.md, "Labels to try": path lists by their records, labels, and what is to come of a drawing.
use Rattle.std.specs.Prelude.{ℕ, zero, suc, ◌≡◌, Bool, false, List, [], ◌∷◌, ◌++◌, replicate, ℤ, pos}
use Rattle.geometry.specs.declared.Transform.{Transform}
use Rattle.geometry.specs.Bits.{float, at}
use Rattle.list.specs.Written.{move, line, close}
use Rattle.sweep.specs.declared.Fill.{Fill}
use Rattle.sweep.specs.declared.Fill.TheVariants.{NonZero}
use Rattle.label.specs.declared.Label.{Label}
use Rattle.label.specs.declared.Numbers.{Numbers}
use Rattle.placing.specs.declared.BoxNumbers.{BoxNumbers}
use Rattle.placing.specs.declared.PlaceNumbers.{PlaceNumbers}
use Rattle.paper.specs.Drawing.{Outcome, draw, draw_in_bands}

-- ---- coordinates by their bits, and lists
abbrev pub −4096·004 : ℕ  -- −4096.00390625
−4096·004 = 0xc580_0008

abbrev pub −4096·0034 : ℕ  -- the float above −4096.00390625
−4096·0034 = 0xc580_0007

abbrev pub −4096 : ℕ
−4096 = 0xc580_0000

abbrev pub −4095 : ℕ
−4095 = 0xc57f_f000

abbrev pub −2048 : ℕ
−2048 = 0xc500_0000

abbrev pub −9 : ℕ
−9 = 0xc110_0000

abbrev pub −5 : ℕ
−5 = 0xc0a0_0000

abbrev pub −4 : ℕ
−4 = 0xc080_0000

abbrev pub −3 : ℕ
−3 = 0xc040_0000

abbrev pub −2 : ℕ
−2 = 0xc000_0000

abbrev pub −1·0005 : ℕ  -- −1 − 2^−11
−1·0005 = 0xbf80_1000

abbrev pub −1 : ℕ
−1 = 0xbf80_0000

abbrev pub −0·999 : ℕ
−0·999 = 0xbf7f_be77

abbrev pub −0·5 : ℕ
−0·5 = 0xbf00_0000

abbrev pub −0·0039 : ℕ  -- −0.00390625
−0·0039 = 0xbb80_0000

abbrev pub −0·003 : ℕ
−0·003 = 0xbb44_9ba6

abbrev pub n0 : ℕ
n0 = 0x0000_0000

abbrev pub −0 : ℕ
−0 = 0x8000_0000

abbrev pub least : ℕ  -- the least float above 0
least = 0x0000_0001

abbrev pub n0·0001 : ℕ  -- 2^−13
n0·0001 = 0x3900_0000

abbrev pub −0·002 : ℕ  -- −1/512
−0·002 = 0xbb00_0000

abbrev pub n0·002 : ℕ  -- 1/512
n0·002 = 0x3b00_0000

abbrev pub n0·25 : ℕ
n0·25 = 0x3e80_0000

abbrev pub n0·5 : ℕ
n0·5 = 0x3f00_0000

abbrev pub n0·75 : ℕ
n0·75 = 0x3f40_0000

abbrev pub n0·999 : ℕ
n0·999 = 0x3f7f_be77

abbrev pub n1 : ℕ
n1 = 0x3f80_0000

abbrev pub n1·0002 : ℕ  -- 1 + 2^−12
n1·0002 = 0x3f80_0800

abbrev pub n1·002 : ℕ  -- 1 + 1/512
n1·002 = 0x3f80_4000

abbrev pub n1·5 : ℕ
n1·5 = 0x3fc0_0000

abbrev pub n2 : ℕ
n2 = 0x4000_0000

abbrev pub n2·5 : ℕ
n2·5 = 0x4020_0000

abbrev pub n3 : ℕ
n3 = 0x4040_0000

abbrev pub n3·25 : ℕ
n3·25 = 0x4050_0000

abbrev pub n4 : ℕ
n4 = 0x4080_0000

abbrev pub n5 : ℕ
n5 = 0x40a0_0000

abbrev pub n6 : ℕ
n6 = 0x40c0_0000

abbrev pub n7 : ℕ
n7 = 0x40e0_0000

abbrev pub n8 : ℕ
n8 = 0x4100_0000

abbrev pub n9 : ℕ
n9 = 0x4110_0000

abbrev pub n10 : ℕ
n10 = 0x4120_0000

abbrev pub n11 : ℕ
n11 = 0x4130_0000

abbrev pub n12 : ℕ
n12 = 0x4140_0000

abbrev pub n13 : ℕ
n13 = 0x4150_0000

abbrev pub n14 : ℕ
n14 = 0x4160_0000

abbrev pub n17 : ℕ
n17 = 0x4188_0000

abbrev pub n19 : ℕ
n19 = 0x4198_0000

abbrev pub n25 : ℕ
n25 = 0x41c8_0000

abbrev pub n28 : ℕ
n28 = 0x41e0_0000

abbrev pub n57 : ℕ
n57 = 0x4264_0000

abbrev pub n64 : ℕ
n64 = 0x4280_0000

abbrev pub n100 : ℕ
n100 = 0x42c8_0000

abbrev pub n112 : ℕ
n112 = 0x42e0_0000

abbrev pub n140 : ℕ
n140 = 0x430c_0000

abbrev pub n197 : ℕ
n197 = 0x4345_0000

abbrev pub n2048 : ℕ
n2048 = 0x4500_0000

abbrev pub n4095 : ℕ
n4095 = 0x457f_f000

abbrev pub n4096 : ℕ
n4096 = 0x4580_0000

abbrev pub n4096·0034 : ℕ  -- the float below 4096.00390625
n4096·0034 = 0x4580_0007

abbrev pub n4096·004 : ℕ  -- 4096.00390625
n4096·004 = 0x4580_0008

abbrev pub n4097 : ℕ
n4097 = 0x4580_0800

abbrev pub n1048576 : ℕ  -- 2^20
n1048576 = 0x4980_0000

abbrev pub n16777216 : ℕ
n16777216 = 0x4b80_0000

abbrev pub n16781312 : ℕ
n16781312 = 0x4b80_0800

abbrev pub n16785408 : ℕ
n16785408 = 0x4b80_1000

abbrev pub n50356224 : ℕ
n50356224 = 0x4c40_1800

abbrev pub n50356228 : ℕ  -- the float above it
n50356228 = 0x4c40_1801

abbrev pub 2^40 : ℕ
2^40 = 0x5380_0000

abbrev pub huge : ℕ  -- 3e38
huge = 0x7f61_b1e6

abbrev pub infinite : ℕ
infinite = 0x7f80_0000

abbrev pub not_number : ℕ
not_number = 0x7fc0_0000

abbrev pub corners : ℕ → ℕ → ℕ → ℕ → ℕ → ℕ → ℕ → ℕ → List ℕ  -- four corners, closed
corners a b c d e f g h = move a b ++ line c d ++ line e f ++ line g h ++ close

abbrev pub rectangle : List ℕ  -- K1's
rectangle = corners n1 n1 n3 n1 n3 n2 n1 n2

abbrev pub nulls : ℕ → List ℕ  -- so many bytes, all zero
nulls n = replicate n 0

abbrev pub closes : ℕ → List ℕ  -- so many times Close
closes zero = []
closes (suc n) = 0x02 ∷ 0x00 ∷ 0x05 ∷ 0x00 ∷ closes n

-- ---- labels
abbrev pub affine : ℕ → ℕ → ℕ → ℕ → ℕ → ℕ → Transform  -- its six numbers in this order
affine xx xy yx yy x y = record {
  xx = float xx;
  xy = float xy;
  yx = float yx;
  yy = float yy;
  x = float x;
  y = float y;
}

-- fill rule, up, width, height, pitch, band; the identity, no offset
abbrev pub banded : Fill → Bool → ℕ → ℕ → ℕ → ℕ → ℕ → Label
banded fill up width height pitch first end = record {
  transform = affine n1 n0 n0 n1 n0 n0;
  offset = at n0 n0;
  fill = fill;
  up = up;
  width = width;
  height = height;
  pitch = pitch;
  first = first;
  end = end;
}

abbrev pub label : ℕ → ℕ → Label  -- nonzero, down, pitch = width, the whole label
label width height = banded NonZero false width height width 0 height

abbrev pub under : Transform → Label → Label  -- the same under a transform
under t l = record {
  transform = t;
  offset = l.offset;
  fill = l.fill;
  up = l.up;
  width = l.width;
  height = l.height;
  pitch = l.pitch;
  first = l.first;
  end = l.end;
}

abbrev pub shifted_by : ℕ → ℕ → Label → Label  -- and with an offset
shifted_by x y l = record {
  transform = l.transform;
  offset = at x y;
  fill = l.fill;
  up = l.up;
  width = l.width;
  height = l.height;
  pitch = l.pitch;
  first = l.first;
  end = l.end;
}

-- ---- a row: a label, a list, a mask of so many 7s, a workspace of so many 9s, and what is to come of them
pub data Told : Type 0 where
  drawn : ℕ → ℕ → List ℕ → Told  -- records, cells and the whole mask; all words are zero, and no coordinate is cut
  drawn_cut : ℕ → ℕ → ℕ → List ℕ → Told  -- records, cells, cut coordinates and the whole mask
  full : ℕ → Told  -- 13 with its index: the mask is as it was, all words are zero
  turned : ℕ → ℕ → Told  -- a refusal's number and index: mask and words are as they were

abbrev pub counts : ℕ → ℕ → ℕ → ℕ → ℕ → Numbers
counts number index records cells cut = record {
  number = number;
  index = index;
  records = records;
  cells = cells;
  cut = cut;
}

abbrev pub wanted : ℕ → ℕ → Told → Outcome
wanted m w (drawn r c mask) = record { answer = counts 0 0 r c 0; mask = mask; words = replicate w 0 }
wanted m w (drawn_cut r c k mask) = record { answer = counts 0 0 r c k; mask = mask; words = replicate w 0 }
wanted m w (full i) = record { answer = counts 13 i 0 0 0; mask = replicate m 7; words = replicate w 0 }
wanted m w (turned n i) = record { answer = counts n i 0 0 0; mask = replicate m 7; words = replicate w 9 }

abbrev pub Draws : Label → List ℕ → ℕ → ℕ → Told → Type 0  -- it is drawn as told
Draws l s m w told = draw l s (replicate m 7) (replicate w 9) ≡ wanted m w told

abbrev pub InBands : ℕ → Label → List ℕ → ℕ → ℕ → Told → Type 0  -- and in bands of so many rows
InBands step l s m w told = draw_in_bands step l s (replicate m 7) (replicate w 9) ≡ wanted m w told

-- ---- boxes and places
abbrev pub box : ℕ → ℕ → ℕ → ℕ → BoxNumbers
box a b c d = record {
  number = 0;
  index = 0;
  min_x = float a;
  min_y = float b;
  max_x = float c;
  max_y = float d;
}

abbrev pub box_refused : ℕ → ℕ → BoxNumbers
box_refused n i = record {
  number = n;
  index = i;
  min_x = float n0;
  min_y = float n0;
  max_x = float n0;
  max_y = float n0;
}

-- the new offset, left, top, width, height and cut coordinates
abbrev pub lies_cut : ℕ → ℕ → ℤ → ℤ → ℕ → ℕ → ℕ → PlaceNumbers
lies_cut a b left top width height cut = record {
  number = 0;
  index = 0;
  offset_x = float a;
  offset_y = float b;
  left = left;
  top = top;
  width = width;
  height = height;
  cut = cut;
}

abbrev pub lies : ℕ → ℕ → ℤ → ℤ → ℕ → ℕ → PlaceNumbers  -- no coordinate is cut
lies a b left top width height = lies_cut a b left top width height 0

abbrev pub place_refused : ℕ → ℕ → PlaceNumbers
place_refused n i = record {
  number = n;
  index = i;
  offset_x = float n0;
  offset_y = float n0;
  left = pos 0;
  top = pos 0;
  width = 0;
  height = 0;
  cut = 0;
}
