-- How a file of answers is read: an index wraps, a byte behind the end is 0, and of a number's bytes the first is the lowest.
use Rattle.std.specs.Prelude.{ℕ, ◌+◌, ◌*◌, ◌%◌, ◌^◌, ◌==◌, List, slice_index, if◌then◌else◌, bit_xor, Float, is_nan, to_bits}
use Rattle.std.specs.List.{fold}
use Rattle.std.specs.Float.{binary32}
use Rattle.float.specs.Bits.{float_of}
use Rattle.geometry.specs.declared.Point.{Point}
use Rattle.geometry.specs.declared.Transform.{Transform}
use Rattle.geometry.specs.declared.Origin.{Origin}
use Rattle.geometry.specs.declared.Origin.TheVariants.{TopLeft, BottomLeft}
use Rattle.sweep.specs.declared.Fill.{Fill}
use Rattle.sweep.specs.declared.Fill.TheVariants.{NonZero, EvenOdd}
use Rattle.label.specs.declared.Label.{Label}

-- an index and so many more, as numbers of 64 bits wrap
abbrev pub onward : ℕ → ℕ → ℕ
onward at n = (at + n) % 2 ^ 64

-- the number of four bytes
abbrev pub number_of : ℕ → ℕ → ℕ → ℕ → ℕ
number_of a b c d = a + b * 0x100 + c * 0x1_0000 + d * 0x100_0000

-- the number of the four bytes at an index
unfoldable pub word_at : List ℕ → ℕ → ℕ
word_at s at =
    number_of (slice_index s at) (slice_index s (onward at 1)) (slice_index s (onward at 2))
    (slice_index s (onward at 3))

-- the number of the eight bytes at an index
abbrev pub wide_at : List ℕ → ℕ → ℕ
wide_at s at = word_at s at + word_at s (onward at 4) * 0x1_0000_0000

-- the float of the four bytes at an index
unfoldable pub float_at : List ℕ → ℕ → Float
float_at s at =
    float_of (slice_index s at) (slice_index s (onward at 1)) (slice_index s (onward at 2))
    (slice_index s (onward at 3))

-- a float's bits; those of a NaN are fixed
abbrev pub bits_of : Float → ℕ
bits_of x = if is_nan x then 0x7fc0_0000 else to_bits binary32 x

abbrev pub point_at : List ℕ → ℕ → Point
point_at s at = record { x = float_at s at; y = float_at s (onward at 4) }

unfoldable pub transform_at : List ℕ → ℕ → Transform
transform_at s at = record {
  xx = float_at s at;
  xy = float_at s (onward at 4);
  yx = float_at s (onward at 8);
  yy = float_at s (onward at 12);
  x = float_at s (onward at 16);
  y = float_at s (onward at 20);
}

abbrev pub fill_of : ℕ → Fill
fill_of b = if b == 1 then EvenOdd else NonZero

abbrev pub origin_of : ℕ → Origin
origin_of b = if b == 1 then BottomLeft else TopLeft

-- where a list ends that starts with its length
abbrev pub list_end : List ℕ → ℕ → ℕ
list_end s at = onward (onward at 4) (word_at s at)

-- what stands behind a drawing's list
unfoldable pub label_at : List ℕ → ℕ → Label
label_at s at = record {
  transform = transform_at s at;
  offset = point_at s (onward at 24);
  fill = fill_of (slice_index s (onward at 32));
  up = slice_index s (onward at 33) == 1;
  width = word_at s (onward at 34);
  height = word_at s (onward at 38);
  pitch = word_at s (onward at 42);
  first = word_at s (onward at 46);
  end = word_at s (onward at 50);
}

-- the 64-bit FNV-1a of some bytes
abbrev pub fnv1a : List ℕ → ℕ
fnv1a bytes = fold (λ h b. bit_xor h b * 0x100_0000_01b3 % 2 ^ 64) 0xcbf2_9ce4_8422_2325 bytes
