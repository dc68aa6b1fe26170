-- When a stored answer is the one that the definitions of `paper` give, and how the cases of a file are counted.
use Rattle.std.specs.Prelude.{◌≡◌, ℕ, zero, suc, ◌+◌, ◌%◌, ◌^◌, ◌<◌, ◌≤◌, ◌==◌, ◌||◌, List, length, replicate, slice_index, slice_range, if◌then◌else◌, All, EachIndex, MatchBool, ℤ, pos, ◌+ℤ◌}
use Rattle.label.specs.declared.Numbers.{Numbers}
use Rattle.placing.specs.declared.PlaceNumbers.{PlaceNumbers}
use Rattle.paper.specs.Drawing.{Outcome, draw}
use Rattle.paper.specs.Placing.{placement}
use Rattle.replay.specs.declared.TheConstants.{OLD_BYTE, OLD_WORD}
use Rattle.replay.specs.Reading.{onward, word_at, wide_at, point_at, transform_at, origin_of, label_at, list_end, bits_of, fnv1a}

-- of so many cases with these numbers, how many are accepted, which is 0
unfoldable pub accepted_of : (ℕ → ℕ) → ℕ → ℕ
accepted_of number zero = 0
accepted_of number (suc k) = accepted_of number k + (if number k == 0 then 1 else 0)

-- where the case of a number stands, counted from 0, of those from an index on, by where the one behind each stands
unfoldable pub nth : (ℕ → ℕ) → ℕ → ℕ → ℕ
nth next from zero = from
nth next from (suc k) = next (nth next from k)

-- and the number that the file says it answers, by the index
abbrev pub answered : (ℕ → ℕ) → (ℕ → ℕ) → ℕ → ℕ → ℕ
answered number next from k = number (nth next from k)

-- ---- drawings
-- the numbers that stand behind a label
unfoldable pub numbers_at : List ℕ → ℕ → Numbers
numbers_at s at = record {
  number = word_at s (onward at 58);
  index = word_at s (onward at 62);
  records = word_at s (onward at 66);
  cells = word_at s (onward at 70);
  cut = word_at s (onward at 74);
}

-- what every word is after a call: zero after 0 and 13, and else as it was
abbrev pub word_after : ℕ → ℕ
word_after number = if (number == 0) || (number == 13) then 0 else OLD_WORD

-- these bytes stand in the file from an index on
abbrev pub SameBytes : List ℕ → ℕ → List ℕ → Type 0
SameBytes s from bytes = EachIndex bytes (λ k. slice_index bytes k ≡ slice_index s (onward from k))

-- a mask is the one behind the numbers: byte by byte where the file has the whole, and else by its checksum
abbrev pub MaskAgrees : List ℕ → ℕ → List ℕ → Type 0
MaskAgrees s at mask =
    MatchBool (slice_index s (onward at 82) == 1) (SameBytes s (onward at 83) mask)
    (fnv1a mask ≡ wide_at s (onward at 83))

-- what a call leaves is what the file has behind a list
pub record Agrees (s : List ℕ) (at : ℕ) (o : Outcome) : Type 0 where
  pub numbers : o.answer ≡ numbers_at s at
  pub words : All (λ w. w ≡ word_after o.answer.number) o.words
  pub mask : MaskAgrees s at o.mask

-- the drawing at an index stands in the file, is lent no more than so many bytes and words, and drawn by the rules it leaves what the file has
pub record DrawingAgrees (s : List ℕ) (at bytes words : ℕ) : Type 0 where
  pub ordered : onward at 4 ≤ list_end s at
  pub within : list_end s at ≤ length s
  pub bytes_lent : word_at s (onward (list_end s at) 78) ≤ bytes
  pub words_lent : word_at s (onward (list_end s at) 54) ≤ words
  pub drawn :
      Agrees s (list_end s at)
      (draw (label_at s (list_end s at)) (slice_range s (onward at 4) (list_end s at))
      (replicate (word_at s (onward (list_end s at) 78)) OLD_BYTE)
      (replicate (word_at s (onward (list_end s at) 54)) OLD_WORD))

-- where the next drawing stands
abbrev pub after_drawing : List ℕ → ℕ → ℕ
after_drawing s at =
    let end = list_end s at in
    if slice_index s (onward end 82) == 1 then onward (onward end 83) (word_at s (onward end 78)) else onward end 91

-- where the drawing of a number stands, counted from 0, of those from an index on
abbrev pub nth_drawing : List ℕ → ℕ → ℕ → ℕ
nth_drawing s from k = nth (after_drawing s) from k

-- and the number that it answered
abbrev pub drawing_number : List ℕ → ℕ → ℕ → ℕ
drawing_number s from k = word_at s (onward (list_end s (nth_drawing s from k)) 58)

abbrev pub EachDrawingAgrees : List ℕ → ℕ → ℕ → ℕ → ℕ → Type 0
EachDrawingAgrees s from count bytes words =
    (k : ℕ) → k < count → DrawingAgrees s (nth_drawing s from k) bytes words

-- ---- placements
-- the signed number of these 32 bits, where they are those of one from -2 ^ 24 up to 2 ^ 30 - 2 ^ 24
abbrev pub SignedAgrees : ℤ → ℕ → Type 0
SignedAgrees x bits =
    let above = onward bits (2 ^ 24) % 2 ^ 32 in
    (above ≤ 2 ^ 30) × (x +ℤ pos (2 ^ 24) ≡ pos above)

-- what a placement answers is what the file has at an index
pub record PlaceAgrees (s : List ℕ) (at : ℕ) (n : PlaceNumbers) : Type 0 where
  pub number : n.number ≡ word_at s at
  pub index : n.index ≡ word_at s (onward at 4)
  pub offset_x : bits_of n.offset_x ≡ word_at s (onward at 8)
  pub offset_y : bits_of n.offset_y ≡ word_at s (onward at 12)
  pub left : SignedAgrees n.left (word_at s (onward at 16))
  pub top : SignedAgrees n.top (word_at s (onward at 20))
  pub width : n.width ≡ word_at s (onward at 24)
  pub height : n.height ≡ word_at s (onward at 28)
  pub cut : n.cut ≡ word_at s (onward at 32)

-- the placement at an index stands in the file, and placed by the rules it answers what the file has
pub record PlacementAgrees (s : List ℕ) (at : ℕ) : Type 0 where
  pub ordered : onward at 4 ≤ list_end s at
  pub within : list_end s at ≤ length s
  pub placed :
      PlaceAgrees s (onward (list_end s at) 33)
      (placement (origin_of (slice_index s (onward (list_end s at) 32))) (transform_at s (list_end s at))
      (point_at s (onward (list_end s at) 24))
      (slice_range s (onward at 4) (list_end s at)))

-- where the next placement stands
abbrev pub after_placement : List ℕ → ℕ → ℕ
after_placement s at = onward (list_end s at) 69

-- where the placement of a number stands, counted from 0, of those from an index on
abbrev pub nth_placement : List ℕ → ℕ → ℕ → ℕ
nth_placement s from k = nth (after_placement s) from k

-- and the number that it answered
abbrev pub placement_number : List ℕ → ℕ → ℕ → ℕ
placement_number s from k = word_at s (onward (list_end s (nth_placement s from k)) 33)

abbrev pub EachPlacementAgrees : List ℕ → ℕ → ℕ → Type 0
EachPlacementAgrees s from count = (k : ℕ) → k < count → PlacementAgrees s (nth_placement s from k)
