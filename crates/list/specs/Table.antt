-- docs/RULES.md, "The path list": records by computation. Each kind, the end, each refusal, and their order.
use Rattle.std.specs.Prelude.{ℕ, ◌≡◌, refl, List, [], ◌∷◌, ◌++◌, map, None, Ok, Err}
use Rattle.geometry.specs.Bits.{at}
use Rattle.command.specs.declared.Command.TheVariants.{MoveTo, LineTo, QuadTo, CurveTo, Close}
use Rattle.list.specs.declared.Reason.TheVariants.{Cut, Kind, Length}
use Rattle.list.specs.Records.{Step, found, step_at, number_of}
use Rattle.list.specs.Written.{close}

-- ---- coordinates: 1, 2, 3, −4, 0.5 and −0 as their four bytes
abbrev b1 : List ℕ
b1 = 0x00 ∷ 0x00 ∷ 0x80 ∷ 0x3F ∷ []

abbrev b2 : List ℕ
b2 = 0x00 ∷ 0x00 ∷ 0x00 ∷ 0x40 ∷ []

abbrev b3 : List ℕ
b3 = 0x00 ∷ 0x00 ∷ 0x40 ∷ 0x40 ∷ []

abbrev b_4 : List ℕ
b_4 = 0x00 ∷ 0x00 ∷ 0x80 ∷ 0xC0 ∷ []

abbrev b0·5 : List ℕ
b0·5 = 0x00 ∷ 0x00 ∷ 0x00 ∷ 0x3F ∷ []

abbrev b_0 : List ℕ
b_0 = 0x00 ∷ 0x00 ∷ 0x00 ∷ 0x80 ∷ []

-- what stands at a list's start
abbrev first : List ℕ → Step
first s = step_at s 0

-- ---- each of the five kinds
abbrev move : List ℕ
move = 0x0A ∷ 0x00 ∷ 0x01 ∷ 0x00 ∷ 0x00 ∷ 0x00 ∷ 0x80 ∷ 0x3F ∷ 0x00 ∷ 0x00 ∷ 0x80 ∷ 0x3F ∷ []

-- MoveTo (1,1)
pub move_to : first move ≡ found (MoveTo (at 0x3f80_0000 0x3f80_0000)) 12
unfolding step_at
move_to = refl

-- LineTo (2,−0)
pub line_to : first (0x0A ∷ 0x00 ∷ 0x02 ∷ 0x00 ∷ b2 ++ b_0) ≡ found (LineTo (at 0x4000_0000 0x8000_0000)) 12
unfolding step_at
line_to = refl

-- QuadTo (1,2) (3,−4)
pub quad_to :
    first (0x12 ∷ 0x00 ∷ 0x03 ∷ 0x00 ∷ b1 ++ b2 ++ b3 ++ b_4)
    ≡ found (QuadTo (at 0x3f80_0000 0x4000_0000) (at 0x4040_0000 0xc080_0000)) 20
unfolding step_at
quad_to = refl

-- CurveTo (1,2) (3,−4) (0.5,1)
pub curve_to :
    first (0x1A ∷ 0x00 ∷ 0x04 ∷ 0x00 ∷ b1 ++ b2 ++ b3 ++ b_4 ++ b0·5 ++ b1)
    ≡ found (CurveTo (at 0x3f80_0000 0x4000_0000) (at 0x4040_0000 0xc080_0000) (at 0x3f00_0000 0x3f80_0000)) 28
unfolding step_at
curve_to = refl

pub closes : first close ≡ found Close 4
unfolding step_at
closes = refl

-- ---- from record to record: MoveTo (1,1), Close, the end
pub second : step_at (move ++ close) 12 ≡ found Close 16
unfolding step_at
second = refl

pub third : step_at (move ++ close) 16 ≡ Ok None
unfolding step_at
third = refl

pub empty : first [] ≡ Ok None
unfolding step_at
empty = refl

-- ---- refusals: 8
-- lists of one, two and three bytes
pub short :
    map first ((0x02 ∷ []) ∷ (0x02 ∷ 0x00 ∷ []) ∷ (0x02 ∷ 0x00 ∷ 0x05 ∷ []) ∷ [])
    ≡ Err Cut ∷ Err Cut ∷ Err Cut ∷ []
unfolding step_at
short = refl

-- 3 bytes left behind a record
pub stray : step_at (move ++ 0x02 ∷ 0x00 ∷ 0x05 ∷ []) 12 ≡ Err Cut
unfolding step_at
stray = refl

-- a header alone, and a body with one byte too few
pub bare : first (0x0A ∷ 0x00 ∷ 0x02 ∷ 0x00 ∷ []) ≡ Err Cut
unfolding step_at
bare = refl

pub one_missing : first (0x0A ∷ 0x00 ∷ 0x02 ∷ 0x00 ∷ b1 ++ 0x00 ∷ 0x00 ∷ 0x80 ∷ []) ≡ Err Cut
unfolding step_at
one_missing = refl

-- ---- 9: the kinds 0, 6 and 256
pub kinds :
    map first ((0x02 ∷ 0x00 ∷ 0x00 ∷ 0x00 ∷ []) ∷ (0x02 ∷ 0x00 ∷ 0x06 ∷ 0x00 ∷ []) ∷ (0x02 ∷ 0x00 ∷ 0x00 ∷ 0x01 ∷ []) ∷ [])
    ≡ Err Kind ∷ Err Kind ∷ Err Kind ∷ []
unfolding step_at
kinds = refl

-- ---- 10: a Close of length 3, and of length 258
pub lengths :
    map first ((0x03 ∷ 0x00 ∷ 0x05 ∷ 0x00 ∷ []) ∷ (0x02 ∷ 0x01 ∷ 0x05 ∷ 0x00 ∷ []) ∷ [])
    ≡ Err Length ∷ Err Length ∷ []
unfolding step_at
lengths = refl

-- ---- the order: header cut, 9, 10, body cut
-- kind 9 with another length and a cut body is 9
pub kind_first : first (0x0A ∷ 0x00 ∷ 0x09 ∷ 0x00 ∷ []) ≡ Err Kind
unfolding step_at
kind_first = refl

-- a LineTo of length 18 with a cut body is 10
pub length_first : first (0x12 ∷ 0x00 ∷ 0x02 ∷ 0x00 ∷ b1) ≡ Err Length
unfolding step_at
length_first = refl

-- a header of 3 bytes is cut, whatever its kind
pub header_first : first (0x02 ∷ 0x00 ∷ 0x09 ∷ []) ≡ Err Cut
unfolding step_at
header_first = refl

pub numbers : map number_of (Cut ∷ Kind ∷ Length ∷ []) ≡ 8 ∷ 9 ∷ 10 ∷ []
numbers = refl
