-- Worked values of the rules, by computation. A cell z is held as z + 8192.
use Rattle.std.specs.Prelude.{◌≡◌, ℕ, ◌+◌, List, [], ◌∷◌, refl}
use Rattle.storage.specs.Deposits.{given}
use Rattle.pen.specs.declared.Frame.{Frame}
use Rattle.pen.specs.Marks.{Mark, enter, give, deposits}

-- four columns, rows first to end
abbrev frame : ℕ → ℕ → Frame
frame first end = record { wide = 8192 + 4; first = 8192 + first; end = 8192 + end }

-- K6, the rectangle x −5 to 2, y 0 to 1 on 4×1: its right side in column 2, its left side in column −5
k6_marks : List Mark
k6_marks =
    enter 8187 8192
    ∷ enter 8194 8192 ∷ give 256 0
    ∷ enter 8194 8193 ∷ give 0 0
    ∷ enter 8187 8193 ∷ give 0 0
    ∷ enter 8187 8192 ∷ give 4294967040 0
    ∷ []

-- 256 at column 2, which is the row's place 3, and −256 at column −1, its place 0
k6 : deposits (frame 0 1) k6_marks ≡ given 0 3 256 0 ∷ given 0 0 4294967040 0 ∷ []
unfolding k6_marks deposits
k6 = refl

-- a band from row 1 to row 3: row 0 stores nothing, and rows 1 and 2 are its rows 0 and 1
band :
    deposits (frame 1 3) (enter 8192 8192 ∷ give 1 2 ∷ enter 8192 8193 ∷ give 3 4 ∷ enter 8192 8194 ∷ give 5 6 ∷ [])
    ≡ given 0 1 3 4 ∷ given 1 1 5 6 ∷ []
unfolding deposits
band = refl

-- columns from 4 on store nothing, and columns −2, −1 and 0 are places 0, 0 and 1
columns :
    deposits (frame 0 1)
    (enter 8196 8192 ∷ give 1 2 ∷ enter 8190 8192 ∷ give 3 4
    ∷ enter 8191 8192 ∷ give 5 6 ∷ enter 8192 8192 ∷ give 7 8 ∷ [])
    ≡ given 0 0 3 4 ∷ given 0 0 5 6 ∷ given 0 1 7 8 ∷ []
unfolding deposits
columns = refl

-- two pairs in one cell are one, their sums wrapped; a pair of zeros is stored for the last cell alone
sums :
    deposits (frame 0 1)
    (enter 8192 8192 ∷ give 256 4294967295 ∷ give 4294967295 3 ∷ enter 8193 8192 ∷ enter 8194 8192 ∷ [])
    ≡ given 0 1 255 2 ∷ given 0 3 0 0 ∷ []
unfolding deposits
sums = refl
