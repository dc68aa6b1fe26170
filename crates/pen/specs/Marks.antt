-- docs/RULES.md, "Lines, curves, cells": what the pen does, and which pairs it leaves in which places.
-- A cell z, column or row, is held as z + 8192.
use Rattle.std.specs.Prelude.{ℕ, ◌+◌, ◌-◌, ◌%◌, ◌^◌, max, Bool, true, false, not, ◌&&◌, List, [], ◌∷◌, ◌++◌, ◌==◌, nat_le, nat_lt}
use Rattle.storage.specs.Deposits.{Deposit, given}
use Rattle.pen.specs.declared.Frame.{Frame}

-- what the pen does: it enters a cell, column and row, or gives the cell that it is in a pair of cover and area
pub data Mark : Type 0 where
  enter : ℕ → ℕ → Mark
  give : ℕ → ℕ → Mark

-- where the pen stands: in no cell yet, or in a cell, column and row, with the cover and the area that it has there
pub data Stand : Type 0 where
  nowhere : Stand
  at : ℕ → ℕ → ℕ → ℕ → Stand

-- the pair is added to what it has in its cell. Sums wrap at 32 bits
abbrev pub gave : Stand → ℕ → ℕ → Stand
gave nowhere v a = nowhere
gave (at c r v a) v' a' = at c r ((v + v') % 2 ^ 32) ((a + a') % 2 ^ 32)

-- where it stands after the marks
unfoldable pub after : Stand → List Mark → Stand
after s [] = s
after s (enter c r ∷ ms) = after (at c r 0 0) ms
after s (give v a ∷ ms) = after (gave s v a) ms

-- a cell's pair
pub record Pair : Type 0 where
  pub col : ℕ
  pub row : ℕ
  pub cover : ℕ
  pub area : ℕ

abbrev pub pair_of : ℕ → ℕ → ℕ → ℕ → Pair
pair_of c r v a = record { col = c; row = r; cover = v; area = a }

abbrev pub when {ℓ} : {A : Type ℓ} → Bool → A → List A → List A
when true d ds = d ∷ ds
when false d ds = ds

-- a cell's pair is stored when the pen leaves it, unless both parts are zero
abbrev pub leaving : Stand → List Pair
leaving nowhere = []
leaving (at c r v a) = when (not (v == 0 && a == 0)) (pair_of c r v a) []

unfoldable pub left : Stand → List Mark → List Pair
left s [] = []
left s (enter c r ∷ ms) = leaving s ++ left (at c r 0 0) ms
left s (give v a ∷ ms) = left (gave s v a) ms

-- the last cell's is stored also where both are zero
abbrev pub last_of : Stand → List Pair
last_of nowhere = []
last_of (at c r v a) = pair_of c r v a ∷ []

-- nothing is stored for columns at or right of the width, nor for rows outside the band
abbrev pub inside : Frame → Pair → Bool
inside f d = nat_lt d.col f.wide && nat_le f.first d.row && nat_lt d.row f.end

-- what lies further left than column −1 goes to column −1, the first place of the row
abbrev pub placed : Frame → Pair → Deposit
placed f d = given (d.row - f.first) (max d.col 8191 - 8191) d.cover d.area

-- what of the pairs a drawing stores
unfoldable pub seen : Frame → List Pair → List Deposit
seen f [] = []
seen f (d ∷ ds) = when (inside f d) (placed f d) (seen f ds)

-- what a pen that stands so and makes these marks leaves, its last cell too
abbrev pub whole : Stand → List Mark → List Pair
whole s ms = left s ms ++ last_of (after s ms)

-- what a drawing of these marks stores, in order
unfoldable pub deposits : Frame → List Mark → List Deposit
unfolding after left seen
deposits f ms = seen f (whole nowhere ms)
