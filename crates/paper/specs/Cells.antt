-- docs/RULES.md, "Lines, curves, cells": cells. What a drawing stores, in order.
use Rattle.std.specs.Prelude.{ℕ, ◌+◌ as ◌+ℕ◌, Bool, false, cond, ◌&&◌, ◌||◌, ℤ, pos}
use mathlib.Core.List.{List, [], ◌∷◌, ◌++◌, flatten}
use Rattle.geometry.specs.declared.Point.{Point}
use Rattle.command.specs.declared.Command.{Command}
use Rattle.command.specs.declared.Command.TheVariants.{MoveTo, LineTo, QuadTo, CurveTo, Close}
use Rattle.label.specs.declared.Label.{Label}
use Rattle.paper.specs.Numbers.{−1, +0, ◌+ᶻ◌, ◌<ᶻ◌, ◌≤ᶻ◌, ◌==ᶻ◌, wrapped}
use Rattle.paper.specs.Floats.{moved, shifted, fixed_of, Spot, cell}
use Rattle.paper.specs.Lines.{Mark, enter, give, line}
use Rattle.paper.specs.Curves.{quad, cubic}

unfoldable pub spot_in : Label → Point → Spot  -- a point of the list in 24.8 numbers
spot_in l p = let q = shifted l.offset (moved l.transform p) in record { x = fixed_of q.x; y = fixed_of q.y }

-- what the pen does for each record in turn, and last for the end: from point a on, in a subpath begun at s. MoveTo,
-- Close and the end draw a line back to s. Close leaves the pen at s, so that the next of them gives nothing. A MoveTo
-- enters its cell even where the pen is in it
unfoldable pub marks_by : Label → Spot → Spot → List Command → List (List Mark)
marks_by l a s [] = line l a s ∷ []
marks_by l a s (MoveTo p ∷ cs) =
    let b = spot_in l p in
    (line l a s ++ enter (cell b.x) (cell b.y) ∷ []) ∷ marks_by l b b cs
marks_by l a s (LineTo p ∷ cs) = line l a (spot_in l p) ∷ marks_by l (spot_in l p) s cs
marks_by l a s (QuadTo c p ∷ cs) = quad l a (spot_in l c) (spot_in l p) ∷ marks_by l (spot_in l p) s cs
marks_by l a s (CurveTo c d p ∷ cs) =
    cubic l a (spot_in l c) (spot_in l d) (spot_in l p) ∷ marks_by l (spot_in l p) s cs
marks_by l a s (Close ∷ cs) = line l a s ∷ marks_by l s s cs

abbrev pub marks : Label → Spot → Spot → List Command → List Mark  -- all of them, one behind the other
marks l a s cs = flatten (marks_by l a s cs)

pub record Pair : Type 0 where  -- a cell, and what the pen has given it
  pub column : ℤ
  pub row : ℤ
  pub cover : ℤ
  pub area : ℤ

abbrev pub pair_at : ℤ → ℤ → ℤ → ℤ → Pair
pair_at column row cover area = record { column = column; row = row; cover = cover; area = area }

pub data Pen : Type 0 where  -- where the pen is: in no cell yet, or in one
  lifted : Pen
  within : Pair → Pen

abbrev pub given : Pen → ℤ → ℤ → Pen  -- what is given is added up, in 32 bits with a sign
given lifted v a = lifted
given (within d) v a = within (pair_at d.column d.row (wrapped (d.cover +ᶻ v)) (wrapped (d.area +ᶻ a)))

abbrev pub inside : Label → Pair → Bool  -- left of the right edge, and in a row of the band
inside l d = d.column <ᶻ pos l.width && pos l.first ≤ᶻ d.row && d.row <ᶻ pos l.end

abbrev pub counted : Pair → Pair  -- all cells to the left of column −1 count as column −1
counted d = pair_at (cond (d.column <ᶻ −1) −1 d.column) d.row d.cover d.area

abbrev pub keep : Label → Pair → List Pair → List Pair  -- only what is inside is stored
keep l d ds = cond (inside l d) (counted d ∷ ds) ds

abbrev pub leave : Label → Pen → List Pair → List Pair  -- a cell that is left is stored, unless cover and area are 0
leave l lifted ds = ds
leave l (within d) ds = cond (d.cover ==ᶻ +0 && d.area ==ᶻ +0) ds (keep l d ds)

abbrev pub finish : Label → Pen → List Pair  -- the last cell is stored even then
finish l lifted = []
finish l (within d) = keep l d []

unfoldable pub trail : Label → Pen → List Mark → List Pair  -- what is stored while the pen makes these marks
trail l pen [] = []
trail l pen (enter c r ∷ ms) = leave l pen (trail l (within (pair_at c r +0 +0)) ms)
trail l pen (give v a ∷ ms) = trail l (given pen v a) ms

unfoldable pub pen_after : Pen → List Mark → Pen  -- where they leave the pen
pen_after pen [] = pen
pen_after pen (enter c r ∷ ms) = pen_after (within (pair_at c r +0 +0)) ms
pen_after pen (give v a ∷ ms) = pen_after (given pen v a) ms

unfoldable pub stored : Label → Pen → List Mark → List Pair  -- and the last cell behind that
stored l pen ms = trail l pen ms ++ finish l (pen_after pen ms)

abbrev pub corner : Spot  -- the pen's point before the first command
corner = record { x = +0; y = +0 }

unfoldable pub cells_of : Label → List Command → List Pair  -- what a path stores
cells_of l cs = stored l lifted (marks l corner corner cs)

-- a list for each list of marks, the pen going on from one to the next; with the last one the last cell
unfoldable pub stored_by : Label → Pen → List (List Mark) → List (List Pair)
stored_by l pen [] = []
stored_by l pen (ms ∷ []) = stored l pen ms ∷ []
stored_by l pen (ms ∷ next ∷ rest) = trail l pen ms ∷ stored_by l (pen_after pen ms) (next ∷ rest)

-- what each record of a path stores: that is the one that leaves a cell, and not the one that gave it ink. The last list
-- is the end's, by closing and by the last cell
unfoldable pub cells_by : Label → List Command → List (List Pair)
cells_by l cs = stored_by l lifted (marks_by l corner corner cs)

unfoldable pub known : List Pair → Pair → Bool  -- a place is a column and a row
known [] d = false
known (e ∷ es) d = (d.column ==ᶻ e.column && d.row ==ᶻ e.row) || known es d

unfoldable pub distinct : List Pair → ℕ  -- how many places were stored into
distinct [] = 0
distinct (d ∷ ds) = distinct ds +ℕ cond (known ds d) 0 1
