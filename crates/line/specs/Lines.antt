-- docs/RULES.md, "Lines, curves, cells": the marks of a whole line.
use Rattle.std.specs.Prelude.{ℕ, ◌+◌, Bool, cond, ◌&&◌, ◌||◌, List, [], ◌∷◌, ◌++◌, leb, ltb, eqb}
use Rattle.fixed.specs.declared.FixedPoint.{FixedPoint}
use Rattle.fixed.specs.Fixed.{cell, apart}
use Rattle.pen.specs.declared.Frame.{Frame}
use Rattle.pen.specs.Marks.{Mark, enter}
use Rattle.line.specs.declared.Ends.{Ends}
use Rattle.line.specs.Walk.{start, last, upright, row_side, p, crossed}

abbrev pub ends : FixedPoint → FixedPoint → Ends
ends a b = record { x1 = a.x; y1 = a.y; x2 = b.x; y2 = b.y }

-- how many sides a line crosses: |Δcolumn| + |Δrow|
abbrev pub sides : Ends → ℕ
sides l = apart (cell l.x2) (cell l.x1) + apart (cell l.y2) (cell l.y1)

abbrev pub within : Ends → Bool
within l = eqb (cell l.x1) (cell l.x2) && eqb (cell l.y1) (cell l.y2)

-- A line that stays in its cell gives it a pair. A level one, dy = 0, enters the cell of its end and gives nothing.
-- Any other is followed through the sides of its cells, a vertical one row by row, a slanted one by the number p.
unfoldable pub marks_of : Ends → List Mark
unfolding upright crossed
marks_of l =
    cond (within l) (last l (start l))
    (cond (eqb l.y1 l.y2) (enter (cell l.x2) (cell l.y2) ∷ [])
    (cond (eqb l.x1 l.x2) (upright (sides l) (row_side l) l (start l))
    (crossed (sides l) l (p l (start l)) (start l))))

-- a line's marks, whatever the band
abbrev pub line_all : FixedPoint → FixedPoint → List Mark
line_all a b = marks_of (ends a b)

-- a row at or past `end`, and one before `first`
abbrev pub past : Frame → ℕ → Bool
past f y = leb f.end (cell y)

abbrev pub ahead : Frame → ℕ → Bool
ahead f y = ltb (cell y) f.first

-- a line whose end rows are both past the band, or both before it, makes no marks; the pen point still moves
abbrev pub skips : Frame → Ends → Bool
skips f l = past f l.y1 && past f l.y2 || ahead f l.y1 && ahead f l.y2

unfoldable pub marks_in : Frame → Ends → List Mark
unfolding marks_of
marks_in f l = cond (skips f l) [] (marks_of l)

unfoldable pub line_marks : Frame → FixedPoint → FixedPoint → List Mark
unfolding marks_in
line_marks f a b = marks_in f (ends a b)

-- lines from a to each point in turn
unfoldable pub along : Frame → FixedPoint → List FixedPoint → List Mark
unfolding line_marks
along f a [] = []
along f a (b ∷ bs) = line_marks f a b ++ along f b bs
