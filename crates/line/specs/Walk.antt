-- docs/RULES.md, "Lines, curves, cells": a line is followed through the sides of its cells and leaves a pair in each.
-- A 24.8 number z is held as z + 2^21 and a cell z as z + 8192; p is an integer.
use Rattle.std.specs.Prelude.{ℕ, zero, suc, ◌+◌, ◌*◌, ◌-◌, ◌/◌, ◌%◌, ◌^◌, cond, ◌&&◌, List, [], ◌∷◌, ltb, ℤ, pos, negsuc, ◌+ℤ◌, ◌-ℤ◌, ◌*ℤ◌, nat_abs}
use Rattle.std.specs.Int.Signed.{le_z, lt_z}
use Rattle.float.specs.Differences.{◌⊖◌}
use Rattle.fixed.specs.Fixed.{cell, fraction}
use Rattle.pen.specs.Marks.{Mark, enter, give}
use Rattle.line.specs.declared.Ends.{Ends}
use Rattle.line.specs.declared.At.{At}
use Rattle.line.specs.declared.Side.{Side}
use Rattle.line.specs.declared.Side.TheVariants.{Left, Next, Right, Previous}

-- where a line begins: its cell, and the point in the cell
abbrev pub start : Ends → At
start l = record { col = cell l.x1; row = cell l.y1; fx = fraction l.x1; fy = fraction l.y1 }

-- a signed number as a 32-bit word
abbrev pub word : ℤ → ℕ
word (pos n) = n % 2 ^ 32
word (negsuc n) = 2 ^ 32 - 1 - n % 2 ^ 32

-- the pair of a line's part in one cell: the cover fy2 − fy1, the area (fy2 − fy1)·(fx1 + fx2)
abbrev pub cover : At → ℕ → ℕ
cover a fy2 = word (fy2 ⊖ a.fy)

abbrev pub area : At → ℕ → ℕ → ℕ
area a fx2 fy2 = word ((fy2 ⊖ a.fy) *ℤ pos (a.fx + fx2))

abbrev pub pair : At → ℕ → ℕ → Mark
pair a fx2 fy2 = give (cover a fy2) (area a fx2 fy2)

-- the last cell's pair, up to the end point
abbrev pub last : Ends → At → List Mark
last l a = pair a (fraction l.x2) (fraction l.y2) ∷ []

-- one side crossed, z along it: the cell's pair, the next cell, and what follows from there
abbrev pub over : Side → ℕ → At → (At → List Mark) → List Mark
over Left z a go = pair a 0 z ∷ enter (a.col - 1) a.row ∷ go (record { col = a.col - 1; row = a.row; fx = 256; fy = z })
over Next z a go = pair a z 256 ∷ enter a.col (a.row + 1) ∷ go (record { col = a.col; row = a.row + 1; fx = z; fy = 0 })
over Right z a go = pair a 256 z ∷ enter (a.col + 1) a.row ∷ go (record { col = a.col + 1; row = a.row; fx = 0; fy = z })
over Previous z a go = pair a z 0 ∷ enter a.col (a.row - 1) ∷ go (record { col = a.col; row = a.row - 1; fx = z; fy = 256 })

-- a vertical line: n rows on, by the next ones or by the previous ones
abbrev pub row_side : Ends → Side
row_side l = cond (ltb l.y1 l.y2) Next Previous

unfoldable pub upright : ℕ → Side → Ends → At → List Mark
unfolding ◌⊖◌
upright zero w l a = last l a
upright (suc n) w l a = over w a.fx a (upright n w l)

abbrev pub dx : Ends → ℤ
dx l = l.x2 ⊖ l.x1

abbrev pub dy : Ends → ℤ
dy l = l.y2 ⊖ l.y1

-- slanted lines: p = dx·fy − dy·fx at the start, and with it q = p − 256dx, s = q + 256dy, t = p + 256dy
abbrev pub p : Ends → At → ℤ
p l a = dx l *ℤ pos a.fy -ℤ dy l *ℤ pos a.fx

abbrev pub q : Ends → ℤ → ℤ
q l p = p -ℤ pos 256 *ℤ dx l

abbrev pub s : Ends → ℤ → ℤ
s l p = q l p +ℤ pos 256 *ℤ dy l

abbrev pub t : Ends → ℤ → ℤ
t l p = p +ℤ pos 256 *ℤ dy l

-- the side by which a slanted line leaves its cell: that of the first test that holds
unfoldable pub way : Ends → ℤ → Side
way l p =
    cond (le_z p (pos 0) && lt_z (pos 0) (q l p)) Left
    (cond (le_z (q l p) (pos 0) && lt_z (pos 0) (s l p)) Next
    (cond (le_z (s l p) (pos 0) && le_z (pos 0) (t l p)) Right
    Previous))

-- p in the next cell: exact, while crossings are cut
abbrev pub gone : Ends → Side → ℤ → ℤ
gone l Left p = p -ℤ pos 256 *ℤ dy l
gone l Next p = p -ℤ pos 256 *ℤ dx l
gone l Right p = p +ℤ pos 256 *ℤ dy l
gone l Previous p = p +ℤ pos 256 *ℤ dx l

-- how far along a side it is crossed: |a| times the rate 16,777,215 / |d|, over 2^24, each quotient cut
abbrev pub crossing : ℤ → ℤ → ℕ
crossing a d = nat_abs a * (16777215 / nat_abs d) / 2 ^ 24

-- the a of each side; d is dx for the sides between columns, dy for those between rows
abbrev pub cut : Ends → Side → ℤ → ℕ
cut l Left p = crossing p (dx l)
cut l Next p = crossing (q l p) (dy l)
cut l Right p = crossing (t l p) (dx l)
cut l Previous p = crossing p (dy l)

-- n sides crossed one at a time, and the last cell's pair
unfoldable pub crossed : ℕ → Ends → ℤ → At → List Mark
unfolding way ◌⊖◌
crossed zero l p a = last l a
crossed (suc n) l p a = over (way l p) (cut l (way l p) p) a (crossed n l (gone l (way l p) p))
