-- docs/RULES.md, "Lines, curves, cells": lines. Columns, rows and 24.8 numbers are whole numbers with a sign.
use Rattle.std.specs.Prelude.{ℕ, zero, suc, ◌^◌, ◌*◌ as ◌*ℕ◌, ◌+◌ as ◌+ℕ◌, ◌/◌ as ◌/ℕ◌, Bool, cond, ◌&&◌, ◌||◌, List, [], ◌∷◌, ℤ, pos, nat_abs}
use Rattle.label.specs.declared.Label.{Label}
use Rattle.paper.specs.Numbers.{+0, +1, +256, ◌+ᶻ◌, ◌-ᶻ◌, ◌*ᶻ◌, ◌·◌, ◌<ᶻ◌, ◌≤ᶻ◌, ◌==ᶻ◌}
use Rattle.paper.specs.Floats.{Spot, cell, fraction}

-- what the pen does: it enters a cell (column, row), or gives the cell that it is in a pair (cover, area)
pub data Mark : Type 0 where
  enter : ℤ → ℤ → Mark
  give : ℤ → ℤ → Mark

pub record At : Type 0 where  -- a point of a line: its cell, and its fractions there, from 0 to 256
  pub column : ℤ
  pub row : ℤ
  pub fx : ℤ
  pub fy : ℤ

abbrev pub at : Spot → At
at a = record { column = cell a.x; row = cell a.y; fx = fraction a.x; fy = fraction a.y }

abbrev pub pair : At → ℤ → ℤ → Mark  -- of a stretch in one cell: its height, and that times the sum of its two fx
pair a fx2 fy2 = give (fy2 -ᶻ a.fy) ((fy2 -ᶻ a.fy) *ᶻ (a.fx +ᶻ fx2))

abbrev pub pair_to : Spot → At → List Mark  -- the last stretch, to the line's end b
pair_to b a = pair a (fraction b.x) (fraction b.y) ∷ []

-- the pair of the cell that is left, the cell entered, and what follows from there
abbrev pub into : Mark → ℤ → ℤ → ℤ → ℤ → (At → List Mark) → List Mark
into given column row fx fy go = given ∷ enter column row ∷ go (record { column = column; row = row; fx = fx; fy = fy })

pub data Side : Type 0 where
  left next right previous : Side

-- over one side of the cell at a, z along that side
abbrev pub over : Side → ℤ → At → (At → List Mark) → List Mark
over left z a go = into (pair a +0 z) (a.column -ᶻ +1) a.row +256 z go
over next z a go = into (pair a z +256) a.column (a.row +ᶻ +1) z +0 go
over right z a go = into (pair a +256 z) (a.column +ᶻ +1) a.row +0 z go
over previous z a go = into (pair a z +0) a.column (a.row -ᶻ +1) z +256 go

unfoldable pub upright : ℕ → Side → Spot → At → List Mark  -- a vertical line goes over n rows
upright zero w b a = pair_to b a
upright (suc n) w b a = over w a.fx a (upright n w b)

-- where a line crosses a side: a / d in 256ths, by a reciprocal of d that is cut to a whole number first
abbrev pub crossing : ℤ → ℤ → ℤ
crossing a d = pos (nat_abs a *ℕ (16777215 /ℕ nat_abs d) /ℕ 2 ^ 24)

-- a slanted line goes over n sides. p, q, s and t tell of each corner of the cell on which side of the line it lies,
-- and the line goes out where the sign changes. The first of the four tests that holds decides
unfoldable pub walk : ℕ → ℤ → ℤ → Spot → ℤ → At → List Mark
walk zero dx dy b p a = pair_to b a
walk (suc n) dx dy b p a =
    let q = p -ᶻ 256 · dx in
    let s = q +ᶻ 256 · dy in
    let t = p +ᶻ 256 · dy in
    cond (p ≤ᶻ +0 && +0 <ᶻ q) (over left (crossing p dx) a (walk n dx dy b (p -ᶻ 256 · dy)))
    (cond (q ≤ᶻ +0 && +0 <ᶻ s) (over next (crossing q dy) a (walk n dx dy b (p -ᶻ 256 · dx)))
    (cond (s ≤ᶻ +0 && +0 ≤ᶻ t) (over right (crossing t dx) a (walk n dx dy b (p +ᶻ 256 · dy)))
    (over previous (crossing p dy) a (walk n dx dy b (p +ᶻ 256 · dx)))))

-- a line from a to b: within one cell; level, when it only enters its last cell; vertical; or slanted. It goes over as
-- many sides as its ends are columns and rows apart
unfoldable pub whole : Spot → Spot → List Mark
whole a b =
    let dx = b.x -ᶻ a.x in
    let dy = b.y -ᶻ a.y in
    let n = nat_abs (cell b.x -ᶻ cell a.x) +ℕ nat_abs (cell b.y -ᶻ cell a.y) in
    cond (cell a.x ==ᶻ cell b.x && cell a.y ==ᶻ cell b.y) (pair_to b (at a))
    (cond (a.y ==ᶻ b.y) (enter (cell b.x) (cell b.y) ∷ [])
    (cond (a.x ==ᶻ b.x) (upright n (cond (a.y <ᶻ b.y) next previous) b (at a))
    (walk n dx dy b (dx *ᶻ fraction a.y -ᶻ dy *ᶻ fraction a.x) (at a))))

abbrev pub past : Label → Spot → Bool  -- in a row behind the band's last
past l a = pos l.end ≤ᶻ cell a.y

abbrev pub ahead : Label → Spot → Bool  -- in a row before its first
ahead l a = cell a.y <ᶻ pos l.first

-- a line with both ends past the band, or both ahead of it, makes no mark
unfoldable pub line : Label → Spot → Spot → List Mark
line l a b = cond (past l a && past l b || ahead l a && ahead l b) [] (whole a b)
