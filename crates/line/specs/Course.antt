-- What holds on while a line is followed from cell to cell: for the contracts of the inner functions, and for the proofs.
use Rattle.std.specs.Prelude.{ℕ, ◌+◌, ◌*◌, ◌-◌, ◌/◌, ◌^◌, ◌<◌, ◌≤◌, ◌≡◌, Bool, true, false, List, ◌∷◌, ℤ}
use Rattle.float.specs.Differences.{◌⊖◌}
use Rattle.fixed.specs.Fixed.{cell, apart}
use Rattle.pen.specs.Marks.{Mark, enter}
use Rattle.line.specs.declared.Ends.{Ends}
use Rattle.line.specs.declared.At.{At}
use Rattle.line.specs.declared.Rates.{Rates}
use Rattle.line.specs.declared.Turn.{Turn}
use Rattle.line.specs.Walk.{pair, over, way, cut, gone}

-- p is held as p + 2^40
abbrev pub B : ℕ
B = 2 ^ 40

-- the numbers of a line, and p + 2^40, as large as they can be
pub record Bounded (l : Ends) : Type 0 where
  pub bx1 : l.x1 < 2 ^ 22
  pub by1 : l.y1 < 2 ^ 22
  pub bx2 : l.x2 < 2 ^ 22
  pub by2 : l.y2 < 2 ^ 22

pub record Near (P : ℕ) : Type 0 where
  pub above : 2 ^ 39 < P
  pub below : P < 2 ^ 41

pub record Slanted (l : Ends) : Type 0 where
  pub wide : l.x1 ≡ l.x2 → ⊥
  pub high : l.y1 ≡ l.y2 → ⊥

-- a point of its cell, borders included
pub record InCell (a : At) : Type 0 where
  pub inx : a.fx ≤ 256
  pub iny : a.fy ≤ 256

-- how many rows, and how many cells, are still to be crossed
abbrev pub rows_to : Ends → ℕ → ℕ
rows_to l r = apart (cell l.y2) r

abbrev pub togo : Ends → ℕ → ℕ → ℕ
togo l c r = apart (cell l.x2) c + rows_to l r

-- ---- vertical lines

-- where a vertical line can be on its way to the end's row
abbrev pub Level : Ends → Bool → ℕ → Type 0
Level l true r = r ≤ cell l.y2
Level l false r = cell l.y2 ≤ r

-- there is a row to step to
pub record Aside (a : At) (next : Bool) : Type 0 where
  pub few : a.row < 2 ^ 14
  pub some : next ≡ false → 0 < a.row

abbrev pub beside : At → Bool → At
beside a true = record { col = a.col; row = a.row + 1; fx = a.fx; fy = 0 }
beside a false = record { col = a.col; row = a.row - 1; fx = a.fx; fy = 256 }

-- ---- slanted lines

-- along one axis, from z1 to z2, at cell c: a is the way from z1 to z2, u that from the cell's side behind the line to z2
pub record Fwd (z1 z2 c a u : ℕ) : Type 0 where
  pub some : 0 < a
  pub size : z1 + a ≡ z2
  pub rest : 256 * c + u ≡ z2
  pub box : z1 < 256 * c + 256

pub record Bwd (z1 z2 c a u : ℕ) : Type 0 where
  pub some : 0 < a
  pub size : z2 + a ≡ z1
  pub rest : z2 + u ≡ 256 * c + 256
  pub more : 0 < u
  pub box : 256 * c ≤ z1

-- what holds on in cell (c, r) at p = P − B, for each pair of directions: the signs of p at two corners, and that the end lies on the line
pub record NE (l : Ends) (c r P : ℕ) : Type 0 where
  pub a : ℕ
  pub b : ℕ
  pub u : ℕ
  pub v : ℕ
  pub hx : Fwd l.x1 l.x2 c a u
  pub hy : Fwd l.y1 l.y2 r b v
  pub low : P ≤ B + 256 * a
  pub high : B ≤ P + 256 * b
  pub exact : P + b * u ≡ B + a * v

pub record NW (l : Ends) (c r P : ℕ) : Type 0 where
  pub a : ℕ
  pub b : ℕ
  pub u : ℕ
  pub v : ℕ
  pub hx : Bwd l.x1 l.x2 c a u
  pub hy : Fwd l.y1 l.y2 r b v
  pub low : P ≤ B
  pub high : B < P + 256 * a + 256 * b
  pub exact : P + 256 * b + a * v ≡ B + b * u

pub record SE (l : Ends) (c r P : ℕ) : Type 0 where
  pub a : ℕ
  pub b : ℕ
  pub u : ℕ
  pub v : ℕ
  pub hx : Fwd l.x1 l.x2 c a u
  pub hy : Bwd l.y1 l.y2 r b v
  pub low : P ≤ B + 256 * a + 256 * b
  pub high : B ≤ P
  pub exact : P + a * v ≡ B + 256 * a + b * u

pub record SW (l : Ends) (c r P : ℕ) : Type 0 where
  pub a : ℕ
  pub b : ℕ
  pub u : ℕ
  pub v : ℕ
  pub hx : Bwd l.x1 l.x2 c a u
  pub hy : Bwd l.y1 l.y2 r b v
  pub low : P ≤ B + 256 * b
  pub high : B < P + 256 * a
  pub exact : P + 256 * a + b * u ≡ B + 256 * b + a * v

pub data Course (l : Ends) (c r P : ℕ) : Type 0 where
  ne : NE l c r P → Course l c r P
  nw : NW l c r P → Course l c r P
  se : SE l c r P → Course l c r P
  sw : SW l c r P → Course l c r P

-- the rates of a line
pub record Rated (l : Ends) (k : Rates) : Type 0 where
  pub small : Bounded l
  pub kx : k.x ≡ 16777215 / apart l.x2 l.x1
  pub ky : k.y ≡ 16777215 / apart l.y2 l.y1

-- a line on its course
pub record Under (l : Ends) (P : ℕ) (a : At) : Type 0 where
  pub course : Course l a.col a.row P
  pub close : Near P
  pub fewx : a.col < 2 ^ 14
  pub fewy : a.row < 2 ^ 14
  pub point : InCell a

-- one side is crossed, as the rules have it, at most 255 along it, and the line is a cell nearer to its end
pub record Stepped (l : Ends) (P : ℕ) (a : At) (r : Turn) : Type 0 where
  pub made : (go : ℤ → At → List Mark) →
      over (way l (P ⊖ B)) (cut l (way l (P ⊖ B)) (P ⊖ B)) a (go (gone l (way l (P ⊖ B)) (P ⊖ B)))
      ≡ pair a r.fx r.fy ∷ enter r.to.col r.to.row ∷ go (r.p ⊖ B) r.to
  pub went : gone l (way l (P ⊖ B)) (P ⊖ B) ≡ r.p ⊖ B
  pub most : cut l (way l (P ⊖ B)) (P ⊖ B) ≤ 255
  pub smallx : r.fx ≤ 256
  pub smally : r.fy ≤ 256
  pub under : Under l r.p r.to
  pub nearer : togo l a.col a.row ≡ togo l r.to.col r.to.row + 1
