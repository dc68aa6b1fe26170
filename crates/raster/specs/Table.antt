-- Worked examples of whole paths, by computation: K4's triangle, a slanted line towards each of the four corners with an upright and a level
-- one back, a quad, a cubic, and two figures that cancel. The numbers are those of the Rust: `compare cells` prints
-- them from zeno's own storage.
use Rattle.std.specs.Prelude.{ℕ, ◌+◌, ◌≡◌, refl, List, [], ◌∷◌, map, eqb}
use Rattle.fixed.specs.declared.FixedPoint.{FixedPoint}
use Rattle.fixed.specs.Points.{point}
use Rattle.storage.specs.Deposits.{Deposit, cover_of, area_of, distinct, sum_of}
use Rattle.pen.specs.declared.Frame.{Frame}
use Rattle.raster.specs.declared.Stroke.{Stroke}
use Rattle.raster.specs.declared.Stroke.TheVariants.{Move, Line, Quad, Cubic, Close}
use Rattle.raster.specs.Path.{deposits_of}

abbrev label : ℕ → ℕ → Frame
label width height = record { wide = 8192 + width; first = 8192; end = 8192 + height }

-- a slanted line, and back upright and level
abbrev back : FixedPoint → FixedPoint → List Stroke
back a b = Move a ∷ Line b ∷ Line (record { x = b.x; y = a.y }) ∷ Close ∷ []

-- a cell: its place, 8192·row + column + 1, and its sums as 32-bit words
pub record Cell : Type 0 where
  pub place : ℕ
  pub cover : ℕ
  pub area : ℕ

abbrev cell : ℕ → ℕ → ℕ → Cell
cell p v a = record { place = p; cover = v; area = a }

-- what the log holds at a cell's place
abbrev summed : List Deposit → Cell → Cell
summed log c = cell c.place (sum_of cover_of (eqb c.place) log) (sum_of area_of (eqb c.place) log)

-- what a drawing stores is these cells, and no others
pub record Stores (f : Frame) (ks : List Stroke) (count : ℕ) (cells : List Cell) : Type 0 where
  pub few : distinct (deposits_of f ks) ≡ count
  pub sums : map (summed (deposits_of f ks)) cells ≡ cells

pub record Table : Type 0 where
  pub k4 : Stores (label 2 1) (Move (point 0 0) ∷ Line (point 256 256) ∷ Line (point 0 256) ∷ Close ∷ []) 2 (cell 1 4294967295 65280 ∷ cell 2 1 0 ∷ [])
  pub down_right : Stores (label 3 2) (back (point 100 20) (point 600 300)) 4 (cell 1 87 30972 ∷ cell 2 143 36608 ∷ cell 3 4294967066 4294925814 ∷ cell 8195 0 4294963820 ∷ [])
  pub up_left : Stores (label 3 2) (back (point 600 300) (point 100 20)) 5 (cell 1 149 16228 ∷ cell 2 4294967153 4294930688 ∷ cell 3 4294967290 4294967242 ∷ cell 8193 44 8800 ∷ cell 8195 4294967252 4294963028 ∷ [])
  pub down_left : Stores (label 3 2) (back (point 600 20) (point 100 300)) 4 (cell 1 4294967104 4294939192 ∷ cell 2 143 36608 ∷ cell 3 49 4312 ∷ cell 8193 0 3432 ∷ [])
  pub up_right : Stores (label 3 2) (back (point 100 300) (point 600 20)) 5 (cell 1 4294967252 4294948200 ∷ cell 2 4294967153 4294930688 ∷ cell 3 187 37224 ∷ cell 8193 4294967252 4294955064 ∷ cell 8195 44 7744 ∷ [])
  pub quad : Stores (label 3 2) (Move (point 0 0) ∷ Quad (point 700 0) (point 700 500) ∷ []) 5 (cell 1 4294967139 4294927104 ∷ cell 2 20 19680 ∷ cell 3 137 17894 ∷ cell 8194 4294967187 4294928274 ∷ cell 8195 109 54003 ∷ [])
  pub cubic : Stores (label 3 3) (Move (point 0 0) ∷ Cubic (point 0 700) (point 700 700) (point 700 0) ∷ []) 6 (cell 1 256 8558 ∷ cell 3 4294967040 4294880191 ∷ cell 8193 244 57173 ∷ cell 8194 4294967257 4294945674 ∷ cell 8195 4294967091 4294931715 ∷ cell 16386 0 4294965983 ∷ [])
  -- a triangle within one cell, and the same backwards: the MoveTo between them leaves the cell, so that both are
  -- stored and the place counts although their sums are zero
  pub cancels :
      Stores (label 2 2)
      (Move (point 320 320) ∷ Line (point 448 320) ∷ Line (point 320 448) ∷ Close
      ∷ Move (point 320 448) ∷ Line (point 448 320) ∷ Line (point 320 320) ∷ Close
      ∷ Move (point 2560 2560) ∷ []) 1 (cell 8194 0 0 ∷ [])

pub table : Table
unfolding deposits_of distinct sum_of
table = record {
  k4 = record { few = refl; sums = refl };
  down_right = record { few = refl; sums = refl };
  up_left = record { few = refl; sums = refl };
  down_left = record { few = refl; sums = refl };
  up_right = record { few = refl; sums = refl };
  quad = record { few = refl; sums = refl };
  cubic = record { few = refl; sums = refl };
  cancels = record { few = refl; sums = refl };
}
