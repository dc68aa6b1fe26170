-- What can be said of a line's marks without following the line: where the pen ends, which cells it enters, and how often.
-- And how far along its sides a line crosses them.
use Rattle.std.specs.Prelude.{ℕ, zero, suc, ◌≤◌, ◌<◌, min, max, ◌≡◌, cond, List, [], ◌∷◌, ◌⊎◌, eqb, ℤ, replicate}
use Rattle.float.specs.Differences.{◌⊖◌}
use Rattle.fixed.specs.Fixed.{cell, fraction}
use Rattle.pen.specs.declared.Frame.{Frame}
use Rattle.pen.specs.Marks.{Mark, enter, give, Stand, nowhere, at}
use Rattle.line.specs.declared.Ends.{Ends}
use Rattle.line.specs.Walk.{start, p, way, gone, cut}
use Rattle.line.specs.Lines.{sides}

-- the pen is in this cell
abbrev pub StandsIn : Stand → ℕ → ℕ → Type 0
StandsIn nowhere c r = ⊥
StandsIn (at c' r' v a) c r = (c' ≡ c) × (r' ≡ r)

-- every cell that the marks enter is such
pub data Enters (P : ℕ → ℕ → Type 0) : List Mark → Type 0 where
  none : Enters P []
  gives : {v a : ℕ} {ms : List Mark} → Enters P ms → Enters P (give v a ∷ ms)
  enters : {c r : ℕ} {ms : List Mark} → P c r → Enters P ms → Enters P (enter c r ∷ ms)

-- how many cells the marks enter
unfoldable pub moves : List Mark → ℕ
moves [] = 0
moves (enter c r ∷ ms) = suc (moves ms)
moves (give v a ∷ ms) = moves ms

-- the box of a line's two end cells
pub record Boxed (l : Ends) (c r : ℕ) : Type 0 where
  pub west : min (cell l.x1) (cell l.x2) ≤ c
  pub east : c ≤ max (cell l.x1) (cell l.x2)
  pub first : min (cell l.y1) (cell l.y2) ≤ r
  pub last : r ≤ max (cell l.y1) (cell l.y2)

-- a cell of a row outside the band
abbrev pub Outside : Frame → ℕ → ℕ → Type 0
Outside f c r = (f.end ≤ r) ⊎ (r < f.first)

-- how far along their sides the next n crossings of a slanted line lie
unfoldable pub cuts : ℕ → Ends → ℤ → List ℕ
unfolding way ◌⊖◌
cuts zero l p = []
cuts (suc n) l p = cut l (way l p) p ∷ cuts n l (gone l (way l p) p)

-- all crossings of a line: a level one has none, and a vertical one crosses each side where it stands
unfoldable pub crossings : Ends → List ℕ
unfolding cuts
crossings l =
    cond (eqb l.y1 l.y2) []
    (cond (eqb l.x1 l.x2) (replicate (sides l) (fraction l.x1))
    (cuts (sides l) l (p l (start l))))

-- every number of a list is at most m
pub data UpTo (m : ℕ) : List ℕ → Type 0 where
  ended : UpTo m []
  also : {n : ℕ} {ns : List ℕ} → n ≤ m → UpTo m ns → UpTo m (n ∷ ns)
