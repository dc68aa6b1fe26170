-- The two loops: what is drawn, and what is still to be drawn, are the line's marks.
use Prim.Native.Nat.{ℕ, suc, ◌+◌, ◌/◌, ◌^◌, ◌<◌}
use mathlib.Core.Path.{◌≡◌, refl, sym, ap, ◌∙◌}
use mathlib.Core.Bool.{Bool, true, false, cond}
use mathlib.Core.List.{List, [], ◌∷◌, ◌++◌, append_assoc}
use native.Mathlib.Omega.{arith}
use native.Mathlib.Numerals.{add-one}
use borrow.Author.Tests.{ltb-true, ltb-false}
use lib.Dec.{ltb}
use lib.IntN.{ℤ}
use Rattle.float.specs.Differences.{◌⊖◌}
use Rattle.fixed.specs.Fixed.{cell}
use Rattle.pen.specs.declared.boards.Board.{Board}
use Rattle.pen.specs.declared.Pen.{Pen}
use Rattle.pen.specs.Marks.{Mark, enter}
use Rattle.pen.specs.Drawing.{Drew}
use Rattle.line.specs.declared.Ends.{Ends}
use Rattle.line.specs.declared.At.{At}
use Rattle.line.specs.declared.Turn.{Turn}
use Rattle.line.specs.declared.Side.{Side}
use Rattle.line.specs.declared.Side.TheVariants.{Next, Previous}
use Rattle.line.specs.Walk.{pair, last, over, upright, way, cut, gone, crossed}
use Rattle.line.specs.Course.{B, InCell, Level, beside, rows_to, togo, Under, Stepped}

-- two more marks are drawn, and then the last
pub drawn_more : (done : List Mark) {rest rest' all : List Mark} (x y : Mark) → done ++ rest ≡ all → rest ≡ x ∷ y ∷ rest' → (done ++ (x ∷ y ∷ [])) ++ rest' ≡ all
drawn_more done {rest' = rest'} x y e f = append_assoc done (x ∷ y ∷ []) rest' ∙ ap (λ (ms : List Mark). done ++ ms) (sym f) ∙ e

pub drawn_all : (done : List Mark) {rest rest' all : List Mark} → done ++ rest ≡ all → rest ≡ rest' → done ++ rest' ≡ all
drawn_all done e f = ap (λ (ms : List Mark). done ++ ms) (sym f) ∙ e

pub drew_as : {board : Board} {ws ws' : List ℕ} {d d' : Pen} {ms ns : List Mark} → ms ≡ ns → Drew board ws ws' d d' ms → Drew board ws ws' d d' ns
drew_as e d = rw e at d

-- ---- vertical lines
abbrev pub row_way : Bool → Side
row_way next = cond next Next Previous

pub upright_suc : (n : ℕ) (next : Bool) (l : Ends) (a : At) →
    upright (suc n) (row_way next) l a ≡ pair a a.fx (cond next 256 0) ∷ enter (beside a next).col (beside a next).row ∷ upright n (row_way next) l (beside a next)
unfolding upright
upright_suc n true l a = refl
upright_suc n false l a = refl

-- a row nearer to the end's
pub row_nearer : (l : Ends) (next : Bool) (a : At) → Level l next a.row → (a.row ≡ cell l.y2 → ⊥) → rows_to l a.row ≡ rows_to l (beside a next).row + 1
row_nearer l true a h n = omega arith
row_nearer l false a h n = omega arith

pub row_level : (l : Ends) (next : Bool) (a : At) → Level l next a.row → (a.row ≡ cell l.y2 → ⊥) → Level l next (beside a next).row
row_level l true a h n = omega arith
row_level l false a h n = omega arith

pub row_few : (next : Bool) (a : At) → (l : Ends) → l.y2 < 2 ^ 22 → a.row < 2 ^ 14 → Level l next (beside a next).row → (beside a next).row < 2 ^ 14
row_few true a l b f h = omega arith
row_few false a l b f h = omega arith

pub row_point : (next : Bool) (a : At) → InCell a → InCell (beside a next)
row_point true a h = record { inx = h.inx; iny = omega arith }
row_point false a h = record { inx = h.inx; iny = omega arith }

-- the direction in which a vertical line begins
pub row_start : (l : Ends) → Level l (ltb l.y1 l.y2) (cell l.y1)
row_start l = go (ltb l.y1 l.y2) refl
  where
    go : (next : Bool) → ltb l.y1 l.y2 ≡ next → Level l next (cell l.y1)
    go true e = let h = ltb-true l.y1 l.y2 e in omega arith
    go false e = let h = ltb-false l.y1 l.y2 e in omega arith

pub upright_step : (l : Ends) (next : Bool) (a : At) → Level l next a.row → (a.row ≡ cell l.y2 → ⊥) →
    upright (rows_to l a.row) (row_way next) l a
    ≡ pair a a.fx (cond next 256 0) ∷ enter (beside a next).col (beside a next).row ∷ upright (rows_to l (beside a next).row) (row_way next) l (beside a next)
upright_step l next a h n =
    ap (λ (m : ℕ). upright m (row_way next) l a) (row_nearer l next a h n ∙ add-one _) ∙ upright_suc (rows_to l (beside a next).row) next l a

pub upright_last : (l : Ends) (next : Bool) (a : At) → a.row ≡ cell l.y2 → upright (rows_to l a.row) (row_way next) l a ≡ last l a
unfolding upright
upright_last l next a e = rw none
  where
    none : rows_to l a.row ≡ 0
    none = omega arith

-- the loop of a vertical line: `done` is drawn, and the rest of the rows is still to be
pub record Rising (board : Board) (l : Ends) (next : Bool) (ws₀ : List ℕ) (drawn₀ : Pen) (all : List Mark) (ws : List ℕ) (at : At) (drawn : Pen) : Type 0 where
  pub point : InCell at
  pub few : at.row < 2 ^ 14
  pub level : Level l next at.row
  pub done : List Mark
  pub drew : Drew board ws₀ ws drawn₀ drawn done
  pub same : done ++ upright (rows_to l at.row) (row_way next) l at ≡ all

-- ---- slanted lines
pub crossed_suc : (n : ℕ) (l : Ends) (p : ℤ) (a : At) → crossed (suc n) l p a ≡ over (way l p) (cut l (way l p) p) a (crossed n l (gone l (way l p) p))
unfolding crossed
crossed_suc n l p a = refl

pub crossed_step : (l : Ends) (P : ℕ) (a : At) (r : Turn) → Stepped l P a r →
    crossed (togo l a.col a.row) l (P ⊖ B) a
    ≡ pair a r.fx r.fy ∷ enter r.to.col r.to.row ∷ crossed (togo l r.to.col r.to.row) l (r.p ⊖ B) r.to
crossed_step l P a r s =
    ap (λ (m : ℕ). crossed m l (P ⊖ B) a) (s.nearer ∙ add-one _) ∙ crossed_suc (togo l r.to.col r.to.row) l (P ⊖ B) a
    ∙ s.made (crossed (togo l r.to.col r.to.row) l)

pub crossed_last : (l : Ends) (P : ℕ) (a : At) → a.col ≡ cell l.x2 → a.row ≡ cell l.y2 → crossed (togo l a.col a.row) l (P ⊖ B) a ≡ last l a
unfolding crossed
crossed_last l P a e f = rw none
  where
    none : togo l a.col a.row ≡ 0
    none = omega arith

pub far_x : (l : Ends) (c r : ℕ) → (c ≡ l.x2 / 256 → ⊥) → 0 < togo l c r
far_x l c r h = omega arith

pub far_y : (l : Ends) (c r : ℕ) → (r ≡ l.y2 / 256 → ⊥) → 0 < togo l c r
far_y l c r h = omega arith

-- the loop of a slanted line: `done` is drawn, and the rest of the walk is still to be
pub record Running (board : Board) (l : Ends) (ws₀ : List ℕ) (drawn₀ : Pen) (all : List Mark) (ws : List ℕ) (P : ℕ) (at : At) (drawn : Pen) : Type 0 where
  pub under : Under l P at
  pub done : List Mark
  pub drew : Drew board ws₀ ws drawn₀ drawn done
  pub same : done ++ crossed (togo l at.col at.row) l (P ⊖ B) at ≡ all
