-- Slanted and vertical lines have a trail: each move brings the line one cell nearer to its end cell, within the box.
use Prim.Native.Nat.{ℕ, zero, suc, ◌+◌, ◌*◌, ◌-◌, ◌/◌, ◌%◌, ◌<◌, ◌≤◌}
use mathlib.Core.Path.{◌≡◌, refl, ap, ◌∙◌}
use mathlib.Core.Bool.{Bool, true, false}
use mathlib.Core.List.{◌∷◌}
use native.Mathlib.Omega.{arith}
use lib.Dec.{ltb}
use lib.IntN.{ℤ}
use Rattle.float.specs.Differences.{◌⊖◌}
use Rattle.fixed.specs.Fixed.{cell, apart}
use Rattle.line.specs.declared.Ends.{Ends}
use Rattle.line.specs.declared.At.{At}
use Rattle.line.specs.declared.Rates.{Rates}
use Rattle.line.specs.declared.Turn.{Turn}
use Rattle.line.specs.declared.Side.{Side}
use Rattle.line.specs.declared.Side.TheVariants.{Left, Next, Right, Previous}
use Rattle.line.specs.Walk.{start, upright, row_side, p, way, gone, cut, crossed}
use Rattle.line.specs.Lines.{sides}
use Rattle.line.specs.Course.{B, Bounded, Slanted, Course, ne, nw, se, sw, Level, beside, rows_to, togo, Rated, Under, Stepped}
use Rattle.line.specs.Trail.{Boxed, cuts, UpTo, ended, also}
use Rattle.line.proofs.Course.{Moved, moved}
use Rattle.line.proofs.Turning.{stepped_left, stepped_next, stepped_right, stepped_previous}
use Rattle.line.proofs.Cases.{sides_vertical}
use Rattle.line.proofs.Begun.{begun_line, mul_low}
use Rattle.line.proofs.Walking.{row_way, upright_suc, row_nearer, row_level, row_start, crossed_suc}
use Rattle.line.proofs.Trail.{Trail, there, on}

-- ---- slanted lines
boxed : (l : Ends) (c r P : ℕ) → Course l c r P → Boxed l c r
boxed l c r P (ne i) = record { west = omega arith; east = omega arith; first = omega arith; last = omega arith }
boxed l c r P (nw i) = record { west = omega arith; east = omega arith; first = omega arith; last = omega arith }
boxed l c r P (se i) = record { west = omega arith; east = omega arith; first = omega arith; last = omega arith }
boxed l c r P (sw i) = record { west = omega arith; east = omega arith; first = omega arith; last = omega arith }

rates : Ends → Rates
rates l = record { x = 16777215 / apart l.x2 l.x1; y = 16777215 / apart l.y2 l.y1 }

rated : (l : Ends) → Bounded l → Rated l (rates l)
unfolding rates
rated l b = record { small = b; kx = refl; ky = refl }

stepped : (l : Ends) (k : Rates) (P : ℕ) (a : At) → Rated l k → Under l P a → 0 < togo l a.col a.row → (r : Turn) × Stepped l P a r
stepped l k P a y u h = go (way l (P ⊖ B)) refl (moved l a.col a.row P y.small u.course h)
  where
    go : (w : Side) → way l (P ⊖ B) ≡ w → Moved l a.col a.row P w → (r : Turn) × Stepped l P a r
    go Left e m = (_, stepped_left l k P a y u e m _ refl)
    go Next e m = (_, stepped_next l k P a y u e m _ refl)
    go Right e m = (_, stepped_right l k P a y u e m _ refl)
    go Previous e m = (_, stepped_previous l k P a y u e m _ refl)

-- a crossing is at most 255
pub cut_most : (l : Ends) (P : ℕ) (a : At) → Bounded l → Under l P a → 0 < togo l a.col a.row → cut l (way l (P ⊖ B)) (P ⊖ B) ≤ 255
cut_most l P a b u h = (stepped l (rates l) P a (rated l b) u h).1.most

none_x : (l : Ends) (c r : ℕ) → togo l c r ≡ 0 → c ≡ cell l.x2
none_x l c r h = omega arith

none_y : (l : Ends) (c r : ℕ) → togo l c r ≡ 0 → r ≡ cell l.y2
none_y l c r h = omega arith

crossed_trail : (n : ℕ) (l : Ends) (k : Rates) (P : ℕ) (a : At) → Rated l k → Under l P a → togo l a.col a.row ≡ n → Trail l n a.col a.row (crossed n l (P ⊖ B) a)
unfolding crossed
crossed_trail zero l k P a y u h = there (none_x l a.col a.row h) (none_y l a.col a.row h)
crossed_trail (suc n) l k P a y u h = more (stepped l k P a y u (omega arith)) (λ Q b v e. crossed_trail n l k Q b y v e)
  where
    more : ((r : Turn) × Stepped l P a r) → ((Q : ℕ) (b : At) → Under l Q b → togo l b.col b.row ≡ n → Trail l n b.col b.row (crossed n l (Q ⊖ B) b))
        → Trail l (suc n) a.col a.row (crossed (suc n) l (P ⊖ B) a)
    more (r, s) f =
        let e : togo l r.to.col r.to.row ≡ n = omega (arith, s.nearer) in
        rw (crossed_suc n l (P ⊖ B) a ∙ s.made (crossed n l)) (on (boxed l _ _ _ s.under.course) (f r.p r.to s.under e))

cuts_suc : (n : ℕ) (l : Ends) (p : ℤ) → cuts (suc n) l p ≡ cut l (way l p) p ∷ cuts n l (gone l (way l p) p)
unfolding cuts
cuts_suc n l p = refl

-- each crossing of what is left of the walk is at most 255
cuts_most : (n : ℕ) (l : Ends) (k : Rates) (P : ℕ) (a : At) → Rated l k → Under l P a → togo l a.col a.row ≡ n
    → UpTo 255 (cuts n l (P ⊖ B))
unfolding cuts
cuts_most zero l k P a y u h = ended
cuts_most (suc n) l k P a y u h = more (stepped l k P a y u (omega arith)) (λ Q b v e. cuts_most n l k Q b y v e)
  where
    more : ((r : Turn) × Stepped l P a r)
        → ((Q : ℕ) (b : At) → Under l Q b → togo l b.col b.row ≡ n → UpTo 255 (cuts n l (Q ⊖ B)))
        → UpTo 255 (cuts (suc n) l (P ⊖ B))
    more (r, s) f =
        let e : togo l r.to.col r.to.row ≡ n = omega (arith, s.nearer) in
        let gs : UpTo 255 (cuts n l (gone l (way l (P ⊖ B)) (P ⊖ B))) = rw s.went (f r.p r.to s.under e) in
        rw (cuts_suc n l (P ⊖ B)) (also s.most gs)

-- a slanted line begins on its course
module _ (l : Ends) (b : Bounded l) (n : Slanted l) where
  begun : ℕ
  begun = B + l.y1 % 256 * l.x2 + l.x1 % 256 * l.y1 - l.y1 % 256 * l.x1 - l.x1 % 256 * l.y2

  on_way : Under l begun (start l) × (begun ⊖ B ≡ p l (start l))
  unfolding begun
  on_way =
      begun_line l begun b n
      (omega (
        arith,
        mul_low (l.y1 % 256) l.x1 (omega arith) b.bx1,
        mul_low (l.x1 % 256) l.y2 (omega arith) b.by2,
      ))

  pub slanted_trail : Trail l (sides l) (cell l.x1) (cell l.y1) (crossed (sides l) l (p l (start l)) (start l))
  slanted_trail = rw on_way.1 at (crossed_trail (sides l) l (rates l) begun (start l) (rated l b) on_way.0 refl)

  pub slanted_cuts : UpTo 255 (cuts (sides l) l (p l (start l)))
  slanted_cuts = rw on_way.1 at (cuts_most (sides l) l (rates l) begun (start l) (rated l b) on_way.0 refl)

-- ---- vertical lines
row_boxed : (l : Ends) (next : Bool) (a : At) → Boxed l a.col a.row → Level l next a.row → (a.row ≡ cell l.y2 → ⊥) → Boxed l (beside a next).col (beside a next).row
row_boxed l true a b h n = record { west = b.west; east = b.east; first = omega arith; last = omega arith }
row_boxed l false a b h n = record { west = b.west; east = b.east; first = omega arith; last = omega arith }

beside_col : (next : Bool) (a : At) → (beside a next).col ≡ a.col
beside_col true a = refl
beside_col false a = refl

here_y : (l : Ends) (r : ℕ) → rows_to l r ≡ 0 → r ≡ cell l.y2
here_y l r h = omega arith

away_y : (l : Ends) (r n : ℕ) → rows_to l r ≡ suc n → r ≡ cell l.y2 → ⊥
away_y l r n h e = omega arith

fewer : {m k n : ℕ} → m ≡ suc n → m ≡ k + 1 → k ≡ n
fewer e f = omega arith

upright_trail : (n : ℕ) (l : Ends) (next : Bool) (a : At) → a.col ≡ cell l.x2 → Boxed l a.col a.row → Level l next a.row → rows_to l a.row ≡ n
    → Trail l n a.col a.row (upright n (row_way next) l a)
unfolding upright
upright_trail zero l next a c b h e = there c (here_y l a.row e)
upright_trail (suc n) l next a c b h e =
    let o : a.row ≡ cell l.y2 → ⊥ = away_y l a.row n e in
    let g : Boxed l (beside a next).col (beside a next).row = row_boxed l next a b h o in
    rw (upright_suc n next l a)
    (on g (upright_trail n l next (beside a next) (beside_col next a ∙ c) g (row_level l next a h o) (fewer e (row_nearer l next a h o))))

pub vertical_trail : (l : Ends) → l.x1 ≡ l.x2 → Trail l (sides l) (cell l.x1) (cell l.y1) (upright (sides l) (row_side l) l (start l))
vertical_trail l e = upright_trail (sides l) l (ltb l.y1 l.y2) (start l) (ap cell e) b (row_start l) (sides_vertical l e)
  where
    b : Boxed l (cell l.x1) (cell l.y1)
    b = record { west = omega arith; east = omega arith; first = omega arith; last = omega arith }
