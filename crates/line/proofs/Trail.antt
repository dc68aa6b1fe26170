-- The trail of a line that is not level: n moves, each to a cell of the box of its two end cells, and the last to the end cell.
-- Where the pen ends, which cells it enters, and how often, are read off it.
use Prim.Native.Nat.{ℕ, zero, suc}
use mathlib.Core.Path.{◌≡◌, refl, ap}
use mathlib.Core.List.{List, [], ◌∷◌}
use Rattle.fixed.specs.Fixed.{cell}
use Rattle.pen.specs.Marks.{Mark, enter, give, Stand, nowhere, at, after}
use Rattle.line.specs.declared.Ends.{Ends}
use Rattle.line.specs.Trail.{StandsIn, Enters, none, gives, enters, moves, Boxed}

-- n moves from cell (c, r) to the end cell
pub data Trail (l : Ends) : ℕ → ℕ → ℕ → List Mark → Type 0 where
  there : {c r v a : ℕ} → c ≡ cell l.x2 → r ≡ cell l.y2 → Trail l zero c r (give v a ∷ [])
  on : {n c r v a c' r' : ℕ} {ms : List Mark} → Boxed l c' r' → Trail l n c' r' ms → Trail l (suc n) c r (give v a ∷ enter c' r' ∷ ms)

pub trail_ends : {l : Ends} {n c r : ℕ} {ms : List Mark} → Trail l n c r ms → (s : Stand) → StandsIn s c r → StandsIn (after s ms) (cell l.x2) (cell l.y2)
unfolding after
trail_ends (there e f) (at c r v a) h = (cc, cc)
trail_ends (there e f) nowhere h = absurd h
trail_ends (on b t) s h = trail_ends t _ (refl, refl)

-- with a move it does not matter where the pen was
pub trail_enters : {l : Ends} {n c r : ℕ} {ms : List Mark} → Trail l (suc n) c r ms → (s : Stand) → StandsIn (after s ms) (cell l.x2) (cell l.y2)
unfolding after
trail_enters (on b t) s = trail_ends t _ (refl, refl)

pub trail_boxed : {l : Ends} {n c r : ℕ} {ms : List Mark} → Trail l n c r ms → Enters (Boxed l) ms
trail_boxed (there e f) = gives none
trail_boxed (on b t) = gives (enters b (trail_boxed t))

pub trail_moves : {l : Ends} {n c r : ℕ} {ms : List Mark} → Trail l n c r ms → moves ms ≡ n
unfolding moves
trail_moves (there e f) = refl
trail_moves (on b t) = ap suc (trail_moves t)
