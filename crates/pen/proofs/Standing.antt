-- Entering a cell leaves what the pen leaves in the cell before.
use Rattle.std.proofs.Common.{◌≡◌, ℕ, [], ◌∷◌, append-nil}
use Rattle.pen.specs.Marks.{enter, Stand, leaving, left}

pub left_enter : (s : Stand) (c r : ℕ) → left s (enter c r ∷ []) ≡ leaving s
unfolding left
left_enter s c r = append-nil (leaving s)
