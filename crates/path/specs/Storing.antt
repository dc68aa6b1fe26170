-- docs/RULES.md, "When a label is turned away": the record that 13 names. What each record stores, and how many fit.
use Rattle.std.specs.Prelude.{ℕ, ◌+◌, ◌≤◌, ◌<◌, ◌≡◌, cond, List, [], ◌∷◌, ◌++◌, ltb, Option, Result, Ok, Err}
use Rattle.std.specs.Option.{ok_or}
use Rattle.fixed.specs.declared.FixedPoint.{FixedPoint}
use Rattle.storage.specs.Deposits.{Deposit, distinct}
use Rattle.storage.specs.Cells.{Holds}
use Rattle.pen.specs.declared.Frame.{Frame}
use Rattle.pen.specs.Marks.{Stand, nowhere, after, left, seen}
use Rattle.raster.specs.declared.Stroke.{Stroke}
use Rattle.raster.specs.Path.{corner, stroke_marks, point_after, start_after, end_of}
use Rattle.path.specs.declared.Overfull.{Overfull}

-- what each stroke stores, in a subpath that started at s, from the pen point a on, and behind the last one's what the end
-- stores
unfoldable pub stored_from : Frame → Stand → FixedPoint → FixedPoint → List Stroke → List (List Deposit)
unfolding seen left after stroke_marks
stored_from f st a s [] = seen f (end_of f st a s) ∷ []
stored_from f st a s (k ∷ ks) =
    let ms = stroke_marks f a s k in
    seen f (left st ms) ∷ stored_from f (after st ms) (point_after s k) (start_after s k) ks

unfoldable pub stored_by : Frame → List Stroke → List (List Deposit)
unfolding stored_from
stored_by f ks = stored_from f nowhere corner corner ks

-- how many of the lists, from the front, fit into so many places with all before them and with the log
unfoldable pub fitting : ℕ → List Deposit → List (List Deposit) → ℕ
unfolding distinct
fitting cap log [] = 0
fitting cap log (ds ∷ each) = cond (ltb cap (distinct (log ++ ds))) 0 (1 + fitting cap (log ++ ds) each)

-- the record of index n was too much
abbrev pub overfull : ℕ → Overfull
overfull n = record { «record» = n }

-- the pool as the record of index n leaves it
abbrev pub pool_at : Option ℕ → ℕ → Result ℕ Overfull
pool_at kept n = ok_or kept (overfull n)

-- the cells that are told of are the pool's, and the record is one of a list of so many bytes, or its end
abbrev pub Within : ℕ → ℕ → Result ℕ Overfull → Type 0
Within cap bytes (Ok count) = count ≤ cap
Within cap bytes (Err full) = full.«record» ≤ bytes

-- the words hold the log, or that is too much for the pool, of which the lists tell where
abbrev pub Filled : List ℕ → ℕ → ℕ → ℕ → List Deposit → List (List Deposit) → Result ℕ Overfull → Type 0
Filled ws rows width cap log each (Ok count) = Holds ws rows width count log
Filled ws rows width cap log each (Err full) = (cap < distinct log) × (full.«record» ≡ fitting cap [] each)
