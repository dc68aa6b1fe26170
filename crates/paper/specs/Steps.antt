-- A definition that calls itself is handed the number of calls that it has left, so that it is seen to end. The numbers
-- are no rules: each always suffices.
use Rattle.std.specs.Prelude.{ℕ, ◌+◌, ◌-◌, List, length}
use Rattle.label.specs.declared.Label.{Label}

abbrev pub most_records : List ℕ → ℕ  -- a record takes four bytes or more
most_records s = length s + 1

-- by the point rule a quad's bend is at most 2^22, and 8 quarterings make that 64
abbrev pub most_doublings : ℕ
most_doublings = 16

-- of a cubic let N be the larger of |p0 − 2p1 + p2| and |p1 − 2p2 + p3|, at most 2^22 by the point rule. Each half has
-- at most (N + 6) / 4, rounding included, so that 9 splits take it to 18 or less. What is tested is at most 3N, and 54
-- is flat
abbrev pub most_splits : ℕ
most_splits = 9

abbrev pub most_bands : Label → ℕ  -- a band has a row or more
most_bands l = l.end - l.first
