-- The stack of the parts of a quad that wait for their lines: at a part's place its end, then its control point and its start. Parts lie two
-- places apart: the start of one is the end of the part above it, which comes before it.
use Rattle.std.specs.Prelude.{ℕ, ◌+◌, List, [], ◌∷◌, set}
use Rattle.fixed.specs.declared.FixedPoint.{FixedPoint}
use Rattle.fixed.specs.Split.{point_of, split_quad}

-- the part at place i
abbrev pub part_at : List FixedPoint → ℕ → List FixedPoint
part_at l i = point_of l i ∷ point_of l (i + 1) ∷ point_of l (i + 2) ∷ []

-- four points of five, stored above place i
abbrev pub above : List FixedPoint → ℕ → List FixedPoint → List FixedPoint
above l i s = set (set (set (set l (i + 1) (point_of s 1)) (i + 2) (point_of s 2)) (i + 3) (point_of s 3)) (i + 4) (point_of s 4)

-- the part at place i is halved
unfoldable pub halved : List FixedPoint → ℕ → List FixedPoint
halved l i = above l i (split_quad (part_at l i))
