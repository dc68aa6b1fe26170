-- docs/RULES.md, "The path list". The bytes s begin with the record that is read.
use Rattle.std.specs.Prelude.{ℕ, ◌+◌, ◌*◌, cond, List, [], ◌∷◌, get_or, eqb}
use Rattle.std.specs.Float.{binary32}
use Rattle.std.specs.Float.Ieee.{of_bits}
use Rattle.geometry.specs.declared.Point.{Point}
use Rattle.command.specs.declared.Command.{Command}
use Rattle.command.specs.declared.Command.TheVariants.{MoveTo, LineTo, QuadTo, CurveTo, Close}

abbrev pub two : List ℕ → ℕ → ℕ  -- the number of the two bytes at place i, the low one first
two s i = get_or s i 0 + 256 * get_or s (i + 1) 0

abbrev pub four : List ℕ → ℕ → ℕ  -- of four bytes
four s i = two s i + 65536 * two s (i + 2)

abbrev pub length_in : List ℕ → ℕ  -- how many bytes of the record stand behind these two
length_in s = two s 0

abbrev pub kind_in : List ℕ → ℕ
kind_in s = two s 2

abbrev pub point_in : List ℕ → ℕ → Point  -- two floats by their bits, x and then y
point_in s i = record { x = of_bits binary32 (four s i); y = of_bits binary32 (four s (i + 4)) }

abbrev pub length_of : ℕ → ℕ  -- the length that each kind must have
length_of k = cond (eqb k 1) 10 (cond (eqb k 2) 10 (cond (eqb k 3) 18 (cond (eqb k 4) 26 2)))

unfoldable pub command_in : List ℕ → Command  -- the command of each kind, its points from the fifth byte on
command_in s =
    cond (eqb (kind_in s) 1) (MoveTo (point_in s 4))
    (cond (eqb (kind_in s) 2) (LineTo (point_in s 4))
    (cond (eqb (kind_in s) 3) (QuadTo (point_in s 4) (point_in s 12))
    (cond (eqb (kind_in s) 4) (CurveTo (point_in s 4) (point_in s 12) (point_in s 20))
    Close)))

abbrev pub points_of : Command → List Point  -- every point of a command, control points too
points_of (MoveTo p) = p ∷ []
points_of (LineTo p) = p ∷ []
points_of (QuadTo c p) = c ∷ p ∷ []
points_of (CurveTo c1 c2 p) = c1 ∷ c2 ∷ p ∷ []
points_of Close = []
