-- docs/RULES.md, "The path list", its commands: MoveTo p, LineTo p, QuadTo c p, CurveTo c1 c2 p, Close.
use Rattle.std.specs.Prelude.{Bool, true, false, List, [], ◌∷◌}
use Rattle.geometry.specs.declared.Point.{Point}
use Rattle.geometry.specs.declared.Transform.{Transform}
use Rattle.geometry.specs.Affine.{moved}
use Rattle.command.specs.declared.Command.{Command}
use Rattle.command.specs.declared.Command.TheVariants.{MoveTo, LineTo, QuadTo, CurveTo, Close}
use Rattle.command.specs.declared.Verb.{Verb}
use Rattle.command.specs.declared.Verb.TheVariants as verb

-- the verb of a command; Close is Close
abbrev pub verb_of : Command → Verb
verb_of (MoveTo p) = verb.MoveTo
verb_of (LineTo p) = verb.LineTo
verb_of (QuadTo c p) = verb.QuadTo
verb_of (CurveTo c1 c2 p) = verb.CurveTo
verb_of Close = verb.Close

-- whether a command is a MoveTo
abbrev pub is_move : Command → Bool
is_move (MoveTo p) = true
is_move (LineTo p) = false
is_move (QuadTo c p) = false
is_move (CurveTo c1 c2 p) = false
is_move Close = false

-- whether it is a Close
abbrev pub is_close : Command → Bool
is_close (MoveTo p) = false
is_close (LineTo p) = false
is_close (QuadTo c p) = false
is_close (CurveTo c1 c2 p) = false
is_close Close = true

-- whether it draws: a LineTo, a QuadTo or a CurveTo
abbrev pub draws : Command → Bool
draws (MoveTo p) = false
draws (LineTo p) = true
draws (QuadTo c p) = true
draws (CurveTo c1 c2 p) = true
draws Close = false

-- every point of a command, control points included, in order
abbrev pub points_of : Command → List Point
points_of (MoveTo p) = p ∷ []
points_of (LineTo p) = p ∷ []
points_of (QuadTo c p) = c ∷ p ∷ []
points_of (CurveTo c1 c2 p) = c1 ∷ c2 ∷ p ∷ []
points_of Close = []

-- the command with every point transformed
unfoldable pub moved_all : Transform → Command → Command
moved_all t (MoveTo p) = MoveTo (moved t p)
moved_all t (LineTo p) = LineTo (moved t p)
moved_all t (QuadTo c p) = QuadTo (moved t c) (moved t p)
moved_all t (CurveTo c1 c2 p) = CurveTo (moved t c1) (moved t c2) (moved t p)
moved_all t Close = Close
