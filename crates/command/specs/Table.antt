-- The five commands, by computation: the verb and the kind of each, which are a MoveTo or a Close and which draw, and how many points each has.
use Rattle.std.specs.Prelude.{◌≡◌, refl, true, false, List, [], ◌∷◌, map, length}
use Rattle.geometry.specs.declared.Point.{Point}
use Rattle.command.specs.declared.Command.{Command}
use Rattle.command.specs.declared.Command.TheVariants.{MoveTo, LineTo, QuadTo, CurveTo, Close}
use Rattle.command.specs.declared.Verb.TheVariants as verb
use Rattle.command.specs.Commands.{verb_of, is_move, is_close, draws, points_of}
use Rattle.command.specs.Kinds.{kind_of}

module _ (c1 c2 p : Point) where
  -- one of each command
  abbrev five : List Command
  five = MoveTo p ∷ LineTo p ∷ QuadTo c1 p ∷ CurveTo c1 c2 p ∷ Close ∷ []

  pub verbs : map verb_of five ≡ verb.MoveTo ∷ verb.LineTo ∷ verb.QuadTo ∷ verb.CurveTo ∷ verb.Close ∷ []
  verbs = refl

  pub kinds : map (λ (c : Command). kind_of (verb_of c)) five ≡ 1 ∷ 2 ∷ 3 ∷ 4 ∷ 5 ∷ []
  kinds = refl

  pub moves : map is_move five ≡ true ∷ false ∷ false ∷ false ∷ false ∷ []
  moves = refl

  pub closes : map is_close five ≡ false ∷ false ∷ false ∷ false ∷ true ∷ []
  closes = refl

  pub drawn : map draws five ≡ false ∷ true ∷ true ∷ true ∷ false ∷ []
  drawn = refl

  pub points : map (λ (c : Command). length (points_of c)) five ≡ 1 ∷ 1 ∷ 2 ∷ 3 ∷ 0 ∷ []
  points = refl
