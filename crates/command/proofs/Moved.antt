-- A transform changes a command's points and nothing else: each law holds at each of the five commands by computation.
use mathlib.Core.Path.{◌≡◌, refl}
use mathlib.Core.List.{map}
use Rattle.geometry.specs.declared.Transform.{Transform}
use Rattle.geometry.specs.Affine.{moved}
use Rattle.command.specs.declared.Command.{Command}
use Rattle.command.specs.declared.Command.TheVariants.{MoveTo, LineTo, QuadTo, CurveTo, Close}
use Rattle.command.specs.Commands.{verb_of, is_move, points_of, moved_all}

-- the points of a transformed command are its points, transformed, in order
pub points_moved : (t : Transform) (c : Command) → points_of (moved_all t c) ≡ map (moved t) (points_of c)
unfolding moved_all
points_moved t (MoveTo p) = refl
points_moved t (LineTo p) = refl
points_moved t (QuadTo c p) = refl
points_moved t (CurveTo c1 c2 p) = refl
points_moved t Close = refl

pub verb_kept : (t : Transform) (c : Command) → verb_of (moved_all t c) ≡ verb_of c
unfolding moved_all
verb_kept t (MoveTo p) = refl
verb_kept t (LineTo p) = refl
verb_kept t (QuadTo c p) = refl
verb_kept t (CurveTo c1 c2 p) = refl
verb_kept t Close = refl

pub move_kept : (t : Transform) (c : Command) → is_move (moved_all t c) ≡ is_move c
unfolding moved_all
move_kept t (MoveTo p) = refl
move_kept t (LineTo p) = refl
move_kept t (QuadTo c p) = refl
move_kept t (CurveTo c1 c2 p) = refl
move_kept t Close = refl
