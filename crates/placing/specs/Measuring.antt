-- What the private functions promise of the box of a list's points. No rule speaks of this.
use Rattle.std.specs.Prelude.{ℕ, ◌≡◌, true, List, Some, None, Ok, Err}
use Rattle.geometry.specs.declared.Point.{Point}
use Rattle.geometry.specs.declared.Transform.{Transform}
use Rattle.geometry.specs.declared.Bounds.{Bounds}
use Rattle.geometry.specs.Affine.{moved, shifted}
use Rattle.geometry.specs.Box.{box_at}
use Rattle.geometry.specs.Placing.{within}
use Rattle.command.specs.declared.Command.{Command}
use Rattle.command.specs.declared.Command.TheVariants.{MoveTo, LineTo, QuadTo, CurveTo, Close}
use Rattle.list.specs.Records.{Step}
use Rattle.path.specs.Reading.{path, read_list}
use Rattle.placing.specs.Placing.{nowhere, path_box}

-- the box of a MoveTo; the empty list's for what no accepted list begins with
abbrev pub first_in : Transform → Command → Bounds
first_in t (MoveTo p) = box_at (moved t p)
first_in t (LineTo p) = box_at nowhere
first_in t (QuadTo c p) = box_at nowhere
first_in t (CurveTo c d p) = box_at nowhere
first_in t Close = box_at nowhere

abbrev pub start_of : Transform → Step → Bounds
start_of t (Ok (Some r)) = first_in t r.command
start_of t (Ok None) = box_at nowhere
start_of t (Err why) = box_at nowhere

-- b is the box of the list's points, where the list is accepted
pub record Boxes (t : Transform) (s : List ℕ) (b : Bounds) : Type 0 where
  pub boxes : (o : Point) (cs : List Command) → read_list t o s ≡ path cs → b ≡ path_box t cs

-- with the offset added, both ends of a box reach, so that geometry's placement is not outside
pub record Lies (o : Point) (b : Bounds) : Type 0 where
  pub low : within (shifted o b.min) ≡ true
  pub high : within (shifted o b.max) ≡ true
