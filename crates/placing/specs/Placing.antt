-- docs/RULES.md, "Bounds and placement": of a path list. Of the refusals of
-- "When a label is turned away" they know 6 to 12 and 18, and bounds judge as for an offset of zero.
use Rattle.std.specs.Prelude.{ℕ, Bool, true, false, List, [], ◌∷◌, ◌++◌, map, length, ⊤, Result, Ok, Err}
use Rattle.std.specs.Float.Ieee.{of_bits, add, mul, neg}
use Rattle.float.specs.Cut.{zero_f}
use Rattle.float.specs.Round.{floor_z, ceil_z, floor_of}
use Rattle.geometry.specs.declared.Point.{Point}
use Rattle.geometry.specs.declared.Transform.{Transform}
use Rattle.geometry.specs.declared.Bounds.{Bounds}
use Rattle.geometry.specs.declared.Placement.{Placement}
use Rattle.geometry.specs.declared.Origin.{Origin}
use Rattle.geometry.specs.Affine.{point_of, moved, shifted}
use Rattle.geometry.specs.Box.{box_of}
use Rattle.geometry.specs.Placing.{negated, placement_of}
use Rattle.command.specs.declared.Command.{Command}
use Rattle.command.specs.Commands.{points_of}
use Rattle.fixed.specs.Fixed.{spot_of}
use Rattle.path.specs.declared.Refusal.{Refusal}
use Rattle.path.specs.declared.Refusal.TheVariants.{Outside}
use Rattle.path.specs.declared.Refused.{Refused}
use Rattle.path.specs.Refusals.{refused_at}
use Rattle.path.specs.Inputs.{inputs_of}
use Rattle.path.specs.Reading.{Read, refused, path, passed, cuts_in, read_list}
use Rattle.placing.specs.declared.Laid.{Laid}

-- ---- 6 to 12 and 18: checks 6 and 7, whose index is 0, then the records front to back
abbrev pub unless_faulty : Result ⊤ Refusal → Read → Read
unless_faulty (Ok u) r = r
unless_faulty (Err w) r = refused w 0

unfoldable pub read_checked : Transform → Point → List ℕ → Read
unfolding inputs_of read_list
read_checked t o s = unless_faulty (inputs_of t o (length s)) (read_list t o s)

-- ---- every transformed point, control points too, in order
abbrev pub moved_points : Transform → Command → List Point
moved_points t c = map (moved t) (points_of c)

unfoldable pub path_points : Transform → List Command → List Point
unfolding add mul
path_points t [] = []
path_points t (c ∷ cs) = moved_points t c ++ path_points t cs

-- the box around all of them, in which of equal parts the first stays; (0,0) to (0,0) for an empty list
unfoldable pub path_box : Transform → List Command → Bounds
unfolding path_points box_of
path_box t cs = box_of (path_points t cs)

-- ---- bounds. Offset zero says only which points the point rule judges: nothing is added to the box
abbrev pub nowhere : Point
nowhere = point_of zero_f zero_f

abbrev pub box_read : Transform → Read → Result Bounds Refused
box_read t (refused w i) = refused_at w i
box_read t (path cs) = Ok (path_box t cs)

unfoldable pub bounds_of : Transform → List ℕ → Result Bounds Refused
unfolding read_checked path_box of_bits
bounds_of t s = box_read t (read_checked t nowhere s)

-- ---- placement
-- with this offset and placement, and so many coordinates that are cut
abbrev pub laid_with : Point → Placement → ℕ → Result Laid Refused
laid_with o p cut = Ok (record { offset = o; placement = p; cut = cut })

-- where the box lies with the offset added, rounded outward to whole pixels, and the offset that brings it to the mask
-- (the crate `geometry`); so many coordinates are cut
abbrev pub laid_between : Origin → Point → Point → ℕ → Result Laid Refused
laid_between g a b cut = laid_with (negated a) (placement_of g a b) cut

unfoldable pub laid_box : Origin → Point → Bounds → ℕ → Result Laid Refused
unfolding add neg floor_z ceil_z floor_of
laid_box g o b cut = laid_between g (shifted o b.min) (shifted o b.max) cut

-- an empty list is 12 with index 0 where the offset by itself fails the point rule
abbrev pub if_passed : Bool → Result Laid Refused → Result Laid Refused
if_passed true a = a
if_passed false a = refused_at Outside 0

unfoldable pub laid_path : Origin → Transform → Point → List Command → Result Laid Refused
unfolding path_box laid_box spot_of cuts_in
laid_path g t o [] = if_passed (passed (spot_of o)) (laid_box g o (path_box t []) (cuts_in t o []))
laid_path g t o (c ∷ cs) = laid_box g o (path_box t (c ∷ cs)) (cuts_in t o (c ∷ cs))

abbrev pub laid_read : Origin → Transform → Point → Read → Result Laid Refused
laid_read g t o (refused w i) = refused_at w i
laid_read g t o (path cs) = laid_path g t o cs

unfoldable pub laid_of : Origin → Transform → Point → List ℕ → Result Laid Refused
unfolding read_checked laid_path
laid_of g t o s = laid_read g t o (read_checked t o s)
