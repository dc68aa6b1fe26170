-- No two answers satisfy a promise: points, transforms, bounds and placements, commands, floats, fixed numbers and bytes.
use mathlib.Core.Path.{sym, ◌∙◌}
use Rattle.claims.proofs.OneOutcome.{OneAnswer}
use Rattle.geometry.proofs.Point.new.Kinds as point-new-kinds
use Rattle.geometry.proofs.Point.new.Reads as point-new-reads
use Rattle.geometry.proofs.Point.plus.Kinds as point-plus-kinds
use Rattle.geometry.proofs.Point.plus.Reads as point-plus-reads
use Rattle.geometry.proofs.Transform.identity.Kinds as transform-identity-kinds
use Rattle.geometry.proofs.Transform.identity.Reads as transform-identity-reads
use Rattle.geometry.proofs.Transform.new.Kinds as transform-new-kinds
use Rattle.geometry.proofs.Transform.new.Reads as transform-new-reads
use Rattle.geometry.proofs.Transform.translation.Kinds as transform-translation-kinds
use Rattle.geometry.proofs.Transform.translation.Reads as transform-translation-reads
use Rattle.geometry.proofs.Transform.scale.Kinds as transform-scale-kinds
use Rattle.geometry.proofs.Transform.scale.Reads as transform-scale-reads
use Rattle.geometry.proofs.Transform.combine.Kinds as transform-combine-kinds
use Rattle.geometry.proofs.Transform.combine.Reads as transform-combine-reads
use Rattle.geometry.proofs.Transform.then.Kinds as transform-then-kinds
use Rattle.geometry.proofs.Transform.then.Reads as transform-then-reads
use Rattle.geometry.proofs.Transform.then_scale.Kinds as transform-then-scale-kinds
use Rattle.geometry.proofs.Transform.then_scale.Reads as transform-then-scale-reads
use Rattle.geometry.proofs.Transform.then_translate.Kinds as transform-then-translate-kinds
use Rattle.geometry.proofs.Transform.then_translate.Reads as transform-then-translate-reads
use Rattle.geometry.proofs.Transform.pre_scale.Kinds as transform-pre-scale-kinds
use Rattle.geometry.proofs.Transform.pre_scale.Reads as transform-pre-scale-reads
use Rattle.geometry.proofs.Transform.pre_translate.Kinds as transform-pre-translate-kinds
use Rattle.geometry.proofs.Transform.pre_translate.Reads as transform-pre-translate-reads
use Rattle.geometry.proofs.Transform.transform_point.Kinds as transform-transform-point-kinds
use Rattle.geometry.proofs.Transform.transform_point.Reads as transform-transform-point-reads
use Rattle.geometry.proofs.Transform.transform_vector.Kinds as transform-transform-vector-kinds
use Rattle.geometry.proofs.Transform.transform_vector.Reads as transform-transform-vector-reads
use Rattle.geometry.proofs.Bounds.new.Kinds as bounds-new-kinds
use Rattle.geometry.proofs.Bounds.new.Reads as bounds-new-reads
use Rattle.geometry.proofs.Bounds.of.Kinds as bounds-of-kinds
use Rattle.geometry.proofs.Bounds.of.Reads as bounds-of-reads
use Rattle.geometry.proofs.Bounds.add.Kinds as bounds-add-kinds
use Rattle.geometry.proofs.Bounds.add.Reads as bounds-add-reads
use Rattle.geometry.proofs.Bounds.is_empty.Kinds as bounds-is-empty-kinds
use Rattle.geometry.proofs.Bounds.is_empty.Reads as bounds-is-empty-reads
use Rattle.geometry.proofs.Bounds.width.Kinds as bounds-width-kinds
use Rattle.geometry.proofs.Bounds.width.Reads as bounds-width-reads
use Rattle.geometry.proofs.Bounds.height.Kinds as bounds-height-kinds
use Rattle.geometry.proofs.Bounds.height.Reads as bounds-height-reads
use Rattle.geometry.proofs.Bounds.contains.Kinds as bounds-contains-kinds
use Rattle.geometry.proofs.Bounds.contains.Reads as bounds-contains-reads
use Rattle.geometry.proofs.Placement.compute.Kinds as placement-compute-kinds
use Rattle.geometry.proofs.Placement.compute.Reads as placement-compute-reads
use Rattle.command.proofs.Verbs.{one_answer}
use Rattle.command.proofs.VerbTryFromU16.try_from.Kinds as verb-try-from-kinds
use Rattle.command.proofs.VerbTryFromU16.try_from.Reads as verb-try-from-reads
use Rattle.command.proofs.Command.verb.Kinds as command-verb-kinds
use Rattle.command.proofs.Command.verb.Reads as command-verb-reads
use Rattle.command.proofs.Command.is_move.Kinds as command-is-move-kinds
use Rattle.command.proofs.Command.is_move.Reads as command-is-move-reads
use Rattle.command.proofs.Command.is_close.Kinds as command-is-close-kinds
use Rattle.command.proofs.Command.is_close.Reads as command-is-close-reads
use Rattle.command.proofs.Command.draws.Kinds as command-draws-kinds
use Rattle.command.proofs.Command.draws.Reads as command-draws-reads
use Rattle.command.proofs.Command.transform.Kinds as command-transform-kinds
use Rattle.command.proofs.Command.transform.Reads as command-transform-reads
use Rattle.float.proofs.from_bytes.Kinds as from-bytes-kinds
use Rattle.float.proofs.from_bytes.Reads as from-bytes-reads
use Rattle.float.proofs.is_finite.Kinds as is-finite-kinds
use Rattle.float.proofs.is_finite.Reads as is-finite-reads
use Rattle.float.proofs.cut_float.Kinds as cut-float-kinds
use Rattle.float.proofs.cut_float.Reads as cut-float-reads
use Rattle.float.proofs.floor.Kinds as floor-kinds
use Rattle.float.proofs.floor.Reads as floor-reads
use Rattle.float.proofs.ceil.Kinds as ceil-kinds
use Rattle.float.proofs.ceil.Reads as ceil-reads
use Rattle.fixed.proofs.to_fixed.Kinds as to-fixed-kinds
use Rattle.fixed.proofs.to_fixed.Reads as to-fixed-reads
use Rattle.fixed.proofs.from_point.Kinds as from-point-kinds
use Rattle.fixed.proofs.from_point.Reads as from-point-reads
use Rattle.fixed.proofs.trunc.Kinds as trunc-kinds
use Rattle.fixed.proofs.trunc.Reads as trunc-reads
use Rattle.fixed.proofs.fract.Kinds as fract-kinds
use Rattle.fixed.proofs.fract.Reads as fract-reads
use Rattle.fixed.proofs.split_quad.Kinds as split-quad-kinds
use Rattle.fixed.proofs.split_quad.Reads as split-quad-reads
use Rattle.fixed.proofs.split_cubic.Kinds as split-cubic-kinds
use Rattle.fixed.proofs.split_cubic.Reads as split-cubic-reads
use Rattle.sweep.proofs.coverage.Kinds as coverage-kinds
use Rattle.sweep.proofs.coverage.Reads as coverage-reads

-- ---- geometry
pub point_new : OneAnswer 0 point-new-kinds.ps point-new-kinds.r point-new-reads.Learnt
point_new κs a z z' e e' p q = p ∙ sym q

pub point_plus : OneAnswer 0 point-plus-kinds.ps point-plus-kinds.r point-plus-reads.Learnt
point_plus κs a z z' e e' p q = p ∙ sym q

pub transform_identity : OneAnswer 0 transform-identity-kinds.ps transform-identity-kinds.r transform-identity-reads.Learnt
transform_identity κs a z z' e e' p q = p ∙ sym q

pub transform_new : OneAnswer 0 transform-new-kinds.ps transform-new-kinds.r transform-new-reads.Learnt
transform_new κs a z z' e e' p q = p ∙ sym q

pub transform_translation : OneAnswer 0 transform-translation-kinds.ps transform-translation-kinds.r transform-translation-reads.Learnt
transform_translation κs a z z' e e' p q = p ∙ sym q

pub transform_scale : OneAnswer 0 transform-scale-kinds.ps transform-scale-kinds.r transform-scale-reads.Learnt
transform_scale κs a z z' e e' p q = p ∙ sym q

pub transform_combine : OneAnswer 0 transform-combine-kinds.ps transform-combine-kinds.r transform-combine-reads.Learnt
transform_combine κs a z z' e e' p q = p ∙ sym q

pub transform_then : OneAnswer 0 transform-then-kinds.ps transform-then-kinds.r transform-then-reads.Learnt
transform_then κs a z z' e e' p q = p ∙ sym q

pub transform_then_scale : OneAnswer 0 transform-then-scale-kinds.ps transform-then-scale-kinds.r transform-then-scale-reads.Learnt
transform_then_scale κs a z z' e e' p q = p ∙ sym q

pub transform_then_translate : OneAnswer 0 transform-then-translate-kinds.ps transform-then-translate-kinds.r transform-then-translate-reads.Learnt
transform_then_translate κs a z z' e e' p q = p ∙ sym q

pub transform_pre_scale : OneAnswer 0 transform-pre-scale-kinds.ps transform-pre-scale-kinds.r transform-pre-scale-reads.Learnt
transform_pre_scale κs a z z' e e' p q = p ∙ sym q

pub transform_pre_translate : OneAnswer 0 transform-pre-translate-kinds.ps transform-pre-translate-kinds.r transform-pre-translate-reads.Learnt
transform_pre_translate κs a z z' e e' p q = p ∙ sym q

pub transform_transform_point : OneAnswer 0 transform-transform-point-kinds.ps transform-transform-point-kinds.r transform-transform-point-reads.Learnt
transform_transform_point κs a z z' e e' p q = p ∙ sym q

pub transform_transform_vector : OneAnswer 0 transform-transform-vector-kinds.ps transform-transform-vector-kinds.r transform-transform-vector-reads.Learnt
transform_transform_vector κs a z z' e e' p q = p ∙ sym q

pub bounds_new : OneAnswer 0 bounds-new-kinds.ps bounds-new-kinds.r bounds-new-reads.Learnt
bounds_new κs a z z' e e' p q = p ∙ sym q

pub bounds_of : OneAnswer 0 bounds-of-kinds.ps bounds-of-kinds.r bounds-of-reads.Learnt
bounds_of κs a z z' e e' p q = p ∙ sym q

pub bounds_add : OneAnswer 0 bounds-add-kinds.ps bounds-add-kinds.r bounds-add-reads.Learnt
bounds_add κs a z z' e e' p q = p ∙ sym q

pub bounds_is_empty : OneAnswer 0 bounds-is-empty-kinds.ps bounds-is-empty-kinds.r bounds-is-empty-reads.Learnt
bounds_is_empty κs a z z' e e' p q = p ∙ sym q

pub bounds_width : OneAnswer 0 bounds-width-kinds.ps bounds-width-kinds.r bounds-width-reads.Learnt
bounds_width κs a z z' e e' p q = p ∙ sym q

pub bounds_height : OneAnswer 0 bounds-height-kinds.ps bounds-height-kinds.r bounds-height-reads.Learnt
bounds_height κs a z z' e e' p q = p ∙ sym q

pub bounds_contains : OneAnswer 0 bounds-contains-kinds.ps bounds-contains-kinds.r bounds-contains-reads.Learnt
bounds_contains κs a z z' e e' p q = p ∙ sym q

pub placement_compute : OneAnswer 0 placement-compute-kinds.ps placement-compute-kinds.r placement-compute-reads.Learnt
placement_compute κs a z z' e e' p q = p ∙ sym q

-- ---- command
pub verb_try_from : OneAnswer 0 verb-try-from-kinds.ps verb-try-from-kinds.r verb-try-from-reads.Learnt
verb_try_from κs a z z' e e' p q = one_answer _ z z' p q

pub command_verb : OneAnswer 0 command-verb-kinds.ps command-verb-kinds.r command-verb-reads.Learnt
command_verb κs a z z' e e' p q = p ∙ sym q

pub command_is_move : OneAnswer 0 command-is-move-kinds.ps command-is-move-kinds.r command-is-move-reads.Learnt
command_is_move κs a z z' e e' p q = p ∙ sym q

pub command_is_close : OneAnswer 0 command-is-close-kinds.ps command-is-close-kinds.r command-is-close-reads.Learnt
command_is_close κs a z z' e e' p q = p ∙ sym q

pub command_draws : OneAnswer 0 command-draws-kinds.ps command-draws-kinds.r command-draws-reads.Learnt
command_draws κs a z z' e e' p q = p ∙ sym q

pub command_transform : OneAnswer 0 command-transform-kinds.ps command-transform-kinds.r command-transform-reads.Learnt
command_transform κs a z z' e e' p q = p ∙ sym q

-- ---- float
pub from_bytes : OneAnswer 0 from-bytes-kinds.ps from-bytes-kinds.r from-bytes-reads.Learnt
from_bytes κs a z z' e e' p q = p ∙ sym q

pub is_finite : OneAnswer 0 is-finite-kinds.ps is-finite-kinds.r is-finite-reads.Learnt
is_finite κs a z z' e e' p q = p ∙ sym q

pub cut_float : OneAnswer 0 cut-float-kinds.ps cut-float-kinds.r cut-float-reads.Learnt
cut_float κs a z z' e e' p q = p ∙ sym q

pub floor : OneAnswer 0 floor-kinds.ps floor-kinds.r floor-reads.Learnt
floor κs a z z' e e' p q = p ∙ sym q

pub ceil : OneAnswer 0 ceil-kinds.ps ceil-kinds.r ceil-reads.Learnt
ceil κs a z z' e e' p q = p ∙ sym q

-- ---- fixed
pub to_fixed_is : OneAnswer 0 to-fixed-kinds.ps to-fixed-kinds.r to-fixed-reads.Learnt
to_fixed_is κs a z z' e e' p q = p ∙ sym q

pub from_point : OneAnswer 0 from-point-kinds.ps from-point-kinds.r from-point-reads.Learnt
from_point κs a z z' e e' p q = p ∙ sym q

pub trunc : OneAnswer 0 trunc-kinds.ps trunc-kinds.r trunc-reads.Learnt
trunc κs a z z' e e' p q = p ∙ sym q

pub fract : OneAnswer 0 fract-kinds.ps fract-kinds.r fract-reads.Learnt
fract κs a z z' e e' p q = p ∙ sym q

pub split_quad_is : OneAnswer 0 split-quad-kinds.ps split-quad-kinds.r split-quad-reads.Learnt
split_quad_is κs a z z' e e' p q = p ∙ sym q

pub split_cubic_is : OneAnswer 0 split-cubic-kinds.ps split-cubic-kinds.r split-cubic-reads.Learnt
split_cubic_is κs a z z' e e' p q = p ∙ sym q

-- ---- sweep
pub coverage : OneAnswer 0 coverage-kinds.ps coverage-kinds.r coverage-reads.Learnt
coverage κs a z z' e e' p q = p ∙ sym q
