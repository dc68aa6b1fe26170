-- By the side through which the line leaves: the law of the course says that the way is free, and `stepped_..` that the numbers are the rules'.
use mathlib.Core.Path.{sym, ◌∙◌}
use native.Mathlib.Omega.{arith}
use Rattle.line.specs.declared.Side.TheVariants.{Left, Next, Right, Previous}
use Rattle.line.specs.Course.{B}
use Rattle.line.proofs.Course.{Moved, leaves}
use Rattle.line.proofs.Turning.{cross_fits, next_below, next_small, right_above, right_small, stepped_left, stepped_next, stepped_right, stepped_previous}
use Rattle.line.proofs.step.Goals as goal
use Rattle.line.proofs.step.Goals.{In-Left, In-Next, In-Right, In-Previous}

-- the way is free through the side by which the line leaves
left : (c : In-Left) → Moved c.args.slope.ends c.args.at.col c.args.at.row c.args.p Left
left c = leaves Left c.args.slope.rated.small c.requires.under c.requires.unfinished c.way_out.ensures c.in-Left.is

next : (c : In-Next) → Moved c.args.slope.ends c.args.at.col c.args.at.row c.args.p Next
next c = leaves Next c.args.slope.rated.small c.requires.under c.requires.unfinished c.way_out.ensures c.in-Next.is

right : (c : In-Right) → Moved c.args.slope.ends c.args.at.col c.args.at.row c.args.p Right
right c = leaves Right c.args.slope.rated.small c.requires.under c.requires.unfinished c.way_out.ensures c.in-Right.is

previous : (c : In-Previous) → Moved c.args.slope.ends c.args.at.col c.args.at.row c.args.p Previous
previous c = leaves Previous c.args.slope.rated.small c.requires.under c.requires.unfinished c.way_out.ensures c.in-Previous.is

pub overflow_sub-p : goal.overflow_sub-p
overflow_sub-p c = (left (goal.at.overflow_sub-p c).In-Left).1.sign

pub crossing-y-requires : goal.crossing-y-requires
crossing-y-requires c =
    let h = cross_fits _ _ _ _ (left (goal.at.crossing-y-requires c).In-Left).1.small c.args.slope.rated.kx in
    omega arith

pub overflow_sub-result : goal.overflow_sub-result
overflow_sub-result c = (left (goal.at.overflow_sub-result c).In-Left).0

pub overflow_sub-q : goal.overflow_sub-q
overflow_sub-q c =
    next_below c.args.p _ _ _ c.shifted-q.ensures (next (goal.at.overflow_sub-q c).In-Next).sign

pub crossing-x-requires : goal.crossing-x-requires
crossing-x-requires c =
    let small = next_small c.args.p _ _ _ _ c.shifted-q.ensures (next (goal.at.crossing-x-requires c).In-Next).small in
    let h = cross_fits B c.shifted-q.result _ _ small c.args.slope.rated.ky in
    omega arith

pub overflow_sub-t : goal.overflow_sub-t
overflow_sub-t c =
    right_above c.args.p _ _ _ c.shifted-t.ensures (right (goal.at.overflow_sub-t c).In-Right).sign

pub crossing-y-requires-in-Right : goal.crossing-y-requires-in-Right
crossing-y-requires-in-Right c =
    let small = right_small c.args.p _ _ _ _ c.shifted-t.ensures (right (goal.at.crossing-y-requires-in-Right c).In-Right).small in
    let h = cross_fits c.shifted-t.result B _ _ small c.args.slope.rated.kx in
    omega arith

pub overflow_sub-p-in-Previous : goal.overflow_sub-p-in-Previous
overflow_sub-p-in-Previous c = (previous (goal.at.overflow_sub-p-in-Previous c).In-Previous).1.sign

pub crossing-x-requires-in-Previous : goal.crossing-x-requires-in-Previous
crossing-x-requires-in-Previous c =
    let h = cross_fits _ _ _ _ (previous (goal.at.crossing-x-requires-in-Previous c).In-Previous).1.small c.args.slope.rated.ky in
    omega arith

pub overflow_sub-result-in-Previous : goal.overflow_sub-result-in-Previous
overflow_sub-result-in-Previous c = (previous (goal.at.overflow_sub-result-in-Previous c).In-Previous).0

pub returns-in-Left : goal.returns-in-Left
returns-in-Left c =
    rw c.shifted-n.ensures
    (stepped_left _ _ _ _ c.args.slope.rated c.requires.under (sym c.way_out.ensures ∙ c.in-Left.is) (left (goal.at.returns-in-Left c).In-Left) _ c.crossing-y.ensures)

pub returns-in-Next : goal.returns-in-Next
returns-in-Next c =
    let h = c.shifted-q.ensures in
    rw h
    (stepped_next _ _ _ _ c.args.slope.rated c.requires.under (sym c.way_out.ensures ∙ c.in-Next.is) (next (goal.at.returns-in-Next c).In-Next) _ (rw h at c.crossing-x.ensures))

pub returns-in-Right : goal.returns-in-Right
returns-in-Right c =
    let h = c.shifted-t.ensures in
    rw h
    (stepped_right _ _ _ _ c.args.slope.rated c.requires.under (sym c.way_out.ensures ∙ c.in-Right.is) (right (goal.at.returns-in-Right c).In-Right) _ (rw h at c.crossing-y-in-Right.ensures))

pub returns-in-Previous : goal.returns-in-Previous
returns-in-Previous c =
    rw c.shifted-n-in-Previous.ensures
    (stepped_previous _ _ _ _ c.args.slope.rated c.requires.under (sym c.way_out.ensures ∙ c.in-Previous.is) (previous (goal.at.returns-in-Previous c).In-Previous) _ c.crossing-x-in-Previous.ensures)
