use mathlib.Core.Path.{sym, ◌∙◌}
use native.Mathlib.Omega.{arith}
use Rattle.cubic.proofs.Going.{going_started, going_split, going_drawn, going_done, split_less, drawn_less, room}
use Rattle.cubic.proofs.flatten.Goals as goal

pub loop-arc-init : goal.loop-arc-init
loop-arc-init c =
    let k = c.args.cubic in
    going_started _ _ _ _ k.reach_a k.reach_c k.reach_d k.reach_b _ _ _ c.requires.within

pub returns-then-top-gt-PLACES : goal.returns-then-top-gt-PLACES
returns-then-top-gt-PLACES c =
    let s = c.loop-arc in
    absurd (omega (arith, room s.arc s.top s.invariant.standing (sym c.is_curved.ensures ∙ c.if-is_curved.true), c.if-top-gt-PLACES.true))

pub loop-arc-smaller-then-is_curved : goal.loop-arc-smaller-then-is_curved
loop-arc-smaller-then-is_curved c =
    let s = c.loop-arc in
    split_less s.arc s.top s.invariant.standing (sym c.is_curved.ensures ∙ c.if-is_curved.true) c.split_cubic-seven.result c.split_cubic-seven.ensures

pub loop-arc-preserved-then-is_curved : goal.loop-arc-preserved-then-is_curved
loop-arc-preserved-then-is_curved c =
    let s = c.loop-arc in
    going_split _ _ _ _ s.ws s.arc s.top s.pen s.from s.invariant c.split_cubic-seven.result (sym c.is_curved.ensures ∙ c.if-is_curved.true)
    c.split_cubic-seven.ensures

pub returns-then-top-eq0 : goal.returns-then-top-eq0
returns-then-top-eq0 c =
    let s = c.loop-arc in
    going_done _ _ _ _ s.ws s.arc s.top s.pen s.from s.invariant _ _ (sym c.is_curved.ensures ∙ c.if-is_curved.false) c.line_to-pen.ensures
    c.if-top-eq0.true

pub loop-arc-smaller : goal.loop-arc-smaller
loop-arc-smaller c =
    let s = c.loop-arc in
    drawn_less s.arc s.top s.invariant.standing (sym c.is_curved.ensures ∙ c.if-is_curved.false) (omega arith)

pub loop-arc-preserved : goal.loop-arc-preserved
loop-arc-preserved c =
    let s = c.loop-arc in
    going_drawn _ _ _ _ s.ws s.arc s.top s.pen s.from s.invariant _ _ (sym c.is_curved.ensures ∙ c.if-is_curved.false) c.line_to-pen.ensures
    (omega arith)
