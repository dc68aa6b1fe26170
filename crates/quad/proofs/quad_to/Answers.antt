use Prim.Native.Nat.{ℕ, ◌^◌}
use mathlib.Core.Path.{sym, ap, ◌∙◌}
use native.Mathlib.Omega.{arith}
use Rattle.pen.proofs.Adding.{drew_none}
use mathlib.Core.Path.{◌≡◌}
use mathlib.Core.List.{[]}
use Rattle.quad.specs.Quads.{doublings, quad_marks}
use Rattle.quad.proofs.Skipping.{past_marks, ahead_marks, drawn_marks}
use Rattle.quad.proofs.Stack.{never_full, few_left, some_left, room, popped}
use Rattle.quad.proofs.Drawing.{going, halving, finished, onward}
use Rattle.quad.proofs.quad_to.Goals as goal
use Rattle.quad.proofs.quad_to.Goals.{then-all_past-via-then-all_past, then-all_past-via-else-all_past+then-all_ahead}

pub returns-then-all_past : goal.returns-then-all_past
returns-then-all_past c =
    let p = c.args in
    let e = c.all_past.ensures in
    let none : quad_marks p.board.frame p.quad.a p.quad.c p.quad.b ≡ [] =
    elim c.then-all_past.branch [
      | then-all_past-via-then-all_past w ↦ past_marks p.board.frame p.quad.a p.quad.c p.quad.b (sym e ∙ w.if-all_past.true)
      | then-all_past-via-else-all_past+then-all_ahead w ↦ ahead_marks p.board.frame p.quad.a p.quad.c p.quad.b (sym e ∙ w.if-all_past.false) (sym w.all_ahead.ensures ∙ w.if-all_ahead.true)
    ]
    in
    rw none (drew_none p.board c.requires.within)

pub loop-rest-init : goal.loop-rest-init
loop-rest-init c =
    let q = c.args.quad in
    going _ _ _ q.a q.c q.b _ c.requires.within q.reach_a q.reach_c q.reach_b (c.lines_of-draw.ensures ∙ ap (λ (d : ℕ). 2 ^ doublings 16 d) c.bend_of.ensures)

pub halve-arc-requires : goal.halve-arc-requires
halve-arc-requires c = omega (arith, room c.loop-rest.invariant.stack c.if-rest-eq0.true)

pub overflow_add-top : goal.overflow_add-top
overflow_add-top c = omega (arith, room c.loop-rest.invariant.stack c.if-rest-eq0.true)

pub loop-rest-preserved-then-rest-eq0 : goal.loop-rest-preserved-then-rest-eq0
loop-rest-preserved-then-rest-eq0 c = halving c.loop-rest.invariant c.if-rest-eq0.true c.halve-arc.ensures

pub offset_bounds-arc-top : goal.offset_bounds-arc-top
offset_bounds-arc-top c = omega (arith, never_full c.loop-rest.invariant.stack)

pub bounds-arc-top : goal.bounds-arc-top
bounds-arc-top c = omega (arith, never_full c.loop-rest.invariant.stack)

pub returns-then-draw-eq0 : goal.returns-then-draw-eq0
returns-then-draw-eq0 c =
    let p = c.args in
    rw (drawn_marks p.board.frame p.quad.a p.quad.c p.quad.b (sym c.all_past.ensures ∙ c.if-all_past.false) (sym c.all_ahead.ensures ∙ c.if-all_ahead.false))
    (finished c.loop-rest.invariant c.if-rest-eq0.false c.line_to-drawn.ensures c.if-draw-eq0.true)

pub overflow_sub-top : goal.overflow_sub-top
overflow_sub-top c =
    omega (arith, (popped c.loop-rest.invariant.stack c.if-rest-eq0.false).low_enough c.if-draw-eq0.false)

pub loop-rest-smaller : goal.loop-rest-smaller
loop-rest-smaller c =
    let s = c.loop-rest.invariant.stack in
    omega (arith, some_left s, few_left s)

pub loop-rest-preserved : goal.loop-rest-preserved
loop-rest-preserved c =
    onward c.loop-rest.invariant c.if-rest-eq0.false c.line_to-drawn.ensures c.if-draw-eq0.false
