-- `geometry::Placement::compute` meets its contract: the two spans of the shifted box say where the mask lies (`proofs/Sides.antt`); where one is beyond, the box is outside.
-- Assumes nothing.
use mathlib.Core.Path.{◌≡◌, sym, ap, ◌∙◌}
use Prim.Native.Nat.{◌^◌, ◌<◌}
use native.Mathlib.Omega.{arith}
use lib.IntN.{ℤ}
use lib.Signed.{mag}
use mir.Syntax.{w32}
use mir.Val.{to_z, of_z}
use mir.Facts.{to_z-of_z}
use Rattle.geometry.specs.declared.Point.{Point}
use Rattle.geometry.specs.declared.Origin.{Origin}
use Rattle.geometry.specs.Placing.{placed_between}
use Rattle.geometry.proofs.Sides.{Spans, spans, beyond, raised_low, placed_at, x_outside, y_outside}
use Rattle.geometry.proofs.Placement.compute.Goals as goal

shifting : (o : Origin) (a b p q : Point) → a ≡ p → b ≡ q → placed_between o a b ≡ placed_between o p q
shifting o a b p q h k = ap (λ (x : Point). placed_between o x b) h ∙ ap (placed_between o p) k

read : {z y : ℤ} → mag z < 2 ^ 31 → z ≡ y → to_z w32 (of_z w32 z) ≡ y
read {z} {y} h p = to_z-of_z {w = w32} {z = z} (record { sfits = h }) ∙ p

pub returns-in_err-across : goal.returns-in_err-across
returns-in_err-across c =
    let o = c.args.origin in
    c.from_residual.ensures
    ∙ x_outside o c.plus-min.result c.plus-max.result (beyond _ _ (sym c.span_of.ensures ∙ c.in_err-across.was))
    ∙ shifting o _ _ _ _ c.plus-min.ensures c.plus-max.ensures

pub returns-in_err-upright : goal.returns-in_err-upright
returns-in_err-upright c =
    let o = c.args.origin in
    c.from_residual-in_err-upright.ensures
    ∙ y_outside o c.plus-min.result c.plus-max.result (beyond _ _ (sym c.span_of-2.ensures ∙ c.in_err-upright.was))
    ∙ shifting o _ _ _ _ c.plus-min.ensures c.plus-max.ensures

pub own_value-requires : goal.own_value-requires
own_value-requires c =
    let across : Spans c.plus-min.result.x c.plus-max.result.x c.in_ok-across.across = spans _ _ _ (sym c.span_of.ensures ∙ c.in_ok-across.was) in
    omega (arith, across.low)

pub top_of-requires : goal.top_of-requires
top_of-requires c =
    let upright : Spans c.plus-min.result.y c.plus-max.result.y c.in_ok-upright.upright = spans _ _ _ (sym c.span_of-2.ensures ∙ c.in_ok-upright.was) in
    omega (arith, upright.low, upright.short)

pub own_value-requires-2 : goal.own_value-requires-2
own_value-requires-2 c =
    let upright : Spans c.plus-min.result.y c.plus-max.result.y c.in_ok-upright.upright = spans _ _ _ (sym c.span_of-2.ensures ∙ c.in_ok-upright.was) in
    raised_low c.args.origin _ _ _ c.top_of.ensures upright.low upright.short

pub returns : goal.returns
returns c =
    let o = c.args.origin in
    let across : Spans c.plus-min.result.x c.plus-max.result.x c.in_ok-across.across = spans _ _ _ (sym c.span_of.ensures ∙ c.in_ok-across.was) in
    let upright : Spans c.plus-min.result.y c.plus-max.result.y c.in_ok-upright.upright = spans _ _ _ (sym c.span_of-2.ensures ∙ c.in_ok-upright.was) in
    let left = read c.own_value.type_inv c.own_value.ensures in
    let top = read c.own_value-2.type_inv c.own_value-2.ensures in
    placed_at o c.plus-min.result c.plus-max.result _ _ _ _ _ _ _ across upright c.floor.ensures c.floor-2.ensures left c.top_of.ensures top
    ∙ shifting o _ _ _ _ c.plus-min.ensures c.plus-max.ensures
