use Prim.Native.Nat.{◌-◌}
use mathlib.Core.Path.{refl, sym, ap, ◌∙◌}
use native.Mathlib.Omega.{arith}
use lib.ListN.{length, drop, length-drop}
use lib.Ieee.{nan}
use Rattle.std.proofs.lemmas.List.{take_all}
use Rattle.paper.proofs.Placing.{box_of_is}
use Rattle.probe.specs.Probes.{box_in_c}
use Rattle.probe.proofs.Pairs.{none, started, goes_on, done}
use Rattle.probe.proofs.mz_probe_box.Goals as goal

pub returns-then-points-lt2 : goal.returns-then-points-lt2
returns-then-points-lt2 c = rw (c.from.ensures, c.of.ensures, c.new.ensures) (ap box_in_c (none _ c.if-points-lt2.true ∙ sym (box_of_is _)))

pub loop-p-init : goal.loop-p-init
loop-p-init c =
    let k = c.chunks_exact-p-items.ensures in
    let ps = c.args.points.now in
    let whole = take_all (length ps - 2) (drop 2 ps) (simp length-drop (omega arith)) in
    rw (c.into_iter-p-iterator.ensures.into_iter_gives, k.rest, k.size, whole)
    (started _ _ _ c.if-points-lt2.false (rw c.new-2.ensures at c.of-around.ensures), refl)

pub loop-p-preserved : goal.loop-p-preserved
loop-p-preserved c =
    let i = c.loop-p.invariant in
    let k = c.in-Some.ensures.steps in
    (goes_on _ _ i.0 _ _ _ (k.1.1 ∙ i.1) k.1.0 (rw c.new-in-loop-p.ensures at c.add-around.ensures), k.0 ∙ i.1)

pub returns : goal.returns
returns c =
    let i = c.loop-p.invariant in
    let k = c.in-None.ensures.steps in
    c.from-2.ensures ∙ ap box_in_c (done _ nan i.0 (rw i.1 at k.1.0) ∙ sym (box_of_is _))
