-- Each band that the iterator cuts off is one more of those that were counted.
use mathlib.Core.Path.{refl, ◌∙◌}
use native.Mathlib.Omega.{arith}
use Rattle.std.proofs.lemmas.Result.{err_from_is_err_and}
use Rattle.bands.proofs.Counting.{counting_none, counting_more, counted_all, counted_full}
use Rattle.bands.proofs.count.Goals as goal

pub loop-band-init : goal.loop-band-init
loop-band-init c =
    let into = c.into_iter-band-iterator.ensures.into_iter_gives in
    let e = c.bands_of-band-items.ensures in
    (tt, tt, rw into e.whole, rw into e.steps, refl, rw (into, e.start) (counting_none c.args.l.label c.args.l.sized _ _ _))

pub returns-in_err-total : goal.returns-in_err-total
returns-in_err-total c =
    let l = c.loop-band in
    let i = l.invariant in
    let b = c.in-Some.ensures.steps in
    let p = err_from_is_err_and c.from_residual.result c.from_residual.ensures.1 in
    rw (p.1, p.2)
    (counted_full c.args.l.label c.args.l.sized _ _ _ c.args.step.ok l.band-iterator.at _ i.5 (rw i.2 at b.left) _ _ _ i.4 (rw (rw i.2 at b.is, rw (i.2, i.3) at b.ends) at c.pour.ensures) _ c.in_err-total.was)

pub loop-band-preserved : goal.loop-band-preserved
loop-band-preserved c =
    let l = c.loop-band in
    let i = l.invariant in
    let b = c.in-Some.ensures.steps in
    let ends = rw (i.2, i.3) at b.ends in (
      tt,
      tt,
      b.whole ∙ i.2,
      b.step ∙ i.3,
      c.pour.ensures.same ∙ i.4,
      rw ends (counting_more c.args.l.label c.args.l.sized _ _ _ c.args.step.ok l.band-iterator.at _ i.5 (rw i.2 at b.left) _ _ _ i.4 (rw (rw i.2 at b.is, ends) at c.pour.ensures) _ c.in_ok-total.was),
    )

pub returns : goal.returns
returns c =
    let i = c.loop-band.invariant in
    let past = rw i.2 at c.in-None.ensures.steps in
    counted_all c.args.l.label c.args.l.sized _ _ _ _ _ i.5 (omega arith)
