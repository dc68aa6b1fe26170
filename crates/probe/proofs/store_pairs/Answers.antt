use mathlib.Core.Path.{refl, ◌∙◌}
use Rattle.probe.proofs.Stores.{started, goes_on, full, stored}
use Rattle.probe.proofs.store_pairs.Goals as goal

pub loop-p-init : goal.loop-p-init
loop-p-init c =
    let k = c.chunks_exact-p-items.ensures in
    rw (c.into_iter-p-iterator.ensures.into_iter_gives, k.rest, k.size) (started _ _ _ _ _ c.args.sizes.used, refl)

pub loop-p-preserved : goal.loop-p-preserved
loop-p-preserved c =
    let i = c.loop-p.invariant in
    let k = c.in-Some.ensures.steps in
    (goes_on _ _ _ _ _ i.0 _ _ (k.1.1 ∙ i.1) k.1.0 c.store_pair.ensures _ c.in_ok-count.was, k.0 ∙ i.1)

pub returns-in_err-count : goal.returns-in_err-count
returns-in_err-count c =
    let i = c.loop-p.invariant in
    let k = c.in-Some.ensures.steps in
    rw c.from_residual.ensures
    (full _ _ _ _ _ i.0 _ _ (k.1.1 ∙ i.1) k.1.0 c.store_pair.ensures c.in_err-count.was)

pub returns : goal.returns
returns c =
    let i = c.loop-p.invariant in
    stored _ _ _ _ _ i.0 (rw i.1 at c.in-None.ensures.steps.1.0)
