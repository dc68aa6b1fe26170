-- What the iterator gave is a record that is read, the end, or a reason to refuse, which an accepted list does not have: `Tracking` has a law for each.
use mathlib.Core.Path.{refl, ap, ◌∙◌}
use Rattle.std.specs.Result.{result_ok}
use Rattle.std.proofs.lemmas.Result.{err_from_is_err_and}
use Rattle.list.proofs.Given.{gave_end, gave_fault, gave, same_list}
use Rattle.pen.proofs.Adding.{still_ready}
use Rattle.path.proofs.Tracking.{started, goes_on, stops, traced, untraced}
use Rattle.path.proofs.trace_list.Goals as goal
use Rattle.path.proofs.trace_list.Goals.{in-None, in-Some+in_default}

pub loop-command-init : goal.loop-command-init
loop-command-init c =
    let into = c.into_iter-command-iterator.ensures.into_iter_gives in
    let new = c.new-command-items.ensures in
    let b = c.begin-track.ensures in
    (tt, tt, rw into new.whole, rw (into, new.start) (started _ _ _ _ _ _ b.pen b.at b.start), c.requires)

pub returns-in_err-ok_or : goal.returns-in_err-ok_or
returns-in_err-ok_or c =
    let l = c.loop-command in
    let given = gave l.invariant.2 (rw (c.in-Some.is, c.in-Ok.is) at c.next.ensures.steps) in
    let g = c.ok_or.ensures in
    let k = c.in_err-ok_or.was in
    let full = g.ok_part ∙ ap result_ok k in
    let p = err_from_is_err_and c.from_residual.result c.from_residual.ensures.1 in
    rw (p.1, p.2, ← k, g.value, full)
    (stops _ _ _ _ _ _ l.track _ l.n l.invariant.3 _ _ given _ _ (rw c.stroke.ensures.0 at c.trace-track.ensures) _ refl full)

pub loop-command-preserved : goal.loop-command-preserved
loop-command-preserved c =
    let l = c.loop-command in
    let g = rw (c.in-Some.is, c.in-Ok.is) at c.next.ensures.steps in
    let e = c.stroke.ensures.0 in (
      tt,
      tt,
      same_list l.invariant.2 g,
      goes_on _ _ _ _ _ _ l.track _ l.n l.invariant.3 _ _ (gave l.invariant.2 g) _ _ (rw e at c.trace-track.ensures) _ refl _ (c.ok_or.ensures.ok_part ∙ ap result_ok c.in_ok-ok_or.was),
      still_ready _ l.invariant.4 c.trace-track.ensures.drew.added.same,
    )

pub returns : goal.returns
returns c =
    let l = c.loop-command in
    let within = c.finish.ensures.within in
    let added = c.finish.ensures.added in
    rw c.ok_or-2.ensures.value
    (elim c.match-next.branch [
      | in-None w ↦ traced _ _ _ _ _ _ l.track _ l.n l.invariant.3 _ _ within added (gave_end l.invariant.2 (rw w.in-None.is at c.next.ensures.steps))
      | in-Some+in_default w ↦ untraced _ _ _ _ _ _ l.track _ l.n l.invariant.3 _ _ within added _ (gave_fault l.invariant.2 (rw (w.in-Some.is, w.in_default.is) at c.next.ensures.steps))
    ])
