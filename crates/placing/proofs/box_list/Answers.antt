use Rattle.list.proofs.Given.{gave_end, gave_fault, gave, same_list}
use Rattle.placing.proofs.Growing.{started, goes_on, ended, turned}
use Rattle.placing.proofs.box_list.Goals as goal

pub loop-command-init : goal.loop-command-init
loop-command-init c = (
  tt,
  tt,
  rw c.into_iter-command-iterator.ensures.into_iter_gives c.new-command-items.ensures.whole,
  rw (c.into_iter-command-iterator.ensures.into_iter_gives, c.new-command-items.ensures.start) (started _ _ _ c.start_box-b.ensures),
)

pub returns-in_default : goal.returns-in_default
returns-in_default c =
    let l = c.loop-command in
    turned _ _ l.b _ l.invariant.3 _ (gave_fault l.invariant.2 (rw (c.in-Some.is, c.in_default.is) at c.next.ensures.steps))

pub loop-command-preserved : goal.loop-command-preserved
loop-command-preserved c =
    let l = c.loop-command in
    let g = rw (c.in-Some.is, c.in-Ok.is) at c.next.ensures.steps in
    (tt, tt, same_list l.invariant.2 g, goes_on _ _ l.b _ l.invariant.3 _ _ (gave l.invariant.2 g) _ c.grow-b.ensures)

pub returns : goal.returns
returns c =
    let l = c.loop-command in
    ended _ _ l.b _ l.invariant.3 (gave_end l.invariant.2 (rw c.in-None.is at c.next.ensures.steps))
