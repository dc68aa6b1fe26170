use Rattle.storage.proofs.Walk.{far, done, past, back, go_on}
use Rattle.storage.proofs.walk_on.Goals as goal

pub returns-then-sizes-next : goal.returns-then-sizes-next
returns-then-sizes-next c =
    far c.requires.1 c.requires.2 c.loop-next.invariant c.if-sizes-next.true

pub returns-then-here-low : goal.returns-then-here-low
returns-then-here-low c =
    back c.requires.1 c.requires.2 c.loop-next.invariant c.loop-next-test.true c.word-here.ensures c.if-here-low.true

pub returns-then-place-here : goal.returns-then-place-here
returns-then-place-here c =
    past c.requires.1 c.requires.2 c.loop-next.invariant c.loop-next-test.true c.word-here.ensures c.if-place-here.true

pub loop-next-preserved : goal.loop-next-preserved
loop-next-preserved c =
    go_on c.requires.1 c.requires.2 c.loop-next.invariant c.loop-next-test.true c.word-here.ensures c.if-sizes-next.false c.if-place-here.false c.next_in-next-in-loop-next.ensures

pub returns : goal.returns
returns c =
    done c.requires.1 c.requires.2 c.loop-next.invariant c.loop-next-test.false
