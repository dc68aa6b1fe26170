use Rattle.std.proofs.Common.{◌∙◌, arith}
use Rattle.sweep.proofs.Sweeps.{begin, more, finish}
use Rattle.sweep.proofs.sweep_row.Goals as goal

pub loop-next-init : goal.loop-next-init
loop-next-init c = rw c.next_in-next.ensures (begin c.requires.inside)

pub loop-next-preserved : goal.loop-next-preserved
loop-next-preserved c =
    more c.requires.inside c.loop-next.invariant c.loop-next-test.true c.word-here.ensures
    c.if-here-start.false c.if-width-column.false
    c.sweep_cell-cover.ensures (omega (arith, c.sweep_cell-cover.auto)) c.next_in-next-in-loop-next.ensures

pub returns : goal.returns
returns c =
    record {
      painted = finish c.requires.inside c.loop-next.invariant c.requires.narrow c.loop-next-test.false c.paint.ensures c.run_byte.ensures;
      kept = λ x h. c.paint.ensures.behind x (omega arith) ∙ c.loop-next.invariant.behind x h;
    }
