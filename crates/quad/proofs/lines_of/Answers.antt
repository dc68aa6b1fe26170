use native.Mathlib.Omega.{arith}
use Rattle.quad.proofs.Doubling.{begun, doubled, done, few}
use Rattle.quad.proofs.lines_of.Goals as goal

pub loop-d-init : goal.loop-d-init
loop-d-init c = begun c.args.bend c.ranges.bend.fits

pub overflow_mul-n : goal.overflow_mul-n
overflow_mul-n c = omega (arith, few c.ranges.bend.fits c.loop-d.invariant)

pub loop-d-preserved : goal.loop-d-preserved
loop-d-preserved c = doubled c.loop-d.invariant c.loop-d-test.true

pub returns : goal.returns
returns c = done c.loop-d.invariant c.loop-d-test.false
