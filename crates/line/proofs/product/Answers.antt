-- p there is held in natural numbers.
use native.Mathlib.Omega.{arith}
use Rattle.line.proofs.Begun.{begun_line}
use Rattle.line.proofs.product.Goals as goal

pub returns : goal.returns
returns c =
    let u = begun_line c.args.slope.ends _ c.args.slope.rated.small c.args.slope.slanted (omega arith) in
    record { under = u.0; exact = u.1 }
