-- What differs from itself is a NaN, and what equals itself is none.
use Rattle.std.proofs.Common.{◌≡◌, refl, Bool, true, false, not, T}
use lib.Ieee.{is_nan}
use lib.Ieee.Compare.{differs_from_itself}
use denote.Floats.{passes}
use Rattle.float.proofs.Fields.{no_nan}
use Rattle.replay.proofs.bits_of.Goals as goal

not_true : (b : Bool) → T (not b) → b ≡ false
not_true true h = absurd h
not_true false h = refl

pub float_to_bits-result : goal.float_to_bits-result
float_to_bits-result c = no_nan _ c.if-x.false

pub returns-then-x : goal.returns-then-x
unfolding is_nan
returns-then-x c = rw (differs_from_itself c.args.x (passes _ c.if-x.true))

pub returns : goal.returns
returns c = let h = not_true _ (no_nan c.args.x c.if-x.false) in rw h
