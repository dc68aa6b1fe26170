-- The bytes so far are the same.
use Rattle.std.proofs.Common.{◌≡◌, ℕ, ◌<◌, get_or}
use Rattle.replay.specs.Reading.{onward}
use Rattle.replay.proofs.Cursor.has_bytes.Given as goal

abbrev pub invariant-loop-i : goal.invariant-loop-i
invariant-loop-i l = (k : ℕ) → k < l.i → get_or l.mask k 0 ≡ get_or l.self.bytes.now (onward l.self.at k) 0
