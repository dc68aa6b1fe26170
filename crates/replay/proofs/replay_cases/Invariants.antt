-- The cases so far are counted, and none differs where each agrees.
use Rattle.std.proofs.Common.{◌≡◌, ◌↔◌, ℕ, ◌+◌, ◌<◌, ◌≤◌, length}
use Rattle.replay.specs.Agreeing.{accepted_of, nth, answered}
use Rattle.replay.proofs.replay_cases.Given as goal

abbrev pub invariant-loop-case : goal.invariant-loop-case
invariant-loop-case g l = record {
  here : l.at ≡ nth (g.C.Case.next_of l.first.bytes.now) l.first.at l._case;
  accepted : l.accepted ≡ accepted_of (answered (g.C.Case.number_of l.first.bytes.now) (g.C.Case.next_of l.first.bytes.now) l.first.at) l._case;
  counted : l.accepted + l.refused ≡ l._case;
  few : l.differ ≤ l._case;
  agreed : (l.differ ≡ 0) ↔ ((k : ℕ) → k < l._case → g.C.Case.Agrees l.first.bytes.now (nth (g.C.Case.next_of l.first.bytes.now) l.first.at k) (length l.fn.mask) (length l.fn.words));
}
