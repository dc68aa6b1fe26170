-- The loop keeps the box so far and the numbers that are left.
use Rattle.std.proofs.Common.{◌≡◌}
use Rattle.std.specs.Slice.Iter.{chunks_exact_rest, chunks_exact_size}
use Rattle.probe.proofs.Pairs.{Going}
use Rattle.probe.proofs.mz_probe_box.Given as goal

abbrev pub invariant-loop-p : goal.invariant-loop-p
invariant-loop-p l = Going l.points l.around (chunks_exact_rest l.p-iterator) × (chunks_exact_size l.p-iterator ≡ 2)
