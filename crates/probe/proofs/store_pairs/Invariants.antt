-- The loop keeps what is stored and the pairs that are left (`Going`).
use Rattle.std.proofs.Common.{◌≡◌}
use Rattle.std.specs.Slice.Iter.{chunks_exact_rest, chunks_exact_size}
use Rattle.probe.proofs.Stores.{Going}
use Rattle.probe.proofs.store_pairs.Given as goal

abbrev pub invariant-loop-p : goal.invariant-loop-p
invariant-loop-p l = Going l.sizes.rows l.sizes.cap l.sizes.count l.pairs l.initial.words l.words l.count (chunks_exact_rest l.p-iterator) × (chunks_exact_size l.p-iterator ≡ 4)
