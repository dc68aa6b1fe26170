-- The bands are counted one after the other, until one does not fit.
use Rattle.std.proofs.Common.{◌≡◌, length}
use Rattle.std.specs.NonZero.{non_zero_usize_get}
use Rattle.bands.proofs.Counting.{Counting}
use Rattle.bands.proofs.count.Given as goal

abbrev pub invariant-loop-band : goal.invariant-loop-band
invariant-loop-band l =
    (goal.iterator-loop-band).can_next l.band-iterator ×
    (goal.iterator-loop-band).is_finite l.band-iterator ×
    (l.band-iterator.whole ≡ l.fn.l) ×
    (l.band-iterator.step ≡ l.fn.step) ×
    (length l.words ≡ length l.initial.words) ×
    Counting l.fn.l.label (non_zero_usize_get l.fn.step) l.list (length l.initial.words) l.band-iterator.at l.total
