-- The bands are painted one after the other, each into its part of the mask.
use Rattle.std.proofs.Common.{◌≡◌, length}
use Rattle.std.specs.NonZero.{non_zero_usize_get}
use Rattle.bands.proofs.Painting.{Painting}
use Rattle.bands.proofs.paint.Given as goal

abbrev pub invariant-loop-band : goal.invariant-loop-band
invariant-loop-band l =
    (goal.iterator-loop-band).can_next l.band-iterator ×
    (goal.iterator-loop-band).is_finite l.band-iterator ×
    (l.band-iterator.whole ≡ l.l) ×
    (l.band-iterator.step ≡ l.fn.step) ×
    (length l.words ≡ length l.initial.words) ×
    Painting l.l.label (non_zero_usize_get l.fn.step) l.list (length l.initial.words) l.initial.mask l.mask l.band-iterator.at
