-- Counted first, so that nothing is painted where a band does not fit; the words are wiped either way.
use mathlib.Core.Path.{◌≡◌, sym, ◌∙◌}
use native.Mathlib.Omega.{arith}
use lib.ListN.{length}
use Rattle.bands.proofs.Whole.{tellable, inked_kept, inked_painted}
use Rattle.bands.proofs.ink.Goals as goal
use Rattle.bands.proofs.ink.Goals.{then-is_ok, else-is_ok}

pub told-requires : goal.told-requires
told-requires c =
    tellable _ _ _ _ _ c.requires.few_bytes c.count-cells.ensures

pub returns : goal.returns
returns c =
    let same : length c.count-cells.new.words ≡ length c.args.words.now = omega (arith, c.count-cells.auto.words) in
    let long : length c.if-is_ok.words ≡ length c.args.words.now = omega (arith, c.if-is_ok.auto.words, same) in
    let is = sym c.is_ok.ensures.value in
    rw c.told.ensures
    (elim c.if-is_ok.branch [
      | then-is_ok w ↦ inked_painted _ _ _ _ _ _ _ _ _ c.wipe.ensures long _ c.count-cells.ensures (is ∙ w.if-is_ok.true) _ (rw (same, ← w.mask-is) at w.paint.ensures)
      | else-is_ok w ↦ rw w.mask-is (inked_kept _ _ _ _ _ _ _ _ _ c.wipe.ensures long _ c.count-cells.ensures (is ∙ w.if-is_ok.false))
    ])
