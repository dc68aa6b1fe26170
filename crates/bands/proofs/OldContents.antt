-- Old contents have no say in a drawing in bands either.
use Prim.Native.Nat.{ℕ, max}
use Rattle.claims.specs.OldContents.{WordsAfter, MasksAfter, OldWords, OldMask}
use Rattle.claims.proofs.WordsAfter.{words_after_by}
use Rattle.claims.proofs.OldWords.{old_words_by}
use Rattle.claims.proofs.OldMask.{masks_after_by, old_mask_by}
use Rattle.bands.specs.InBands.{ran_out_in_band, draw_in_bands_of}

module _ (step : ℕ) where
  pub words_after_is : WordsAfter (draw_in_bands_of step)
  unfolding draw_in_bands_of
  words_after_is = words_after_by (ran_out_in_band (max 1 step))

  pub masks_after : MasksAfter (draw_in_bands_of step)
  unfolding draw_in_bands_of
  masks_after = masks_after_by (ran_out_in_band (max 1 step))

  pub old_words_is : OldWords (draw_in_bands_of step)
  unfolding draw_in_bands_of
  old_words_is = old_words_by (ran_out_in_band (max 1 step))

  pub old_mask_is : OldMask (draw_in_bands_of step)
  unfolding draw_in_bands_of
  old_mask_is = old_mask_by (ran_out_in_band (max 1 step))
