-- No two outcomes satisfy a promise of the C face.
use Prim.Native.Nat.{ℕ}
use mathlib.Core.Path.{◌≡◌, sym, ap, ◌∙◌}
use mathlib.Core.List.{List}
use contract.Lifetimes.{Lfts}
use denote.Triple.Clauses.{AtExit}
use borrow.Fn.Kinds.{Dens, res_t, ended_of}
use Rattle.label.specs.declared.Numbers.{Numbers}
use Rattle.paper.specs.Drawing.{Outcome, left}
use Rattle.claims.proofs.OneOutcome.{OneAnswer}
use Rattle.mosszephyr.proofs.mz_draw.Kinds as mz-draw-kinds
use Rattle.mosszephyr.proofs.mz_draw.Reads as mz-draw-reads
use Rattle.mosszephyr.proofs.mz_draw_in_bands.Kinds as mz-draw-in-bands-kinds
use Rattle.mosszephyr.proofs.mz_draw_in_bands.Reads as mz-draw-in-bands-reads
use Rattle.mosszephyr.proofs.mz_bounds.Kinds as mz-bounds-kinds
use Rattle.mosszephyr.proofs.mz_bounds.Reads as mz-bounds-reads
use Rattle.mosszephyr.proofs.mz_placement.Kinds as mz-placement-kinds
use Rattle.mosszephyr.proofs.mz_placement.Reads as mz-placement-reads
use Rattle.mosszephyr.proofs.mz_identity.Kinds as mz-identity-kinds
use Rattle.mosszephyr.proofs.mz_identity.Reads as mz-identity-reads
use Rattle.mosszephyr.proofs.mz_translation.Kinds as mz-translation-kinds
use Rattle.mosszephyr.proofs.mz_translation.Reads as mz-translation-reads
use Rattle.mosszephyr.proofs.mz_scale.Kinds as mz-scale-kinds
use Rattle.mosszephyr.proofs.mz_scale.Reads as mz-scale-reads
use Rattle.mosszephyr.proofs.mz_label.Kinds as mz-label-kinds
use Rattle.mosszephyr.proofs.mz_label.Reads as mz-label-reads
use Rattle.mosszephyr.proofs.mz_then_scale.Kinds as mz-then-scale-kinds
use Rattle.mosszephyr.proofs.mz_then_scale.Reads as mz-then-scale-reads
use Rattle.mosszephyr.proofs.mz_then_translate.Kinds as mz-then-translate-kinds
use Rattle.mosszephyr.proofs.mz_then_translate.Reads as mz-then-translate-reads
use Rattle.mosszephyr.proofs.mz_then.Kinds as mz-then-kinds
use Rattle.mosszephyr.proofs.mz_then.Reads as mz-then-reads
use Rattle.mosszephyr.proofs.mz_pre_scale.Kinds as mz-pre-scale-kinds
use Rattle.mosszephyr.proofs.mz_pre_scale.Reads as mz-pre-scale-reads
use Rattle.mosszephyr.proofs.mz_pre_translate.Kinds as mz-pre-translate-kinds
use Rattle.mosszephyr.proofs.mz_pre_translate.Reads as mz-pre-translate-reads
use Rattle.mosszephyr.proofs.mz_transform_point.Kinds as mz-transform-point-kinds
use Rattle.mosszephyr.proofs.mz_transform_point.Reads as mz-transform-point-reads
use Rattle.mosszephyr.proofs.mz_transform_vector.Kinds as mz-transform-vector-kinds
use Rattle.mosszephyr.proofs.mz_transform_vector.Reads as mz-transform-vector-reads

-- ---- drawings: the numbers, the mask and the words afterwards
same : {o : Outcome} {mask mask' words words' : List ℕ} {r r' : Numbers} → left r mask words ≡ o → left r' mask' words' ≡ o
    → (r ≡ r') × (mask ≡ mask') × (words ≡ words')
same p q =
    let e = p ∙ sym q in
    (ap (λ (x : Outcome). x.answer) e, ap (λ (x : Outcome). x.mask) e, ap (λ (x : Outcome). x.words) e)

pub mz_draw : (κs : Lfts 3) (a : Dens κs mz-draw-kinds.ps) (z z' : (res_t mz-draw-kinds.r κs).Denot) (e e' : AtExit (ended_of 3 mz-draw-kinds.ps mz-draw-kinds.r) κs)
    → mz-draw-reads.Learnt κs a z e → mz-draw-reads.Learnt κs a z' e'
    → (z ≡ z') × (e.1.1.0.now ≡ e'.1.1.0.now) × (e.1.1.1.0.now ≡ e'.1.1.1.0.now)
mz_draw κs a z z' e e' p q = same p q

pub mz_draw_in_bands : (κs : Lfts 3) (a : Dens κs mz-draw-in-bands-kinds.ps) (z z' : (res_t mz-draw-in-bands-kinds.r κs).Denot) (e e' : AtExit (ended_of 3 mz-draw-in-bands-kinds.ps mz-draw-in-bands-kinds.r) κs)
    → mz-draw-in-bands-reads.Learnt κs a z e → mz-draw-in-bands-reads.Learnt κs a z' e'
    → (z ≡ z') × (e.1.1.1.0.now ≡ e'.1.1.1.0.now) × (e.1.1.1.1.0.now ≡ e'.1.1.1.1.0.now)
mz_draw_in_bands κs a z z' e e' p q = same p q

-- ---- answers alone
pub mz_bounds : OneAnswer 1 mz-bounds-kinds.ps mz-bounds-kinds.r mz-bounds-reads.Learnt
mz_bounds κs a z z' e e' p q = p ∙ sym q

pub mz_placement : OneAnswer 1 mz-placement-kinds.ps mz-placement-kinds.r mz-placement-reads.Learnt
mz_placement κs a z z' e e' p q = p ∙ sym q

pub mz_identity : OneAnswer 0 mz-identity-kinds.ps mz-identity-kinds.r mz-identity-reads.Learnt
mz_identity κs a z z' e e' p q = p ∙ sym q

pub mz_then_scale : OneAnswer 0 mz-then-scale-kinds.ps mz-then-scale-kinds.r mz-then-scale-reads.Learnt
mz_then_scale κs a z z' e e' p q = p ∙ sym q

pub mz_then_translate : OneAnswer 0 mz-then-translate-kinds.ps mz-then-translate-kinds.r mz-then-translate-reads.Learnt
mz_then_translate κs a z z' e e' p q = p ∙ sym q

pub mz_then : OneAnswer 0 mz-then-kinds.ps mz-then-kinds.r mz-then-reads.Learnt
mz_then κs a z z' e e' p q = p ∙ sym q

pub mz_pre_scale : OneAnswer 0 mz-pre-scale-kinds.ps mz-pre-scale-kinds.r mz-pre-scale-reads.Learnt
mz_pre_scale κs a z z' e e' p q = p ∙ sym q

pub mz_pre_translate : OneAnswer 0 mz-pre-translate-kinds.ps mz-pre-translate-kinds.r mz-pre-translate-reads.Learnt
mz_pre_translate κs a z z' e e' p q = p ∙ sym q

pub mz_transform_point : OneAnswer 0 mz-transform-point-kinds.ps mz-transform-point-kinds.r mz-transform-point-reads.Learnt
mz_transform_point κs a z z' e e' p q = p ∙ sym q

pub mz_transform_vector : OneAnswer 0 mz-transform-vector-kinds.ps mz-transform-vector-kinds.r mz-transform-vector-reads.Learnt
mz_transform_vector κs a z z' e e' p q = p ∙ sym q

pub mz_translation : OneAnswer 0 mz-translation-kinds.ps mz-translation-kinds.r mz-translation-reads.Learnt
mz_translation κs a z z' e e' p q = p ∙ sym q

pub mz_scale : OneAnswer 0 mz-scale-kinds.ps mz-scale-kinds.r mz-scale-reads.Learnt
mz_scale κs a z z' e e' p q = p ∙ sym q

pub mz_label : OneAnswer 0 mz-label-kinds.ps mz-label-kinds.r mz-label-reads.Learnt
mz_label κs a z z' e e' p q = p ∙ sym q
