-- No two outcomes of a drawing in bands satisfy its promise.
use mathlib.Core.Path.{◌≡◌, sym, ap, ◌∙◌}
use contract.Lifetimes.{Lfts}
use denote.Triple.Clauses.{AtExit}
use borrow.Fn.Kinds.{Dens, res_t, ended_of}
use Rattle.label.specs.Draw.{Outcome}
use Rattle.bands.proofs.draw_in_bands.Kinds as draw-kinds
use Rattle.bands.proofs.draw_in_bands.Reads as draw-reads

-- its answer, and the mask and the words afterwards, the fourth and the fifth of what it was lent
pub draw_in_bands_is : (κs : Lfts 3) (a : Dens κs draw-kinds.ps) (z z' : (res_t draw-kinds.r κs).Denot) (e e' : AtExit (ended_of 3 draw-kinds.ps draw-kinds.r) κs)
    → draw-reads.Learnt κs a z e → draw-reads.Learnt κs a z' e'
    → (z ≡ z') × (e.1.1.1.0.now ≡ e'.1.1.1.0.now) × (e.1.1.1.1.0.now ≡ e'.1.1.1.1.0.now)
draw_in_bands_is κs a z z' e e' p q =
    let same = p.0 ∙ sym q.0 in
    (ap (λ (o : Outcome). o.answer) same, ap (λ (o : Outcome). o.mask) same, ap (λ (o : Outcome). o.words) same)
