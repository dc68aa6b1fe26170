-- No two outcomes satisfy a promise of this crate: of the promises as they stand in the code, each of which says that
-- the outcome is a definition's value at what was given. A float that is not a number is one value there, so that its
-- bits alone are left open.
use Prim.Native.Nat.{ℕ}
use mathlib.Core.Path.{◌≡◌, sym, ap, ◌∙◌}
use mathlib.Core.List.{List}
use contract.Lifetimes.{Lfts}
use denote.Triple.Clauses.{AtExit}
use borrow.Fn.Kinds.{ParamKind, ResultKind, Dens, res_t, ended_of, Out}
use Rattle.paper.specs.Drawing.{Outcome}
use Rattle.paper.proofs.draw.Kinds as draw-kinds
use Rattle.paper.proofs.draw.Reads as draw-reads
use Rattle.paper.proofs.draw_in_bands.Kinds as bands-kinds
use Rattle.paper.proofs.draw_in_bands.Reads as bands-reads
use Rattle.paper.proofs.bounds.Kinds as bounds-kinds
use Rattle.paper.proofs.bounds.Reads as bounds-reads
use Rattle.paper.proofs.placement.Kinds as placement-kinds
use Rattle.paper.proofs.placement.Reads as placement-reads

-- two answers that satisfy the promise P, given the same arguments a, are one
abbrev pub OneAnswer : (n : ℕ) (ps : List (ParamKind n)) (r : ResultKind n) → Out n ps r → Type 0
OneAnswer n ps r P =
    (κs : Lfts n) (a : Dens κs ps) (z z' : (res_t r κs).Denot) (e e' : AtExit (ended_of n ps r) κs)
    → P κs a z e → P κs a z' e' → z ≡ z'

-- a drawing: its answer, and the mask and the words afterwards, the third and the fourth of what it was lent
pub draw : (κs : Lfts 3) (a : Dens κs draw-kinds.ps) (z z' : (res_t draw-kinds.r κs).Denot)
    (e e' : AtExit (ended_of 3 draw-kinds.ps draw-kinds.r) κs)
    → draw-reads.Learnt κs a z e → draw-reads.Learnt κs a z' e'
    → (z ≡ z') × (e.1.1.0.now ≡ e'.1.1.0.now) × (e.1.1.1.0.now ≡ e'.1.1.1.0.now)
draw κs a z z' e e' p q =
    let same = p ∙ sym q in
    (ap (λ (o : Outcome). o.answer) same, ap (λ (o : Outcome). o.mask) same, ap (λ (o : Outcome). o.words) same)

-- a drawing in bands: of mask and words, the fourth and the fifth
pub draw_in_bands_is : (κs : Lfts 3) (a : Dens κs bands-kinds.ps) (z z' : (res_t bands-kinds.r κs).Denot)
    (e e' : AtExit (ended_of 3 bands-kinds.ps bands-kinds.r) κs)
    → bands-reads.Learnt κs a z e → bands-reads.Learnt κs a z' e'
    → (z ≡ z') × (e.1.1.1.0.now ≡ e'.1.1.1.0.now) × (e.1.1.1.1.0.now ≡ e'.1.1.1.1.0.now)
draw_in_bands_is κs a z z' e e' p q =
    let same = p ∙ sym q in
    (ap (λ (o : Outcome). o.answer) same, ap (λ (o : Outcome). o.mask) same, ap (λ (o : Outcome). o.words) same)

-- a box and a placement
pub bounds : OneAnswer 1 bounds-kinds.ps bounds-kinds.r bounds-reads.Learnt
bounds κs a z z' e e' p q = p ∙ sym q

pub placement : OneAnswer 1 placement-kinds.ps placement-kinds.r placement-reads.Learnt
placement κs a z z' e e' p q = p ∙ sym q
