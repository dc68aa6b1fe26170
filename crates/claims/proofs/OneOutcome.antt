-- No two outcomes satisfy a promise: of the promises as they stand in the code, each of which says that the outcome is a definition's value at what
-- was given. A float that is not a number is one value there, so that its bits alone are left open.
use Prim.Native.Nat.{ℕ}
use mathlib.Core.Path.{◌≡◌, sym, ap, ◌∙◌}
use mathlib.Core.List.{List}
use contract.Lifetimes.{Lfts}
use denote.Triple.Clauses.{AtExit}
use borrow.Fn.Kinds.{ParamKind, ResultKind, Dens, res_t, ended_of, Out}
use Rattle.std.specs.Prelude.{Result, Ok, Err, MatchResult}
use Rattle.path.specs.declared.Records.{Records}
use Rattle.path.specs.declared.Refused.{Refused}
use Rattle.path.proofs.Telling.{same_ok, same_err, ok_not_err}
use Rattle.label.specs.declared.Label.{Label}
use Rattle.label.specs.declared.checked.Checked.{Checked}
use Rattle.label.specs.Draw.{Outcome}
use Rattle.label.proofs.draw.Kinds as draw-kinds
use Rattle.label.proofs.draw.Reads as draw-reads
use Rattle.label.proofs.check.Kinds as check-kinds
use Rattle.label.proofs.check.Reads as check-reads
use Rattle.label.proofs.accept.Kinds as accept-kinds
use Rattle.label.proofs.accept.Reads as accept-reads
use Rattle.label.proofs.told.Kinds as told-kinds
use Rattle.label.proofs.told.Reads as told-reads
use Rattle.label.proofs.NumbersFromAnswer.from.Kinds as numbers-of-kinds
use Rattle.label.proofs.NumbersFromAnswer.from.Reads as numbers-of-reads
use Rattle.placing.proofs.bounds.Kinds as bounds-kinds
use Rattle.placing.proofs.bounds.Reads as bounds-reads
use Rattle.placing.proofs.placement.Kinds as placement-kinds
use Rattle.placing.proofs.placement.Reads as placement-reads
use Rattle.placing.proofs.BoxNumbersFromResultBoundsRefused.from.Kinds as box-numbers-kinds
use Rattle.placing.proofs.BoxNumbersFromResultBoundsRefused.from.Reads as box-numbers-reads
use Rattle.placing.proofs.PlaceNumbersFromResultLaidRefused.from.Kinds as place-numbers-kinds
use Rattle.placing.proofs.PlaceNumbersFromResultLaidRefused.from.Reads as place-numbers-reads
use Rattle.path.proofs.check_inputs.Kinds as check-inputs-kinds
use Rattle.path.proofs.check_inputs.Reads as check-inputs-reads
use Rattle.path.proofs.U32FromRefusal.from.Kinds as path-number-of-kinds
use Rattle.path.proofs.U32FromRefusal.from.Reads as path-number-of-reads
use Rattle.list.proofs.U32FromReason.from.Kinds as reason-number-kinds
use Rattle.list.proofs.U32FromReason.from.Reads as reason-number-reads
use Rattle.list.proofs.ReasonFromUnknownKind.from.Kinds as unknown-kind-kinds
use Rattle.list.proofs.ReasonFromUnknownKind.from.Reads as unknown-kind-reads
use Rattle.list.proofs.step_at.Kinds as step-at-kinds
use Rattle.list.proofs.step_at.Reads as step-at-reads

-- two answers that satisfy the promise P, given the same arguments a, are one
abbrev pub OneAnswer : (n : ℕ) (ps : List (ParamKind n)) (r : ResultKind n) → Out n ps r → Type 0
OneAnswer n ps r P = (κs : Lfts n) (a : Dens κs ps) (z z' : (res_t r κs).Denot) (e e' : AtExit (ended_of n ps r) κs) → P κs a z e → P κs a z' e' → z ≡ z'

-- a drawing: its answer, and the mask and the words afterwards, the third and the fourth of what it was lent
pub draw : (κs : Lfts 3) (a : Dens κs draw-kinds.ps) (z z' : (res_t draw-kinds.r κs).Denot) (e e' : AtExit (ended_of 3 draw-kinds.ps draw-kinds.r) κs)
    → draw-reads.Learnt κs a z e → draw-reads.Learnt κs a z' e'
    → (z ≡ z') × (e.1.1.0.now ≡ e'.1.1.0.now) × (e.1.1.1.0.now ≡ e'.1.1.1.0.now)
draw κs a z z' e e' p q =
    let same = p ∙ sym q in
    (ap (λ (o : Outcome). o.answer) same, ap (λ (o : Outcome). o.mask) same, ap (λ (o : Outcome). o.words) same)

-- ---- label
pub check : OneAnswer 0 check-kinds.ps check-kinds.r check-reads.Learnt
check κs a z z' e e' p q = p ∙ sym q

pub told : OneAnswer 0 told-kinds.ps told-kinds.r told-reads.Learnt
told κs a z z' e e' p q = p ∙ sym q

-- of what `accept` answers, the label and what its list holds, or the refusal
abbrev pub parts_of : Result (Checked × Records) Refused → Result (Label × Records) Refused
parts_of (Ok a) = Ok (a.0.label, a.1)
parts_of (Err refused) = Err refused

one_parts : (l : Label) (v : Result Records Refused) (z z' : Result (Checked × Records) Refused)
    → MatchResult z (λ a. (a.0.label ≡ l) × (v ≡ Ok a.1)) (λ refused. v ≡ Err refused)
    → MatchResult z' (λ a. (a.0.label ≡ l) × (v ≡ Ok a.1)) (λ refused. v ≡ Err refused) → parts_of z ≡ parts_of z'
one_parts l v (Ok a) (Ok b) p q =
    let label = p.0 ∙ sym q.0 in
    let records = same_ok (sym p.1 ∙ q.1) in
    rw (label, records)
one_parts l v (Ok a) (Err d) p q = ok_not_err (sym p.1 ∙ q)
one_parts l v (Err d) (Ok b) p q = ok_not_err (sym q.1 ∙ p)
one_parts l v (Err d) (Err d') p q = ap Err (same_err (sym p ∙ q))

pub accept : (κs : Lfts 1) (a : Dens κs accept-kinds.ps) (z z' : (res_t accept-kinds.r κs).Denot) (e e' : AtExit (ended_of 1 accept-kinds.ps accept-kinds.r) κs)
    → accept-reads.Learnt κs a z e → accept-reads.Learnt κs a z' e' → parts_of z ≡ parts_of z'
accept κs a z z' e e' p q = one_parts _ _ z z' p q

pub numbers_of : OneAnswer 0 numbers-of-kinds.ps numbers-of-kinds.r numbers-of-reads.Learnt
numbers_of κs a z z' e e' p q = p ∙ sym q

-- ---- placing
pub bounds : OneAnswer 1 bounds-kinds.ps bounds-kinds.r bounds-reads.Learnt
bounds κs a z z' e e' p q = p ∙ sym q

pub placement : OneAnswer 1 placement-kinds.ps placement-kinds.r placement-reads.Learnt
placement κs a z z' e e' p q = p ∙ sym q

pub box_numbers : OneAnswer 0 box-numbers-kinds.ps box-numbers-kinds.r box-numbers-reads.Learnt
box_numbers κs a z z' e e' p q = p ∙ sym q

pub place_numbers : OneAnswer 0 place-numbers-kinds.ps place-numbers-kinds.r place-numbers-reads.Learnt
place_numbers κs a z z' e e' p q = p ∙ sym q

-- ---- path
pub check_inputs : OneAnswer 0 check-inputs-kinds.ps check-inputs-kinds.r check-inputs-reads.Learnt
check_inputs κs a z z' e e' p q = p ∙ sym q

pub path_number_of : OneAnswer 0 path-number-of-kinds.ps path-number-of-kinds.r path-number-of-reads.Learnt
path_number_of κs a z z' e e' p q = p ∙ sym q

-- ---- list
pub list_number_of : OneAnswer 0 reason-number-kinds.ps reason-number-kinds.r reason-number-reads.Learnt
list_number_of κs a z z' e e' p q = p ∙ sym q

pub unknown_kind : OneAnswer 0 unknown-kind-kinds.ps unknown-kind-kinds.r unknown-kind-reads.Learnt
unknown_kind κs a z z' e e' p q = p ∙ sym q

pub step_at_is : OneAnswer 1 step-at-kinds.ps step-at-kinds.r step-at-reads.Learnt
step_at_is κs a z z' e e' p q = p ∙ sym q
