-- A refusal is told with its record by `map_err`, and handed on by `?`: what was told is the record's own refusal.
use Prim.Native.Nat.{ℕ}
use mathlib.Core.Path.{◌≡◌, refl, sym, ap, ◌∙◌}
use native.Mathlib.Omega.{arith}
use Rattle.std.specs.Prelude.{Result, Ok, Err, IsErrAnd, MatchResult}
use Rattle.path.specs.declared.Refusal.{Refusal}
use Rattle.path.specs.declared.Refused.{Refused}
use Rattle.path.specs.declared.Records.{Records}
use Rattle.path.specs.Refusals.{refused_at}
use Rattle.path.specs.Reading.{counted}

-- ---- an answer is one or the other, with its own parts
pub same_ok : {A E : Type 0} {x y : A} → ◌≡◌ {A = Result A E} (Ok x) (Ok y) → x ≡ y
same_ok e = cc

pub same_err : {A E : Type 0} {x y : E} → ◌≡◌ {A = Result A E} (Err x) (Err y) → x ≡ y
same_err e = cc

pub ok_not_err : {X A E : Type 0} {x : A} {y : E} → Ok x ≡ Err y → X
ok_not_err e = absurd (let z : ◌≡◌ {A = ℕ} 0 1 = cc in omega arith)

pub same_counts : {n m n' m' : ℕ} → counted n m ≡ counted n' m' → (n ≡ n') × (m ≡ m')
same_counts e = (ap (λ (r : Records). r.count) (same_ok e), ap (λ (r : Records). r.cut) (same_ok e))

pub same_refusal : {A : Type 0} {w w' : Refusal} {i i' : ℕ} → ◌≡◌ {A = Result A Refused} (refused_at w i) (refused_at w' i') → (w ≡ w') × (i ≡ i')
same_refusal e = (ap (λ (r : Refused). r.why) (same_err e), ap (λ (r : Refused). r.«record») (same_err e))

-- ---- what `?` hands on
pub handed_on : {B E : Type 0} (out : Result B E) (d : E) → IsErrAnd out (λ y. y ≡ d) → out ≡ Err d
handed_on (Ok y) d k = absurd k
handed_on (Err d') d k = ap Err k

-- ---- what `map_err` tells
-- what is no refusal was none before
pub fine_before : {A E D : Type 0} (r : Result A E) (s : Result A D) (P : E → D → Type 0) (x : A)
    → MatchResult r (λ y. s ≡ Ok y) (λ e. IsErrAnd s (P e)) → s ≡ Ok x → r ≡ Ok x
fine_before (Ok y) s P x m e = ap Ok (same_ok (sym m ∙ e))
fine_before (Err w) s P x m e = absurd (rw e at m)

-- a refusal was a fault before, and is what was told of it
pub record Told {A B E : Type 0} (r : Result A E) (tell : E → Refused) (out : Result B Refused) : Type 0 where
  pub why : E
  pub was : r ≡ Err why
  pub is : out ≡ Err (tell why)

pub told : {A B E : Type 0} (r : Result A E) (tell : E → Refused) (s : Result A Refused) {P : E → Refused → Type 0} (d : Refused) (out : Result B Refused)
    → MatchResult r (λ y. s ≡ Ok y) (λ w. IsErrAnd s (P w)) → ((w : E) (z : Refused) → P w z → z ≡ tell w)
    → s ≡ Err d → IsErrAnd out (λ y. y ≡ d) → Told r tell out
told (Ok y) tell s d out m p e k = ok_not_err (sym m ∙ e)
told (Err w) tell s d out m p e k = record { why = w; was = refl; is = handed_on out _ k ∙ ap Err (p w d (rw e at m)) }
