-- One kind has one answer: a verb is the only one of its kind, and no verb's kind is outside 1 to 5.
use Prim.Native.Nat.{ℕ, ◌≤◌}
use mathlib.Core.Path.{◌≡◌, refl, sym, ap, ◌∙◌}
use native.Mathlib.Omega.{arith}
use Rattle.std.specs.Prelude.{Result, Ok, Err, cond, eqb}
use Rattle.command.specs.declared.Verb.{Verb}
use Rattle.command.specs.declared.Verb.TheVariants as verb
use Rattle.command.specs.declared.UnknownKind.{UnknownKind}
use Rattle.command.specs.Kinds.{kind_of, Decodes}

-- the verb of a kind from 1 to 5
abbrev verb_at : ℕ → Verb
verb_at k = cond (eqb k 1) verb.MoveTo (cond (eqb k 2) verb.LineTo (cond (eqb k 3) verb.QuadTo (cond (eqb k 4) verb.CurveTo verb.Close)))

verb_back : (v : Verb) → verb_at (kind_of v) ≡ v
verb_back verb.MoveTo = refl
verb_back verb.LineTo = refl
verb_back verb.QuadTo = refl
verb_back verb.CurveTo = refl
verb_back verb.Close = refl

pub one_kind : (v w : Verb) → kind_of v ≡ kind_of w → v ≡ w
one_kind v w e = sym (verb_back v) ∙ ap verb_at e ∙ verb_back w

-- the kinds of the five verbs
pub from_1_to_5 : (v : Verb) → (1 ≤ kind_of v) × (kind_of v ≤ 5)
from_1_to_5 verb.MoveTo = (omega arith, omega arith)
from_1_to_5 verb.LineTo = (omega arith, omega arith)
from_1_to_5 verb.QuadTo = (omega arith, omega arith)
from_1_to_5 verb.CurveTo = (omega arith, omega arith)
from_1_to_5 verb.Close = (omega arith, omega arith)

abbrev unknown : ℕ → Result Verb UnknownKind
unknown n = Err (record { 0 = n })

pub one_answer : (k : ℕ) (r r' : Result Verb UnknownKind) → Decodes k r → Decodes k r' → r ≡ r'
one_answer k (Ok v) (Ok w) p q = ap Ok (one_kind v w (p ∙ sym q))
one_answer k (Ok v) (Err e) p q = let b = from_1_to_5 v in grind (arith, b, p, q.1)
one_answer k (Err d) (Ok w) p q = let b = from_1_to_5 w in grind (arith, b, q, p.1)
one_answer k (Err d) (Err e) p q = ap unknown (p.0 ∙ sym q.0)
