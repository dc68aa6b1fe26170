-- docs/RULES.md, "The path list": the kind of a record, and the verb that it stands for.
use Rattle.std.specs.Prelude.{ℕ, ◌≡◌, ◌<◌, ◌⊎◌, Result, MatchResult}
use Rattle.command.specs.declared.Verb.{Verb}
use Rattle.command.specs.declared.Verb.TheVariants as verb
use Rattle.command.specs.declared.UnknownKind.{UnknownKind}

-- the kind of a verb's record
abbrev pub kind_of : Verb → ℕ
kind_of verb.MoveTo = 1
kind_of verb.LineTo = 2
kind_of verb.QuadTo = 3
kind_of verb.CurveTo = 4
kind_of verb.Close = 5

-- the result is the verb of this kind, or an error with the kind, which is not 1 to 5
abbrev pub Decodes : ℕ → Result Verb UnknownKind → Type 0
Decodes kind r = MatchResult r (λ v. kind_of v ≡ kind) (λ e. (e.0 ≡ kind) × ((kind < 1) ⊎ (5 < kind)))
