-- The kind of a number in a file, as the code answers it.
-- Assumes nothing.
use Rattle.std.specs.Prelude.{◌≡◌, ◌≢◌, ℕ, Result, MatchResult}
use Rattle.plan.specs.Meaning.{number_of_kind}
use Rattle.plan.specs.declared.Kind.{Kind}
use Rattle.plan.specs.declared.UnknownKind.{UnknownKind}

-- The kind whose number it is, or the number that no kind has.
abbrev pub Decodes : ℕ → Result Kind UnknownKind → Type 0
Decodes number r = MatchResult r (λ kind. number_of_kind kind ≡ number) (λ unknown. (unknown.0 ≡ number) × ((kind : Kind) → number_of_kind kind ≢ number))
