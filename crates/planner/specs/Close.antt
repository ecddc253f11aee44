-- The statement of the public call `close`: its answer, and the result buffer before and after.
-- Assumes nothing.
use Rattle.std.specs.Prelude.{List, ℕ, ℤ, Result, Ok, Err}
use Rattle.plan.specs.Meaning.{PlanFile}
use Rattle.plan.specs.Search.{nothing, found, CloseIs}
use Rattle.plan.specs.Buffers.{Kept}
use Rattle.reader.specs.Format.{read_plan}
use Rattle.planner.specs.declared.CloseAnswer.{CloseAnswer}
use Rattle.planner.specs.declared.CloseAnswer.TheVariants.{Closed, Clash}
use Rattle.plan.specs.declared.refusal.Refusal.{Refusal}
use Rattle.planner.specs.Refusing.{Met, clear, after_reading, require_length, require_values, is_value, KeepingBy}

-- What is asked of the inputs, in 01's order of refusals.
abbrev pub close_checks : List ℤ → List ℤ → PlanFile → Met
close_checks given before φ = require_length φ given (require_length φ before (require_values is_value given (clear φ)))

-- "the smallest set of literals that contains the given ones and obeys" the rules, or "a clash": where nothing is refused.
abbrev pub CloseCase : PlanFile → List ℤ → List ℤ → List ℤ → Result CloseAnswer Refusal → Type 0
CloseCase φ given before after (Err y) = ⊥
CloseCase φ given before after (Ok Closed) = CloseIs φ given (found after)
CloseCase φ given before after (Ok Clash) = CloseIs φ given nothing × Kept before after

-- The statement by what is met; of the call: by what reading and then the checks meet.
abbrev pub CloseBy : Met → List ℤ → List ℤ → List ℤ → Result CloseAnswer Refusal → Type 0
CloseBy m given before after r = KeepingBy m Err (λ φ. CloseCase φ given before after r) before after r

abbrev pub ClosedIs : List ℕ → List ℤ → List ℤ → List ℤ → Result CloseAnswer Refusal → Type 0
ClosedIs file given before after r = CloseBy (after_reading (read_plan file) (close_checks given before)) given before after r
