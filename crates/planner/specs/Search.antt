-- The statement of the public call `search`: its answer, and the result buffer before and after.
-- Assumes nothing.
use Rattle.std.specs.Prelude.{List, ℕ, replicate, ℤ, pos, Result, Ok, Err}
use Rattle.plan.specs.Meaning.{PlanFile}
use Rattle.plan.specs.Search.{nothing, found, decided, undecided, Searched}
use Rattle.plan.specs.Buffers.{Kept}
use Rattle.reader.specs.Format.{read_plan}
use Rattle.plan.specs.declared.refusal.Refusal.{Refusal}
use Rattle.search.specs.declared.Found.{Found}
use Rattle.search.specs.declared.Found.TheVariants.{Plan, Impossible, Undecided}
use Rattle.planner.specs.Refusing.{Met, clear, after_reading, require_length, KeepingBy}

-- "From all open."
abbrev pub all_open : PlanFile → List ℤ
all_open φ = replicate φ.variables (pos 0)

-- What is asked of the inputs, in 01's order of refusals.
abbrev pub search_checks : List ℤ → PlanFile → Met
search_checks before φ = require_length φ before (clear φ)

-- A plan is written; "so it does for .. 'impossible', 'undecided'": the buffer keeps its bytes. Where nothing is refused.
abbrev pub SearchCase : PlanFile → ℕ → List ℤ → List ℤ → Result Found Refusal → Type 0
SearchCase φ budget before after (Err y) = ⊥
SearchCase φ budget before after (Ok (Plan b)) = Searched φ (all_open φ) budget (decided (found after)) b
SearchCase φ budget before after (Ok (Impossible b)) = Searched φ (all_open φ) budget (decided nothing) b × Kept before after
SearchCase φ budget before after (Ok (Undecided b)) = Searched φ (all_open φ) budget undecided b × Kept before after

-- The statement by what is met; of the call: by what reading and then the checks meet.
abbrev pub SearchBy : Met → ℕ → List ℤ → List ℤ → Result Found Refusal → Type 0
SearchBy m budget before after r = KeepingBy m Err (λ φ. SearchCase φ budget before after r) before after r

abbrev pub SearchedIs : List ℕ → ℕ → List ℤ → List ℤ → Result Found Refusal → Type 0
SearchedIs file budget before after r = SearchBy (after_reading (read_plan file) (search_checks before)) budget before after r
