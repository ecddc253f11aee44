-- The statement of the public call `reason`: its answer, and the output buffer before and after.
-- Assumes nothing.
use Rattle.std.specs.Prelude.{◌⊎◌, List, ℕ, ◌-◌, ◌<◌, length, ℤ, Result, Ok, Err}
use Rattle.plan.specs.Meaning.{PlanFile, atom}
use Rattle.plan.specs.Reason.{holds, fails, neither, ReasonIs}
use Rattle.plan.specs.Buffers.{Kept, Answered}
use Rattle.reader.specs.Format.{read_plan}
use Rattle.plan.specs.declared.refusal.Refusal.{Refusal}
use Rattle.reason.specs.declared.Answer.{Answer}
use Rattle.reason.specs.declared.Answer.TheVariants.{Holds, Fails, Open}
use Rattle.planner.specs.Refusing.{Met, clear, after_reading, require_length, require_values, require_atom, is_value, Names, KeepingBy}

-- What is asked of the inputs, in 01's order of refusals.
abbrev pub reason_checks : List ℤ → ℕ → PlanFile → Met
reason_checks a k φ = require_length φ a (require_values is_value a (require_atom φ k (clear φ)))

-- "The answer is 'holds' .., 'fails' .. or 'open'. For the first two a clause .. is written; the number of literals is returned": where nothing is refused before.
abbrev pub ReasonCase : PlanFile → List ℤ → ℕ → List ℤ → List ℤ → Result Answer Refusal → Type 0
-- "12: output buffer too short for the exact answer; length needed"
ReasonCase φ a k before after (Err y) =
    (r : List ℤ) × (ReasonIs φ a (atom φ.atoms (k - 1)) (holds r) ⊎ ReasonIs φ a (atom φ.atoms (k - 1)) (fails r))
    × (length before < length r) × Names 12 (length r) y × Kept before after
ReasonCase φ a k before after (Ok (Holds n)) = (r : List ℤ) × ReasonIs φ a (atom φ.atoms (k - 1)) (holds r) × Answered r before after n
ReasonCase φ a k before after (Ok (Fails n)) = (r : List ℤ) × ReasonIs φ a (atom φ.atoms (k - 1)) (fails r) × Answered r before after n
ReasonCase φ a k before after (Ok Open) = ReasonIs φ a (atom φ.atoms (k - 1)) neither × Kept before after

-- The statement by what is met; of the call: by what reading and then the checks meet.
abbrev pub ReasonBy : Met → List ℤ → ℕ → List ℤ → List ℤ → Result Answer Refusal → Type 0
ReasonBy m a k before after r = KeepingBy m Err (λ φ. ReasonCase φ a k before after r) before after r

abbrev pub ReasonedIs : List ℕ → List ℤ → ℕ → List ℤ → List ℤ → Result Answer Refusal → Type 0
ReasonedIs file a k before after r = ReasonBy (after_reading (read_plan file) (reason_checks a k)) a k before after r
