-- The statement of the public call `write_clauses`: its answer, and the output buffer before and after.
-- Assumes nothing.
use Rattle.std.specs.Prelude.{◌≡◌, List, ℕ, length, ℤ, leb, Result, Ok, Err}
use Rattle.plan.specs.Meaning.{PlanFile}
use Rattle.plan.specs.Written.{flat, written, last_variable}
use Rattle.plan.specs.Buffers.{Wrote}
use Rattle.reader.specs.Format.{read_plan}
use Rattle.plan.specs.declared.refusal.Refusal.{Refusal}
use Rattle.clauses.specs.declared.Counts.{Counts}
use Rattle.planner.specs.Refusing.{Met, clear, after_reading, require, require_blocks, KeepingBy}

-- "12: output buffer too short for the exact answer; length needed"
abbrev pub write_checks : List ℤ → PlanFile → Met
write_checks before φ = require_blocks φ (require (leb (length (flat (written φ))) (length before)) 12 (length (flat (written φ))) (clear φ))

-- "a list of signed 32-bit numbers, each clause ended by 0, with the counts of variables, clauses and numbers"
pub record WrittenOut (φ : PlanFile) (before after : List ℤ) (variables clauses numbers : ℕ) : Type 0 where
  pub last : variables ≡ last_variable φ
  pub count : clauses ≡ length (written φ)
  pub length_is : numbers ≡ length (flat (written φ))
  pub wrote : Wrote (flat (written φ)) before after

-- The clauses are written out: where nothing is refused.
abbrev pub WriteCase : PlanFile → List ℤ → List ℤ → Result Counts Refusal → Type 0
WriteCase φ before after (Err y) = ⊥
WriteCase φ before after (Ok counts) = WrittenOut φ before after counts.variables counts.clauses counts.numbers

-- The statement by what is met; of the call: by what reading and then the checks meet.
abbrev pub WriteBy : Met → List ℤ → List ℤ → Result Counts Refusal → Type 0
WriteBy m before after r = KeepingBy m Err (λ φ. WriteCase φ before after r) before after r

abbrev pub WrittenIs : List ℕ → List ℤ → List ℤ → Result Counts Refusal → Type 0
WrittenIs file before after r = WriteBy (after_reading (read_plan file) (write_checks before)) before after r
