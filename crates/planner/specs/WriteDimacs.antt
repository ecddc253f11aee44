-- The statement of the public call `write_dimacs`: its answer, and the output buffer before and after. Document 02, C-11.
-- Assumes nothing.
use Rattle.std.specs.Prelude.{◌≡◌, List, ℕ, length, leb, Result, Ok, Err}
use Rattle.plan.specs.Meaning.{PlanFile}
use Rattle.plan.specs.Buffers.{Wrote}
use Rattle.reader.specs.Format.{read_plan}
use Rattle.listing.specs.Text.{text}
use Rattle.plan.specs.declared.refusal.Refusal.{Refusal}
use Rattle.planner.specs.Refusing.{Met, clear, after_reading, require, require_blocks, KeepingBy}

-- "then 12 with the exact bytes needed, before anything is written"
abbrev pub print_checks : List ℕ → PlanFile → Met
print_checks before φ = require_blocks φ (require (leb (length (text φ)) (length before)) 12 (length (text φ)) (clear φ))

-- The whole text is written, and its bytes are counted.
pub record TextWritten (φ : PlanFile) (before after : List ℕ) (bytes : ℕ) : Type 0 where
  pub count : bytes ≡ length (text φ)
  pub wrote : Wrote (text φ) before after

-- Where nothing is refused.
abbrev pub PrintCase : PlanFile → List ℕ → List ℕ → Result ℕ Refusal → Type 0
PrintCase φ before after (Err y) = ⊥
PrintCase φ before after (Ok n) = TextWritten φ before after n

-- The statement by what is met; of the call: by what reading and then the checks meet.
abbrev pub PrintBy : Met → List ℕ → List ℕ → Result ℕ Refusal → Type 0
PrintBy m before after r = KeepingBy m Err (λ φ. PrintCase φ before after r) before after r

abbrev pub PrintedIs : List ℕ → List ℕ → List ℕ → Result ℕ Refusal → Type 0
PrintedIs file before after r = PrintBy (after_reading (read_plan file) (print_checks before)) before after r
