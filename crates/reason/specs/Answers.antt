-- What the answer to a question for a reason says of the clause and of the lent buffer.
-- Assumes nothing.
use Rattle.std.specs.Prelude.{◌≡◌, ◌⊎◌, List, ℕ, ◌<◌, length, ℤ, Result, Ok, Err}
use Rattle.plan.specs.Meaning.{Edge, Atom, PlanFile}
use Rattle.plan.specs.Buffers.{Kept, Answered}
use Rattle.plan.specs.Reason.{holds, fails, neither, ReasonIs}
use Rattle.plan.specs.declared.refusal.Short.{Short}
use Rattle.reason.specs.declared.Answer.{Answer}
use Rattle.reason.specs.declared.Answer.TheVariants.{Holds, Fails, Open}

-- The clause has more literals than there are places: nothing is written, and its length answered.
pub record TooLong (clause before after : List ℤ) (n : ℕ) : Type 0 where
  pub counted : n ≡ length clause
  pub short : length before < length clause
  pub kept : Kept before after

-- What each case of the code's answer says.
abbrev pub AnswerIs : PlanFile → List ℤ → Atom → Result Answer Short → List ℤ → List ℤ → Type 0
AnswerIs φ a A (Ok (Holds n)) before after = (r : List ℤ) × ReasonIs φ a A (holds r) × Answered r before after n
AnswerIs φ a A (Ok (Fails n)) before after = (r : List ℤ) × ReasonIs φ a A (fails r) × Answered r before after n
AnswerIs φ a A (Ok Open) before after = ReasonIs φ a A neither × Kept before after
AnswerIs φ a A (Err short) before after = (r : List ℤ) × (ReasonIs φ a A (holds r) ⊎ ReasonIs φ a A (fails r)) × TooLong r before after short.0

-- What is said of every plan file with these edges.
abbrev pub with_edges : List Edge → PlanFile → PlanFile
with_edges es φ = record { nodes = φ.nodes; variables = φ.variables; edges = es; atoms = φ.atoms; clauses = φ.clauses }

abbrev pub Over : List Edge → (PlanFile → Type 0) → Type 0
Over es P = (φ : PlanFile) → P (with_edges es φ)
