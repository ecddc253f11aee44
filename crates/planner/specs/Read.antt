-- The statement of the public call `read`.
-- Assumes nothing.
use Rattle.std.specs.Prelude.{◌≡◌, List, ℕ, length, Result, Ok, Err}
use Rattle.plan.specs.Meaning.{PlanFile}
use Rattle.plan.specs.Ranged.{literals}
use Rattle.plan.specs.declared.Plan.{Plan}
use Rattle.reader.specs.Format.{read_plan}
use Rattle.plan.specs.declared.refusal.Refusal.{Refusal}
use Rattle.planner.specs.Refusing.{clear, after_reading, Refuses, By}

-- How many of each sort the file has.
pub record Counts (φ : PlanFile) (p : Plan) : Type 0 where
  pub nodes : φ.nodes ≡ p.nodes
  pub variables : φ.variables ≡ p.variables
  pub edges : length φ.edges ≡ p.edges
  pub atoms : length φ.atoms ≡ p.atoms
  pub clauses : length φ.clauses ≡ p.clauses
  pub literals : literals φ.clauses ≡ p.literals

-- The counts: where nothing is refused.
abbrev pub ReadCase : PlanFile → Result Plan Refusal → Type 0
ReadCase φ (Err y) = ⊥
ReadCase φ (Ok p) = Counts φ p

-- The statement, by what reading meets.
abbrev pub ReadIs : List ℕ → Result Plan Refusal → Type 0
ReadIs file r = By (after_reading (read_plan file) (λ φ. clear φ)) (λ n v. Refuses Err n v r) (λ φ. ReadCase φ r)
