-- What each step of closing keeps.
-- Assumes nothing.
use Rattle.std.specs.Prelude.{List, ℤ}
use Rattle.plan.specs.Meaning.{PlanFile, ◌⊆◌, true_in}
use Rattle.plan.specs.Search.{Assigned, Outcome, CloseIs}

-- From v to w: nothing is lost, and closing w is closing v.
pub record Onward (φ : PlanFile) (v w : List ℤ) : Type 0 where
  pub shape : Assigned φ.variables w
  pub above : true_in v ⊆ true_in w
  pub back : (o : Outcome) → CloseIs φ w o → CloseIs φ v o
