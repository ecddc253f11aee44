-- `search`: the check of the result's length, then what the search finds.
use mathlib.Core.Path.{refl, ◌∙◌}
use Rattle.planner.proofs.Stating.{meets, stops_keeping, accepts, refuses}
use Rattle.planner.proofs.Outcomes.{found_is}
use Rattle.planner.proofs.search.Goals as goal

pub returns-in_err-tables : goal.returns-in_err-tables
returns-in_err-tables c = stops_keeping _ c.from_residual.ensures.1 refl (refuses _ _ _ c.in_err-tables.ensures)

pub returns-in_err-require_length : goal.returns-in_err-require_length
returns-in_err-require_length c = stops_keeping _ c.from_residual-in_err-require_length.ensures.1 refl (accepts _ _ _ c.in_ok-tables.ensures ∙ c.in_err-require_length.ensures.passes _)

pub returns : goal.returns
returns c = meets (accepts _ _ _ c.in_ok-tables.ensures ∙ c.in_ok-require_length.ensures.passes _) (found_is _ _ _ _ _ c.search.ensures)
