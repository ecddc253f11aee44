-- `judge`: the checks as the statement has them, then the judgement.
use mathlib.Core.Path.{◌∙◌}
use Rattle.planner.proofs.Stating.{meets, stops, accepts, refuses, full_of}
use Rattle.planner.proofs.Outcomes.{judged_is}
use Rattle.planner.proofs.judge.Goals as goal

pub returns-in_err-tables : goal.returns-in_err-tables
returns-in_err-tables c = stops _ c.from_residual.ensures.1 (refuses _ _ _ c.in_err-tables.ensures)

pub returns-in_err-require_length : goal.returns-in_err-require_length
returns-in_err-require_length c = stops _ c.from_residual-in_err-require_length.ensures.1 (accepts _ _ _ c.in_ok-tables.ensures ∙ c.in_err-require_length.ensures.passes _)

pub returns-in_err-require_values : goal.returns-in_err-require_values
returns-in_err-require_values c = stops _ c.from_residual-in_err-require_values.ensures.1 (accepts _ _ _ c.in_ok-tables.ensures ∙ c.in_ok-require_length.ensures.passes _ ∙ c.in_err-require_values.ensures.passes _)

pub judge-requires : goal.judge-requires
judge-requires c = full_of c.args.assignment.now c.in_ok-require_length.ensures.holds c.in_ok-require_values.ensures.holds

pub returns : goal.returns
returns c = meets (accepts _ _ _ c.in_ok-tables.ensures ∙ c.in_ok-require_length.ensures.passes _ ∙ c.in_ok-require_values.ensures.passes _) (judged_is _ _ c.judge.result c.judge.ensures)
