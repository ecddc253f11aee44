-- `reason`: the checks as the statement has them, then the reason or the length that the buffer lacks.
use mathlib.Core.Path.{refl, sym, subst, ◌∙◌}
use Rattle.std.proofs.lemmas.Result.{err_from_is_err_and}
use Rattle.plan.specs.File.{file_of}
use Rattle.planner.specs.Reason.{ReasonCase}
use Rattle.planner.proofs.Stating.{meets, stops_keeping, accepts, refuses, assigned_of}
use Rattle.planner.proofs.Outcomes.{reason_is, reason_short}
use Rattle.planner.proofs.reason.Goals as goal

pub returns-in_err-tables : goal.returns-in_err-tables
returns-in_err-tables c = stops_keeping _ c.from_residual.ensures.1 refl (refuses _ _ _ c.in_err-tables.ensures)

pub returns-in_err-require_length : goal.returns-in_err-require_length
returns-in_err-require_length c = stops_keeping _ c.from_residual-in_err-require_length.ensures.1 refl (accepts _ _ _ c.in_ok-tables.ensures ∙ c.in_err-require_length.ensures.passes _)

pub returns-in_err-require_values : goal.returns-in_err-require_values
returns-in_err-require_values c = stops_keeping _ c.from_residual-in_err-require_values.ensures.1 refl (accepts _ _ _ c.in_ok-tables.ensures ∙ c.in_ok-require_length.ensures.passes _ ∙ c.in_err-require_values.ensures.passes _)

pub returns-in_err-require_atom : goal.returns-in_err-require_atom
returns-in_err-require_atom c = stops_keeping _ c.from_residual-in_err-require_atom.ensures.1 refl (accepts _ _ _ c.in_ok-tables.ensures ∙ c.in_ok-require_length.ensures.passes _ ∙ c.in_ok-require_values.ensures.passes _ ∙ c.in_err-require_atom.ensures.passes _)

pub reason-requires-clause-assigned : goal.reason-requires-clause-assigned
reason-requires-clause-assigned c = assigned_of c.args.assignment.now c.in_ok-require_length.ensures.holds c.in_ok-require_values.ensures.holds

pub returns-in_err-reason : goal.returns-in_err-reason
returns-in_err-reason c =
    let φ = file_of c.in_ok-tables.tables in
    let p = err_from_is_err_and c.from_residual-in_err-reason.result c.from_residual-in_err-reason.ensures.1 in
    meets (accepts _ _ _ c.in_ok-tables.ensures ∙ c.in_ok-require_length.ensures.passes _ ∙ c.in_ok-require_values.ensures.passes _ ∙ c.in_ok-require_atom.ensures.passes _)
    (subst (λ r. ReasonCase φ c.args.assignment.now c.args.atom c.args.out.now c.reason.new.out r) (sym p.1)
    (reason_short φ _ _ _ _ _ p.0 p.2 (c.in_err-reason.ensures φ)))

pub returns : goal.returns
returns c =
    let φ = file_of c.in_ok-tables.tables in
    meets (accepts _ _ _ c.in_ok-tables.ensures ∙ c.in_ok-require_length.ensures.passes _ ∙ c.in_ok-require_values.ensures.passes _ ∙ c.in_ok-require_atom.ensures.passes _)
    (reason_is φ _ _ _ _ _ (c.in_ok-reason.ensures φ))
