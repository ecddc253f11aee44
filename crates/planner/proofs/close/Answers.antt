-- `close`: the checks as the statement has them; a copy is closed, and where there is no clash it is copied to the result.
use mathlib.Core.Path.{◌≡◌, refl, sym, subst, ◌∙◌}
use mathlib.Core.List.{List}
use Prim.Native.Nat.{ℕ, ◌≤◌}
use native.Mathlib.Omega.{arith}
use lib.IntN.{ℤ}
use lib.ListN.{length, take}
use Rattle.plan.specs.Ranged.{max_variables}
use borrow.Author.Rules.{rules}
use Rattle.plan.specs.Buffers.{Kept}
use Rattle.plan.specs.File.{file_of}
use Rattle.plan.specs.Search.{Assigned, CloseIs, nothing, found}
use Rattle.plan.specs.Tables.{BeginsWith}
use Rattle.planner.proofs.Outcomes.{front_is}
use Rattle.planner.proofs.Stating.{meets, stops_keeping, accepts, refuses, assigned_of}
use Rattle.planner.proofs.close.Goals as goal

pub returns-in_err-tables : goal.returns-in_err-tables
returns-in_err-tables c = stops_keeping _ c.from_residual.ensures.1 refl (refuses _ _ _ c.in_err-tables.ensures)

pub returns-in_err-require_length : goal.returns-in_err-require_length
returns-in_err-require_length c = stops_keeping _ c.from_residual-in_err-require_length.ensures.1 refl (accepts _ _ _ c.in_ok-tables.ensures ∙ c.in_err-require_length.ensures.passes _)

pub returns-in_err-require_length-2 : goal.returns-in_err-require_length-2
returns-in_err-require_length-2 c = stops_keeping _ c.from_residual-in_err-require_length-2.ensures.1 refl (accepts _ _ _ c.in_ok-tables.ensures ∙ c.in_ok-require_length.ensures.passes _ ∙ c.in_err-require_length-2.ensures.passes _)

pub returns-in_err-require_values : goal.returns-in_err-require_values
returns-in_err-require_values c = stops_keeping _ c.from_residual-in_err-require_values.ensures.1 refl (accepts _ _ _ c.in_ok-tables.ensures ∙ c.in_ok-require_length.ensures.passes _ ∙ c.in_ok-require_length-2.ensures.passes _ ∙ c.in_err-require_values.ensures.passes _)

-- the copy's front is what is given
front : (r given : List ℤ) (n : ℕ) → n ≤ max_variables → length given ≡ n → length r ≡ max_variables → BeginsWith r given → take (length given) r ≡ given
front r given n small is long begins = front_is r given (omega arith) begins

pub close-requires : goal.close-requires
close-requires c =
    subst (Assigned c.in_ok-tables.tables.plan.variables) (sym (front _ _ _ c.in_ok-tables.tables.lent.ranged.variables c.in_ok-require_length.ensures.holds (search rules) c.of-values.ensures)) (assigned_of c.args.given.now c.in_ok-require_length.ensures.holds c.in_ok-require_values.ensures.holds)

pub returns-in-Err : goal.returns-in-Err
returns-in-Err c =
    let φ = file_of c.in_ok-tables.tables in
    let clash : CloseIs φ c.args.given.now nothing × Kept c.args.res.now c.args.res.now =
    (subst (λ a. CloseIs φ a nothing) (front _ _ _ c.in_ok-tables.tables.lent.ranged.variables c.in_ok-require_length.ensures.holds (search rules) c.of-values.ensures) c.in-Err.ensures.close_is, refl) in
    meets (accepts _ _ _ c.in_ok-tables.ensures ∙ c.in_ok-require_length.ensures.passes _ ∙ c.in_ok-require_length-2.ensures.passes _ ∙ c.in_ok-require_values.ensures.passes _) clash

pub returns-in-Ok : goal.returns-in-Ok
returns-in-Ok c =
    let φ = file_of c.in_ok-tables.tables in
    meets (accepts _ _ _ c.in_ok-tables.ensures ∙ c.in_ok-require_length.ensures.passes _ ∙ c.in_ok-require_length-2.ensures.passes _ ∙ c.in_ok-require_values.ensures.passes _)
    (subst (λ a. CloseIs φ a (found c.copy_from_slice.new.self)) (front _ _ _ c.in_ok-tables.tables.lent.ranged.variables c.in_ok-require_length.ensures.holds (search rules) c.of-values.ensures)
    (subst (λ w. CloseIs φ (take (length c.args.given.now) c.of-values.result.values) (found w)) (sym c.copy_from_slice.ensures.after) c.in-Ok.ensures.close_is))
