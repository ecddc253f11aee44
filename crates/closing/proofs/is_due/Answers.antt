-- `closing::is_due`: an atom whose literal is there is not due; another one is exactly if it is not one of the others.
use mathlib.Core.Path.{refl, sym, ◌∙◌, subst}
use lib.Dec.{T, T_not, not_T}
use native.Mathlib.Omega.{arith}
use Rattle.walk.proofs.Truths.{so, not_so}
use Rattle.closing.proofs.Looking.{same_literal, same_variable}
use Rattle.closing.proofs.is_due.Goals as goal

pub is_set_to-requires : goal.is_set_to-requires
is_set_to-requires c =
    let f = c.requires.atom_ready.fits in
    let e = same_variable c.args.atoms.now c.args.at in
    record { le_variable = omega (arith, f.low, e); variable_in_bounds = omega (arith, f.high, e) }

pub returns-then-not-is_set_to : goal.returns-then-not-is_set_to
returns-then-not-is_set_to c =
    let said = c.is_set_to.ensures ∙ same_literal c.args.values.now c.args.holds c.args.atoms.now c.args.at in (
      (λ t. ((λ i. T_not c.has.result t (subst (λ b. T b) (sym c.has.ensures) i)), (λ u. not_so said c.if-not-is_set_to.true u))),
      (λ d. not_T c.has.result (λ u. d.0 (subst (λ b. T b) c.has.ensures u))),
    )

pub returns-else-not-is_set_to : goal.returns-else-not-is_set_to
returns-else-not-is_set_to c =
    let said = c.is_set_to.ensures ∙ same_literal c.args.values.now c.args.holds c.args.atoms.now c.args.at in
    ((λ t. absurd (T_not c.is_set_to.result t (so refl c.if-not-is_set_to.false))), (λ d. absurd (d.1 (so said c.if-not-is_set_to.false))))
