-- `plan::is_set_to`: the value that is compared is the sign's, so it is there exactly if the literal is true.
use mathlib.Core.Logic.{inl, inr}
use borrow.Author.Rules.{rules}
use Rattle.plan.proofs.Literals.{set_bits}
use Rattle.plan.proofs.is_set_to.Goals as goal
use Rattle.plan.proofs.is_set_to.Goals.{then-sign, else-sign}

pub returns : goal.returns
returns c =
    set_bits _ _ c.from.result _ _ (search rules) c.requires.le_variable (search rules)
    (elim c.if-sign.branch [ then-sign w ↦ inl (w.if-sign.true, search rules) | else-sign w ↦ inr (w.if-sign.false, search rules) ])
