-- `plan::value_of`: the variable's value for a positive literal, its negative for a negative one.
use mathlib.Core.Path.{ap, ◌∙◌}
use Prim.Native.Nat.{◌-◌}
use native.Mathlib.Omega.{arith}
use lib.IntN.{nat_abs}
use mir.Facts.{to_z-of_z}
use Rattle.plan.proofs.Signs.{minus}
use Rattle.plan.proofs.Values.{value_on, value_off, sign_fits, sign_neg}
use Rattle.plan.proofs.value_of.Goals as goal

pub returns-then-literal-gt0 : goal.returns-then-literal-gt0
returns-then-literal-gt0 c =
    let s = c.requires.assigned.each (c.variable_of-at.result - 1) (omega (arith, c.variable_of-at.ensures ∙ ap nat_abs (to_z-of_z c.ranges.literal))) in
    let a = c.args in
    rw (to_z-of_z (sign_fits _ s)) (value_on a.values.now a.literal _ (c.variable_of-at.ensures ∙ ap nat_abs (to_z-of_z c.ranges.literal)) (rw (to_z-of_z c.ranges.literal) at c.if-literal-gt0.true))

pub returns-else-literal-gt0 : goal.returns-else-literal-gt0
returns-else-literal-gt0 c =
    let s = c.requires.assigned.each (c.variable_of-at.result - 1) (omega (arith, c.variable_of-at.ensures ∙ ap nat_abs (to_z-of_z c.ranges.literal))) in
    let a = c.args in
    rw (to_z-of_z (sign_fits _ s)) (rw minus (rw (to_z-of_z (sign_fits _ (sign_neg _ s)))
    (value_off a.values.now a.literal _ (c.variable_of-at.ensures ∙ ap nat_abs (to_z-of_z c.ranges.literal)) c.requires.literal_fits.low (rw (to_z-of_z c.ranges.literal) at c.if-literal-gt0.false))))
