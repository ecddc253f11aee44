-- `plan::put`: the lent values with the literal's variable on or off, as its sign says.
use mathlib.Core.Path.{ap, ◌∙◌}
use lib.IntN.{nat_abs}
use mir.Facts.{to_z-of_z}
use Rattle.plan.proofs.Values.{with_on, with_off}
use Rattle.plan.proofs.put.Goals as goal

pub returns-then-literal-gt0 : goal.returns-then-literal-gt0
returns-then-literal-gt0 c = with_on c.args.values.now c.args.literal _ (c.variable_of-at.ensures ∙ ap nat_abs (to_z-of_z c.ranges.literal)) c.requires.literal_fits.low (rw (to_z-of_z c.ranges.literal) at c.if-literal-gt0.true)

pub returns-else-literal-gt0 : goal.returns-else-literal-gt0
returns-else-literal-gt0 c = with_off c.args.values.now c.args.literal _ (c.variable_of-at.ensures ∙ ap nat_abs (to_z-of_z c.ranges.literal)) c.requires.literal_fits.low (rw (to_z-of_z c.ranges.literal) at c.if-literal-gt0.false)
