-- The bound is ten to the power of the digits that are counted, and the number has no fewer.
use mathlib.Core.Path.{ap, ◌∙◌, sym}
use Prim.Native.Nat.{◌*◌, ◌≤◌, ◌<◌}
use native.Mathlib.Omega.{arith}
use lib.ListN.{length}
use Rattle.dimacs.specs.Printing.{numeral}
use Rattle.dimacs.proofs.Digits.{power, power_within, power_more, digits_most, digits_some, digits_few, digits_many}
use Rattle.dimacs.proofs.printing.width.Goals as goal

-- a digit more is to come
module _ (c : goal.In-loop-bound) where
  reached : power c.loop-bound.digits ≤ c.args.number
  reached = omega arith

  below : c.loop-bound.digits < 10
  below = power_within c.loop-bound.digits c.args.number (omega (arith, digits_most 10 c.args.number)) (omega arith) reached

  more : c.loop-bound.digits < length (numeral c.args.number)
  more = digits_many 10 c.loop-bound.digits c.args.number below reached

pub loop-bound-init : goal.loop-bound-init
unfolding power
loop-bound-init c = (omega arith, digits_some 9 c.args.number, omega arith)

pub loop-bound-preserved : goal.loop-bound-preserved
loop-bound-preserved c = (omega arith, omega (arith, more c), ap (λ b. b * 10) c.loop-bound.invariant.2 ∙ sym (power_more c.loop-bound.digits))

pub returns : goal.returns
returns c = omega (arith, digits_few 10 c.loop-bound.digits c.args.number (omega arith) (omega arith))

pub overflow_add-digits : goal.overflow_add-digits
overflow_add-digits c = omega (arith, below c)

pub loop-bound-smaller : goal.loop-bound-smaller
loop-bound-smaller c = omega (arith, below c)
