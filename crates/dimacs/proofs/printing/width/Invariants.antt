use mathlib.Core.Path.{◌≡◌}
use Prim.Native.Nat.{◌-◌, ◌≤◌}
use lib.ListN.{length}
use Rattle.dimacs.specs.Printing.{numeral}
use Rattle.dimacs.proofs.Digits.{power}
use Rattle.dimacs.proofs.printing.width.Given as goal

abbrev pub invariant-loop-bound : goal.invariant-loop-bound
invariant-loop-bound l = (1 ≤ l.digits) × (l.digits ≤ length (numeral l.number)) × (l.bound ≡ power l.digits)

abbrev pub decreases-loop-bound : goal.decreases-loop-bound
decreases-loop-bound l = 10 - l.digits
