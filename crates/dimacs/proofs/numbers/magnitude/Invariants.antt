-- The digits passed make the value, which is not too much yet, and what is left decides as the whole does.
use mathlib.Core.Path.{◌≡◌}
use Prim.Native.Nat.{◌≤◌}
use lib.ListN.{drop}
use Rattle.dimacs.specs.Numbers.{magnitude}
use Rattle.dimacs.proofs.Values.{up_to}
use Rattle.dimacs.proofs.numbers.magnitude.Given as goal

abbrev pub invariant-loop-byte : goal.invariant-loop-byte
invariant-loop-byte l = (l.value ≤ l.most) × (magnitude l.most l.digits ≡ up_to l.most l.value (drop l.byte-index l.digits))
