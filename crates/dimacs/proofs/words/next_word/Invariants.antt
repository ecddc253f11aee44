use Prim.Native.Nat.{◌-◌}
use lib.ListN.{length}
use Rattle.dimacs.specs.Scanning.{Skipped}
use Rattle.dimacs.proofs.words.next_word.Given as goal

abbrev pub invariant-loop-gap : goal.invariant-loop-gap
invariant-loop-gap l = Skipped l.text l.from l.leads l.gap

abbrev pub decreases-loop-gap : goal.decreases-loop-gap
decreases-loop-gap l = length l.text - l.gap.at
