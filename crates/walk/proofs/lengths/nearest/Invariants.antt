-- `walk::lengths::nearest`: the nearest of those that are not left.
use mathlib.Core.Path.{◌≡◌}
use lib.ListN.{get_or}
use Rattle.walk.proofs.Choosing.{Choosing}
use Rattle.walk.proofs.lengths.nearest.Given as goal

abbrev pub invariant-loop-other : goal.invariant-loop-other
invariant-loop-other l = Choosing l.set l.other-iterator.0 l.far l.node × (l.least ≡ get_or l.far l.node 0)
