-- `walk::lengths::relax`: the edges of the node before the one at hand are taken, in whatever graph the chains are of.
use Prim.Native.Nat.{◌-◌}
use lib.ListN.{length}
use Rattle.plan.specs.Meaning.{Graph}
use Rattle.plan.specs.Tables.{edges_of}
use Rattle.walk.specs.Walking.{Chained}
use Rattle.walk.proofs.Relaxing.{Relaxing}
use Rattle.walk.proofs.lengths.relax.Given as goal

abbrev pub invariant-loop-k : goal.invariant-loop-k
invariant-loop-k l = (g : Graph) → Chained (edges_of l.edges) g l.chains → Relaxing (edges_of l.edges) g l.node l.known l.initial.far l.k l.reached l.far

abbrev pub decreases-loop-k : goal.decreases-loop-k
decreases-loop-k l = length l.edges - l.k
