-- `walk::lengths::length_walk`: what holds before each node is taken, in whatever graph the chains are of.
use Prim.Native.Nat.{◌-◌}
use Rattle.plan.specs.Meaning.{Graph}
use Rattle.plan.specs.Tables.{edges_of}
use Rattle.walk.specs.Walking.{Chained}
use Rattle.walk.specs.Front.{size}
use Rattle.walk.proofs.Nearing.{Dijkstra}
use Rattle.walk.proofs.lengths.length_walk.Given as goal

abbrev pub invariant-loop-done : goal.invariant-loop-done
invariant-loop-done l = (g : Graph) → Chained (edges_of l.edges) g l.chains → Dijkstra (edges_of l.edges) g l.source l.known l.done l.distances.far

abbrev pub decreases-loop-done : goal.decreases-loop-done
decreases-loop-done l = 64 - size l.done
