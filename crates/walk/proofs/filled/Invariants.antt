-- `walk::filled`: the sets are those of the edges before the one at hand.
use Rattle.plan.specs.Tables.{edges_of}
use Rattle.plan.specs.Meaning.{graph_of, true_in}
use Rattle.walk.specs.Front.{UpTo}
use Rattle.walk.proofs.filled.Given as goal

abbrev pub invariant-loop-edge : goal.invariant-loop-edge
invariant-loop-edge l = UpTo (edges_of l.graph.edges.now) (graph_of l.side (true_in l.graph.values.now)) l.edge-index l.sets
