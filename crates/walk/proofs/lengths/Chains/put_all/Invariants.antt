-- `walk::lengths::Chains::put_all`: the edges that are left are the first ones, and the chains are those of the edges behind.
use mathlib.Core.Path.{◌≡◌}
use mathlib.Core.List.{List, ◌++◌}
use lib.ListN.{length}
use Rattle.plan.specs.declared.Edge as struct-of-edge
use Rattle.plan.specs.Meaning.{graph_of, true_in}
use Rattle.walk.specs.Given.{edges_in}
use Rattle.walk.specs.Nearest.{ChainedFrom}
use Rattle.walk.proofs.lengths.Chains.put_all.Given as goal

abbrev pub invariant-loop-k : goal.invariant-loop-k
invariant-loop-k l =
    (l.k-iterator.iter.count ≡ 0)
    × ((behind : List struct-of-edge.Edge) × (l.graph.edges.now ≡ l.k-iterator.iter.iter.rest.now ++ behind))
    × ChainedFrom (edges_in l.graph) (graph_of l.side (true_in l.graph.values.now)) (length l.k-iterator.iter.iter.rest.now) l.self
