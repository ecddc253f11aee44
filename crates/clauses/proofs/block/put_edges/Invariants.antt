use Prim.Native.Nat.{◌+◌}
use lib.ListN.{length}
use Rattle.plan.specs.Meaning.{edge}
use Rattle.plan.specs.Tables.{edges_of}
use Rattle.clauses.specs.Rows.{edge_row}
use Rattle.clauses.proofs.Appending.{Appending}
use Rattle.clauses.proofs.block.put_edges.Given as goal

abbrev pub invariant-loop-k : goal.invariant-loop-k
invariant-loop-k l = Appending (λ j. edge_row (edge (edges_of l.edges) j) (l.level.edges + j) l.level.nodes) (length (edges_of l.edges)) l.initial.out l.out l.k
