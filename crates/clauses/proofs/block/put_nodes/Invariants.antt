use Prim.Native.Nat.{◌+◌}
use Rattle.plan.specs.Tables.{edges_of}
use Rattle.clauses.specs.Rows.{node_row}
use Rattle.clauses.proofs.Appending.{Appending}
use Rattle.clauses.proofs.block.put_nodes.Given as goal

abbrev pub invariant-loop-w : goal.invariant-loop-w
invariant-loop-w l = Appending (λ j. node_row (edges_of l.edges) l.level.edges (l.level.nodes + j) (l.level.next + j) j) l.nodes l.initial.out l.out l.w
