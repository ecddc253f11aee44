use Prim.Native.Nat.{◌+◌}
use lib.ListN.{length}
use Rattle.plan.specs.Meaning.{edge}
use Rattle.plan.specs.Tables.{edges_of}
use Rattle.clauses.specs.Rows.{literal_row}
use Rattle.clauses.proofs.Appending.{Appending}
use Rattle.clauses.proofs.parts.put_literals.Given as goal

abbrev pub invariant-loop-k : goal.invariant-loop-k
invariant-loop-k l = Appending (λ j. literal_row l.w (edge (edges_of l.edges) j) (l.first + j)) (length (edges_of l.edges)) l.initial.out l.out l.k
