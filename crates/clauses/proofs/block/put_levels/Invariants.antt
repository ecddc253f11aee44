use Rattle.plan.specs.Tables.{edges_of}
use Rattle.clauses.specs.Rows.{level_row}
use Rattle.clauses.specs.Shapes.{level_by}
use Rattle.clauses.proofs.Appending.{Appending}
use Rattle.clauses.proofs.block.put_levels.Given as goal

abbrev pub invariant-loop-i : goal.invariant-loop-i
invariant-loop-i l = Appending (λ j. level_row (edges_of l.shape.edges.now) l.shape.nodes (level_by l.shape j)) l.shape.top l.initial.out l.out l.i
