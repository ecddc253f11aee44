use Rattle.plan.specs.Tables.{edges_of}
use Rattle.clauses.specs.Rows.{levels_row}
use Rattle.dimacs.specs.Printers.{Lays}
use Rattle.dimacs.specs.Printing.{entries}
use Rattle.listing.proofs.block.print_levels.Given as goal

abbrev pub invariant-loop-i : goal.invariant-loop-i
invariant-loop-i l = Lays (entries (levels_row (edges_of l.shape.edges.now) l.shape.nodes l.shape.base l.i)) l.initial.printer l.printer
