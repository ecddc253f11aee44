use Prim.Native.Nat.{◌+◌}
use Rattle.clauses.specs.Rows.{alone_row}
use Rattle.clauses.proofs.Appending.{Appending}
use Rattle.clauses.proofs.block.put_start.Given as goal

abbrev pub invariant-loop-w : goal.invariant-loop-w
invariant-loop-w l = Appending (λ j. alone_row j l.source (l.first + j)) l.nodes l.initial.out l.out l.w
