-- The clauses of the nodes, one behind the other.
use native.Mathlib.Omega.{arith}
use Rattle.clauses.specs.Rows.{start_row}
use Rattle.clauses.proofs.Appending.{appending_start, appending_room, appending_turn, appending_end}
use Rattle.clauses.proofs.block.put_start.Goals as goal

pub loop-w-init : goal.loop-w-init
unfolding start_row
loop-w-init c = appending_start c.requires.room

pub put_alone-requires-clause-room : goal.put_alone-requires-clause-room
put_alone-requires-clause-room c = appending_room c.loop-w.invariant (omega arith)

pub loop-w-preserved : goal.loop-w-preserved
loop-w-preserved c = appending_turn c.loop-w.invariant (omega arith) c.put_alone.ensures

pub returns : goal.returns
unfolding start_row
returns c = appending_end c.loop-w.invariant (omega arith)
