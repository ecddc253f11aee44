-- The clauses of the nodes, one behind the other.
use native.Mathlib.Omega.{arith}
use Rattle.clauses.specs.Rows.{nodes_row}
use Rattle.clauses.proofs.Appending.{appending_start, appending_room, appending_turn, appending_end}
use Rattle.clauses.proofs.block.put_nodes.Goals as goal

pub loop-w-init : goal.loop-w-init
unfolding nodes_row
loop-w-init c = appending_start c.requires.room

pub put_node-requires-clause-room : goal.put_node-requires-clause-room
put_node-requires-clause-room c = appending_room c.loop-w.invariant (omega arith)

pub loop-w-preserved : goal.loop-w-preserved
loop-w-preserved c = appending_turn c.loop-w.invariant (omega arith) c.put_node.ensures

pub returns : goal.returns
unfolding nodes_row
returns c = appending_end c.loop-w.invariant (omega arith)
