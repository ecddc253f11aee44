-- The rows of the edges, one behind the other.
use Prim.Native.Nat.{◌+◌}
use native.Mathlib.Omega.{arith}
use Rattle.clauses.specs.Rows.{edge_row, edges_row}
use Rattle.clauses.proofs.Appending.{appending_start, edges_room, edges_turn, edges_end}
use Rattle.clauses.proofs.block.put_edges.Goals as goal

pub loop-k-init : goal.loop-k-init
unfolding edges_row
loop-k-init c = appending_start c.requires.room

pub put_edge-requires-clause-room : goal.put_edge-requires-clause-room
put_edge-requires-clause-room c = let a = c.args in edges_room a.edges.now (λ e k. edge_row e (a.level.edges + k) a.level.nodes) c.loop-k.invariant (omega arith)

pub loop-k-preserved : goal.loop-k-preserved
loop-k-preserved c = let a = c.args in edges_turn a.edges.now (λ e k. edge_row e (a.level.edges + k) a.level.nodes) c.loop-k.invariant (omega arith) c.put_edge.ensures

pub returns : goal.returns
unfolding edges_row
returns c = let a = c.args in edges_end a.edges.now (λ e k. edge_row e (a.level.edges + k) a.level.nodes) c.loop-k.invariant (omega arith)
