-- The rows of the edges, one behind the other.
use Prim.Native.Nat.{◌+◌}
use native.Mathlib.Omega.{arith}
use Rattle.clauses.specs.Rows.{into_row, intos_row}
use Rattle.clauses.proofs.Appending.{appending_start, edges_room, edges_turn, edges_end}
use Rattle.clauses.proofs.parts.put_intos.Goals as goal

pub loop-k-init : goal.loop-k-init
unfolding intos_row
loop-k-init c = appending_start c.requires.room

pub put_into-requires-clause-room : goal.put_into-requires-clause-room
put_into-requires-clause-room c = let a = c.args in edges_room a.edges.now (λ e k. into_row a.w e (a.first + k) a.q) c.loop-k.invariant (omega arith)

pub loop-k-preserved : goal.loop-k-preserved
loop-k-preserved c = let a = c.args in edges_turn a.edges.now (λ e k. into_row a.w e (a.first + k) a.q) c.loop-k.invariant (omega arith) c.put_into.ensures

pub returns : goal.returns
unfolding intos_row
returns c = let a = c.args in edges_end a.edges.now (λ e k. into_row a.w e (a.first + k) a.q) c.loop-k.invariant (omega arith)
