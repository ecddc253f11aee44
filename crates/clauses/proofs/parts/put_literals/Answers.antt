-- The rows of the edges, one behind the other.
use Prim.Native.Nat.{◌+◌}
use native.Mathlib.Omega.{arith}
use Rattle.clauses.specs.Rows.{literal_row, literals_row}
use Rattle.clauses.proofs.Appending.{appending_start, edges_room, edges_turn, edges_end}
use Rattle.clauses.proofs.parts.put_literals.Goals as goal

pub loop-k-init : goal.loop-k-init
unfolding literals_row
loop-k-init c = appending_start c.requires.room

pub put_literal-requires-clause-room : goal.put_literal-requires-clause-room
put_literal-requires-clause-room c = let a = c.args in edges_room a.edges.now (λ e k. literal_row a.w e (a.first + k)) c.loop-k.invariant (omega arith)

pub loop-k-preserved : goal.loop-k-preserved
loop-k-preserved c = let a = c.args in edges_turn a.edges.now (λ e k. literal_row a.w e (a.first + k)) c.loop-k.invariant (omega arith) c.put_literal.ensures

pub returns : goal.returns
unfolding literals_row
returns c = let a = c.args in edges_end a.edges.now (λ e k. literal_row a.w e (a.first + k)) c.loop-k.invariant (omega arith)
