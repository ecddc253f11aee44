-- The levels, one behind the other.
use native.Mathlib.Omega.{arith}
use Rattle.clauses.specs.Rows.{levels_row}
use Rattle.clauses.proofs.Appending.{appending_start, appending_room, appending_turn, appending_end}
use Rattle.clauses.proofs.block.put_levels.Goals as goal

pub loop-i-init : goal.loop-i-init
unfolding levels_row
loop-i-init c = appending_start c.requires

pub put_level-requires-clause-room : goal.put_level-requires-clause-room
put_level-requires-clause-room c = rw c.level-level.ensures (appending_room c.loop-i.invariant (omega arith))

pub loop-i-preserved : goal.loop-i-preserved
loop-i-preserved c = appending_turn c.loop-i.invariant (omega arith) (rw c.level-level.ensures at c.put_level.ensures)

pub returns : goal.returns
unfolding levels_row
returns c = appending_end c.loop-i.invariant (omega arith)
