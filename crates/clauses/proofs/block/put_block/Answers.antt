-- The start, the levels and the end, with the numbers as the code reads and adds them.
use borrow.Author.Rules.{rules}
use Rattle.clauses.specs.Rows.{block_row}
use Rattle.plan.proofs.Fronts.{room_first}
use Rattle.clauses.proofs.Appending.{appends_then, room_behind, put_ends}
use Rattle.clauses.proofs.block.put_block.Goals as goal

pub put_start-requires-clause-room : goal.put_start-requires-clause-room
unfolding block_row
put_start-requires-clause-room c = rw c.from-2.ensures (room_first _ _ (room_first _ _ c.requires))

pub put_levels-requires : goal.put_levels-requires
unfolding block_row
put_levels-requires c = room_behind _ _ (room_first _ _ c.requires) (rw c.from-2.ensures at c.put_start.ensures)

pub put_end-requires-clause-room : goal.put_end-requires-clause-room
unfolding block_row
put_end-requires-clause-room c =
    rw (c.from-3.ensures, c.from.ensures, c.first.ensures) (room_behind _ _ c.requires (appends_then (rw c.from-2.ensures at c.put_start.ensures) c.put_levels.ensures))

pub returns : goal.returns
unfolding block_row
returns c =
    let row = rw (c.from-3.ensures, c.from.ensures, c.first.ensures) at c.put_end.ensures in
    let all = appends_then (appends_then (rw c.from-2.ensures at c.put_start.ensures) c.put_levels.ensures) row in
    put_ends all (search rules)
