-- The edges, and the nodes behind them.
use Rattle.clauses.specs.Rows.{level_row}
use Rattle.plan.proofs.Fronts.{room_first}
use Rattle.clauses.proofs.Appending.{room_behind, appends_then}
use Rattle.clauses.proofs.block.put_level.Goals as goal

pub put_edges-requires-clause-room : goal.put_edges-requires-clause-room
unfolding level_row
put_edges-requires-clause-room c = room_first _ _ c.requires.room

pub put_nodes-requires-clause-room : goal.put_nodes-requires-clause-room
unfolding level_row
put_nodes-requires-clause-room c = room_behind _ _ c.requires.room c.put_edges.ensures

pub returns : goal.returns
unfolding level_row
returns c = appends_then c.put_edges.ensures c.put_nodes.ensures
