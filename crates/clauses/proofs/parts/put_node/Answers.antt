-- The clause of the node, that it stays reached, and the clauses of the edges into it.
use Rattle.clauses.specs.Rows.{node_row}
use Rattle.clauses.proofs.Appending.{appends_then}
use Rattle.clauses.proofs.parts.put_node.Goals as goal

pub returns : goal.returns
unfolding node_row
returns c =
    let clause = appends_then (appends_then c.off.ensures c.on.ensures) c.put_literals.ensures in
    appends_then (appends_then clause (appends_then c.zero.ensures c.gives.ensures)) c.put_intos.ensures
