-- Two clauses, number by number.
use Rattle.clauses.specs.Rows.{gives_row, end_row}
use Rattle.clauses.proofs.Appending.{appends_then}
use Rattle.clauses.proofs.block.put_end.Goals as goal

pub returns : goal.returns
unfolding end_row gives_row
returns c = appends_then (appends_then (appends_then c.gives.ensures c.on.ensures) c.off.ensures) c.zero.ensures
