-- Three clauses, number by number.
use mathlib.Core.Path.{◌≡◌, ap₂}
use Prim.Native.Nat.{◌+◌}
use Rattle.plan.specs.Tables.{edge_of}
use Rattle.clauses.specs.Rows.{gives_row, and_row, edge_row}
use Rattle.clauses.proofs.Appending.{appends_as, appends_then}
use Rattle.clauses.proofs.parts.put_edge.Goals as goal

pub returns : goal.returns
unfolding edge_row and_row gives_row
returns c =
    let row : and_row c.args.t c.from-x.result (c.args.first + c.from.result) ≡ edge_row (edge_of c.args.edge) c.args.t c.args.first =
    ap₂ (λ x u. and_row c.args.t x (c.args.first + u)) c.from-x.ensures c.from.ensures in
    let clauses = appends_then c.gives.ensures c.gives-2.ensures in
    appends_as row (appends_then (appends_then (appends_then (appends_then clauses c.off.ensures) c.off-2.ensures) c.on.ensures) c.zero.ensures)
