-- `Path::mark_path`: each call marks the last edge of a cheapest walk and goes on from its start.
use native.Mathlib.Omega.{arith}
use Rattle.plan.specs.Tables.{edges_of, atom_of}
use Rattle.reason.proofs.Paths.{edge_fits, first_in, cost_low, start_away, path_none, path_more}
use Rattle.reason.proofs.path.Path.+mark_path.Goals as goal

pub returns-then-count-eq0 : goal.returns-then-count-eq0
returns-then-count-eq0 t c =
    let q = c.args.self.now.question in
    path_none (edges_of q.edges.now) q.assignment.now (atom_of q.atom) c.args.marks.now.marked q.fits c.if-count-eq0.true c.requires

pub mark-requires : goal.mark-requires
mark-requires t c =
    let q = c.args.self.now.question in
    let f = edge_fits q.fits (first_in (edges_of q.edges.now) q.assignment.now (atom_of q.atom) c.nearer_edge-edge.ensures) in
    record { le_variable = f.low; variable_le_max_variables = omega (arith, f.high, q.fits.few) }

pub mark_path-requires : goal.mark_path-requires
mark_path-requires t c =
    let q = c.args.self.now.question in
    let low = cost_low (edges_of q.edges.now) q.assignment.now (atom_of q.atom) c.nearer_edge-edge.ensures _ c.cost.ensures q.fits in
    (omega (arith, c.decreases, c.if-count-eq0.false, low), start_away (edges_of q.edges.now) q.assignment.now (atom_of q.atom) c.nearer_edge-edge.ensures _ c.cost.ensures _ c.from.ensures)

pub returns : goal.returns
returns t c =
    let q = c.args.self.now.question in
    path_more (edges_of q.edges.now) q.assignment.now (atom_of q.atom) c.nearer_edge-edge.ensures _ c.cost.ensures _ c.from.ensures c.mark.ensures c.mark_path.ensures
