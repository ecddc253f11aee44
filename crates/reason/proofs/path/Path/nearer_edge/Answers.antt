-- `Path::nearer_edge`: no edge passed leads nearer, so the first that does is the smallest-numbered; and there is one.
use mathlib.Core.Path.{refl}
use native.Mathlib.Omega.{arith}
use borrow.Author.Count.{below_more}
use Rattle.plan.specs.Tables.{edges_of, atom_of}
use Rattle.plan.proofs.ByPlace.{edges_at, edges_length}
use Rattle.walk.proofs.Truths.{so, not_so}
use Rattle.reason.proofs.Paths.{place_fits, nearer_of, of_nearer, some_nearer}
use Rattle.reason.proofs.Telling.{path_table}
use Rattle.reason.proofs.path.Path.nearer_edge.Goals as goal

pub leads_nearer-requires : goal.leads_nearer-requires
leads_nearer-requires c = place_fits c.args.self.now.question.edges.now c.args.self.now.question.fits c.loop-edge.edge-index c.loop-edge-test.true

pub returns-then-leads_nearer : goal.returns-then-leads_nearer
returns-then-leads_nearer c =
    let q = c.args.self.now.question in
    let is = edges_at q.edges.now c.loop-edge.edge-index in
    let leads = (c.leads_nearer.ensures (edges_of q.edges.now) (path_table c.args.self.now)).0 (so {r = c.leads_nearer.result} refl c.if-leads_nearer.true) in (
      c.loop-edge.edge-index,
      record {
        is = nearer_of (edges_of q.edges.now) q.assignment.now (atom_of q.atom) c.loop-edge.edge-index is (omega (arith, edges_length q.edges.now, c.loop-edge-test.true)) leads;
        least = c.loop-edge.invariant;
      },
      is,
    )

pub loop-edge-preserved : goal.loop-edge-preserved
loop-edge-preserved c =
    let q = c.args.self.now.question in
    let is = edges_at q.edges.now c.loop-edge.edge-index in
    below_more _ _ c.loop-edge.invariant (λ n. not_so {r = c.leads_nearer.result} refl c.if-leads_nearer.false
    ((c.leads_nearer.ensures (edges_of q.edges.now) (path_table c.args.self.now)).1 (of_nearer (edges_of q.edges.now) q.assignment.now (atom_of q.atom) c.loop-edge.edge-index is n)))

pub unreachable-requires : goal.unreachable-requires
unreachable-requires c =
    let q = c.args.self.now.question in
    some_nearer (edges_of q.edges.now) q.assignment.now (atom_of q.atom) c.loop-edge.edge-index c.requires.away c.requires.le_count (omega (arith, edges_length q.edges.now, c.loop-edge-test.false))
    c.loop-edge.invariant
