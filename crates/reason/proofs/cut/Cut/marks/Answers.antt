-- `Cut::marks`: after so many edges the marks are those of the cut below that number.
use mathlib.Core.Path.{refl}
use Prim.Native.Nat.{ℕ}
use native.Mathlib.Numerals.{add-one}
use native.Mathlib.Omega.{arith}
use Rattle.plan.specs.Tables.{edges_of, edge_of, atom_of}
use Rattle.plan.proofs.ByPlace.{blank_edge, edges_at, edges_length}
use Rattle.walk.proofs.Truths.{so, not_so}
use lib.ListN.{get_or}
use Rattle.reason.specs.Answers.{with_edges}
use Rattle.reason.specs.Marks.{MarksAlso, CutAt}
use Rattle.reason.proofs.Paths.{marks_as, marks_none, place_fits}
use Rattle.reason.proofs.Cuts.{blank, cut_at, cut_more, cut_all}
use Rattle.reason.proofs.Telling.{cut_table}
use Rattle.reason.proofs.cut.Cut.marks.Goals as goal
use Rattle.reason.proofs.cut.Cut.marks.Goals.{then-crosses, else-crosses}

pub loop-edge-init : goal.loop-edge-init
loop-edge-init c = rw c.none-marks.ensures (λ φ i. ((λ t. absurd (blank 512 i t)), (λ q. absurd (omega (arith, q.1)))))

pub crosses-requires : goal.crosses-requires
crosses-requires c = place_fits c.args.self.now.question.edges.now c.args.self.now.question.fits c.loop-edge.edge-index c.loop-edge-test.true

pub mark-requires : goal.mark-requires
mark-requires c =
    let q = c.args.self.now.question in
    let f = place_fits q.edges.now q.fits c.loop-edge.edge-index c.loop-edge-test.true in
    record { le_variable = f.low; variable_le_max_variables = omega (arith, f.high, q.fits.few) }

pub loop-edge-preserved : goal.loop-edge-preserved
loop-edge-preserved c =
    let q = c.args.self.now.question in
    let n = c.loop-edge.edge-index in
    λ φ.
    let file = with_edges (edges_of q.edges.now) φ in
    let its = λ (v : ℕ). cut_at file q.assignment.now (atom_of q.atom) n (edge_of (get_or q.edges.now n blank_edge)) (omega (arith, edges_length q.edges.now, c.loop-edge-test.true)) (edges_at q.edges.now n) v in
    let crosses = c.crosses.ensures (edges_of q.edges.now) (cut_table c.args.self.now) in
    let marks : MarksAlso (CutAt n file q.assignment.now (atom_of q.atom)) c.loop-edge.marks.marked c.if-crosses.marks.marked =
    elim c.if-crosses.branch [
      | then-crosses w ↦
          let y = crosses.0 (so {r = c.crosses.result} refl w.if-crosses.true) in
          rw w.marks-is (marks_as (λ v. ((λ p. (its v).1 (p, y)), (λ p. ((its v).0 p).0))) w.mark.ensures)
      | else-crosses w ↦ rw w.marks-is (marks_none _ (λ v p. not_so {r = c.crosses.result} refl w.if-crosses.false (crosses.1 ((its v).0 p).1)))
    ] in
    rw (add-one n) (cut_more file q.assignment.now (atom_of q.atom) c.loop-edge.marks.marked n (c.loop-edge.invariant φ) marks)

pub returns : goal.returns
returns c =
    let q = c.args.self.now.question in
    λ φ.
    cut_all (with_edges (edges_of q.edges.now) φ) q.assignment.now (atom_of q.atom) c.loop-edge.marks.marked c.loop-edge.edge-index (omega (arith, edges_length q.edges.now, c.loop-edge-test.false))
    (c.loop-edge.invariant φ)
