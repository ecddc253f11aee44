-- `walk::filled`: edge by edge, so the sets are those of the edges so far. The edge is one of the table, so its ends are nodes, and its variable has a value.
use mathlib.Core.Path.{refl, sym, ap, ◌∙◌}
use native.Mathlib.Numerals.{add-one}
use native.Mathlib.Omega.{arith}
use lib.ListN.{get_or}
use Rattle.plan.specs.Tables.{edge_of}
use Rattle.plan.proofs.ByPlace.{blank_edge, edges_length, edges_at}
use Rattle.walk.proofs.Truths.{so, not_so}
use Rattle.walk.proofs.Reading.{ends_in, variable_in}
use Rattle.walk.proofs.Filling.{filled_none, filled_skip, filled_put, filled_all}
use Rattle.walk.proofs.filled.Goals as goal
use Rattle.walk.proofs.filled.Goals.{then-admits, else-admits}

pub loop-edge-init : goal.loop-edge-init
loop-edge-init c = filled_none _ _

pub admits-requires : goal.admits-requires
admits-requires c =
    let p = variable_in _ _ _ (edges_at c.args.graph.now.edges.now c.loop-edge.edge-index) c.loop-edge-test.true c.args.graph.now.placed in
    record { le_variable = p.0; variable_in_bounds = p.1 }

pub overflow_shl-sets : goal.overflow_shl-sets
overflow_shl-sets c = omega (arith, ends_in _ _ _ (edges_at c.args.graph.now.edges.now c.loop-edge.edge-index) c.loop-edge-test.true c.args.graph.now.inside)

pub offset_bounds-sets-from : goal.offset_bounds-sets-from
offset_bounds-sets-from c = omega (arith, c.from.ensures, ends_in _ _ _ (edges_at c.args.graph.now.edges.now c.loop-edge.edge-index) c.loop-edge-test.true c.args.graph.now.inside)

pub bounds-sets-from : goal.bounds-sets-from
bounds-sets-from c = omega (arith, c.from.ensures, ends_in _ _ _ (edges_at c.args.graph.now.edges.now c.loop-edge.edge-index) c.loop-edge-test.true c.args.graph.now.inside)

pub bounds-sets-from-then-admits : goal.bounds-sets-from-then-admits
bounds-sets-from-then-admits c = omega (arith, c.from.ensures, ends_in _ _ _ (edges_at c.args.graph.now.edges.now c.loop-edge.edge-index) c.loop-edge-test.true c.args.graph.now.inside)

pub loop-edge-preserved : goal.loop-edge-preserved
loop-edge-preserved c =
    let es = c.args.graph.now.edges.now in
    let k = c.loop-edge.edge-index in
    let here = edges_at es k in
    let i = ends_in es k _ here c.loop-edge-test.true c.args.graph.now.inside in
    rw (add-one k) (elim c.if-admits.branch [
      | then-admits w ↦ rw w.sets-is
          (filled_put c.loop-edge.invariant _ _ (omega (arith, w.from.ensures, i)) (omega (arith, i)) (omega (arith, edges_length es, c.loop-edge-test.true))
          (rw here at (so (c.admits.ensures (edge_of (get_or es k blank_edge)) refl) w.if-admits.true)) (sym (ap (λ e. e.from) here) ∙ sym w.from.ensures) (sym (ap (λ e. e.to) here)))
      | else-admits w ↦ rw w.sets-is (filled_skip c.loop-edge.invariant (λ t. not_so (c.admits.ensures (edge_of (get_or es k blank_edge)) refl) w.if-admits.false (rw here t)))
    ])

pub returns : goal.returns
returns c = filled_all c.loop-edge.invariant (omega (arith, edges_length c.args.graph.now.edges.now))
