-- `Path::leads_nearer`: each test is one part of what it is to lead nearer.
use mathlib.Core.Path.{◌≡◌, sym, ap, ◌∙◌}
use Prim.Native.Nat.{◌-◌}
use native.Mathlib.Omega.{arith}
use lib.Dec.{eqb→eq, eqb_refl}
use Rattle.plan.specs.Meaning.{graph_of, true_in}
use Rattle.plan.specs.Tables.{edge_of}
use Rattle.walk.specs.Walking.{reached_in, distance_in}
use Rattle.walk.proofs.Truths.{so, not_so, reached_distance, distance_is}
use Rattle.reason.proofs.Paths.{never}
use Rattle.reason.proofs.path.Path.leads_nearer.Goals as goal

pub returns-then-not-is_present : goal.returns-then-not-is_present
returns-then-not-is_present c =
    let q = c.args.self.now.question in
    let present_is = c.is_present.ensures ∙ ap (λ s. graph_of s (true_in q.assignment.now) (edge_of c.args.edge)) (c.settling.ensures q.atom.kind) in
    λ es x. never (λ l. not_so present_is c.if-not-is_present.true l.present)

pub returns-then-near-count : goal.returns-then-near-count
returns-then-near-count c =
    let q = c.args.self.now.question in
    let d = c.args.self.now.distances.now in
    let present_is = c.is_present.ensures ∙ ap (λ s. graph_of s (true_in q.assignment.now) (edge_of c.args.edge)) (c.settling.ensures q.atom.kind) in
    let from_is = c.is_reached.ensures ∙ ap (reached_in d) c.from-from.ensures in
    let near_is = c.distance-near.ensures ∙ ap (distance_in d) c.from-from.ensures in
    λ es x. (
      (λ e. record {
        present = so present_is c.if-not-is_present.false;
        ends = sym c.from.ensures ∙ c.if-from-node.false;
        before = distance_in d c.args.edge.from;
        near = reached_distance x _ (so from_is c.if-not-is_reached.false);
        sum = omega (arith, eqb→eq (c.args.count - c.distance-near.result) c.cost.result e, c.if-near-count.true, c.cost.ensures, near_is);
      }),
      (λ l.
          let e : c.args.count - c.distance-near.result ≡ c.cost.result = omega (arith, c.cost.ensures, near_is, distance_is x _ _ l.near, l.sum) in
          rw e (eqb_refl c.cost.result)),
    )
