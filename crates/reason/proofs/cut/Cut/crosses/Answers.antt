-- `Cut::crosses`: what the tests say of the edge's variable and of the distances of its ends is what it is to lead across.
use mathlib.Core.Path.{◌≡◌, refl, ap, ◌∙◌}
use lib.Dec.{T}
use Rattle.plan.specs.Meaning.{true_in, off}
use Rattle.plan.specs.Reason.{LeavesAt}
use Rattle.plan.specs.Tables.{edge_of}
use Rattle.walk.specs.Walking.{reached_in, distance_in}
use Rattle.walk.proofs.Truths.{so, not_so}
use Rattle.reason.proofs.Paths.{also}
use Rattle.reason.proofs.Cuts.{off_of, across_none, across_far}
use Rattle.reason.proofs.cut.Cut.crosses.Goals as goal
use Rattle.reason.proofs.cut.Cut.crosses.Goals.{After-is_reached-2}

-- the edge is off, its start is reached and it leaves in time; and whether its end is reached
module _ (c : After-is_reached-2) where
  is_off : T (true_in c.args.self.now.question.assignment.now (off c.args.edge.variable))
  is_off = off_of c.args.self.now.question.assignment.now c.args.edge.variable c.is_present.ensures c.if-is_present.false

  start : T (reached_in c.args.self.now.distances.now c.args.edge.from)
  start = so (c.is_reached.ensures ∙ ap (reached_in c.args.self.now.distances.now) c.from-from.ensures) c.if-not-is_reached.false

  near_is : c.distance-near.result ≡ distance_in c.args.self.now.distances.now c.args.edge.from
  near_is = c.distance-near.ensures ∙ ap (distance_in c.args.self.now.distances.now) c.from-from.ensures

  soon : LeavesAt c.args.self.now.question.atom.kind c.args.self.now.question.atom.bound (distance_in c.args.self.now.distances.now c.args.edge.from)
  soon = (rw near_is at c.leaves_at.ensures).0 (so {r = c.leaves_at.result} refl c.if-not-leaves_at.false)

  to_is : c.is_reached-2.result ≡ reached_in c.args.self.now.distances.now c.args.edge.to
  to_is = c.is_reached-2.ensures ∙ ap (reached_in c.args.self.now.distances.now) c.from-to.ensures

pub returns-then-not-is_reached-2 : goal.returns-then-not-is_reached-2
returns-then-not-is_reached-2 c =
    let q = c.args.self.now.question in
    let d = (goal.at.returns-then-not-is_reached-2 c).After-is_reached-2 in
    λ es x. also (is_off d) ((λ z. across_none q.atom.kind q.atom.bound x (edge_of c.args.edge) (start d) (soon d) (not_so (to_is d) c.if-not-is_reached-2.true)), (λ y. tt))

pub returns : goal.returns
returns c =
    let q = c.args.self.now.question in
    let d = (goal.at.returns c).After-is_reached-2 in
    let far = c.distance.ensures ∙ ap (distance_in c.args.self.now.distances.now) c.from-to.ensures in
    let beyond = rw (near_is d, c.cost.ensures, far) at c.ends_beyond.ensures in
    λ es x.
    let across = across_far q.atom.kind q.atom.bound x (edge_of c.args.edge) (start d) (soon d) (so (to_is d) c.if-not-is_reached-2.false) in
    also (is_off d) ((λ y. across.0 (beyond.0 y)), (λ y. beyond.1 (across.1 y)))
