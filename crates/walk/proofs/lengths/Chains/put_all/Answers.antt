-- `walk::lengths::Chains::put_all`: edge by edge from the last one down, so the chains are those of the edges from there on. The edge is one of the table, so its start is a
-- node, and its variable has a value.
use mathlib.Core.Path.{◌≡◌, refl, sym, ap, ◌∙◌}
use mathlib.Core.List.{[], append-nil}
use native.Mathlib.Omega.{arith}
use Rattle.plan.specs.Tables.{edge_of}
use lib.ListN.{length}
use Rattle.plan.proofs.ByPlace.{edges_length}
use Rattle.walk.proofs.Truths.{so, not_so}
use Rattle.walk.proofs.Reading.{ends_in, variable_in}
use Rattle.walk.proofs.Chaining.{Last, last_one, chained_skip, chained_put}
use Rattle.walk.proofs.lengths.Chains.put_all.Goals as goal
use Rattle.walk.proofs.lengths.Chains.put_all.Goals.{In-Some}

last : (c : In-Some) → Last c.args.graph.now.edges.now c.loop-k.k-iterator.iter.iter.rest.now c.next.new.self.iter.iter.rest.now c.in-Some.k c.in-Some.edge.now
last c =
    let s = c.in-Some.ensures.steps in
    last_one _ _ _ _ _ _ c.loop-k.invariant.1 c.loop-k.invariant.0 s.1.0 s.1.1

pub loop-k-init : goal.loop-k-init
loop-k-init c =
    let r = ap (λ x. x.iter) c.into_iter-k-iterator.ensures.into_iter_gives ∙ c.rev-k-items.ensures.source in
    let e = c.enumerate.ensures in
    let all = ap (λ x. x.iter.rest.now) r ∙ ap (λ x. x.rest.now) e.source ∙ c.iter.ensures.rest in
    (ap (λ x. x.count) r ∙ e.count, ([], sym (append-nil _ ∙ all)), rw (all, ← edges_length c.args.graph.now.edges.now) c.requires.none)

pub admits-requires : goal.admits-requires
admits-requires c =
    let p = variable_in _ _ _ (last (goal.at.admits-requires c).In-Some).here (last (goal.at.admits-requires c).In-Some).inside c.args.graph.now.placed in
    record { le_variable = p.0; variable_in_bounds = p.1 }

pub bounds-self-from : goal.bounds-self-from
bounds-self-from c = omega (arith, c.from-from.ensures, ends_in _ _ _ (last (goal.at.bounds-self-from c).In-Some).here (last (goal.at.bounds-self-from c).In-Some).inside c.args.graph.now.inside)

pub bounds-self-k : goal.bounds-self-k
bounds-self-k c = omega (arith, (last (goal.at.bounds-self-k c).In-Some).inside, edges_length c.args.graph.now.edges.now, c.requires.few)

pub overflow_cast-self : goal.overflow_cast-self
overflow_cast-self c = record { fits = omega (arith, (last (goal.at.overflow_cast-self c).In-Some).inside, edges_length c.args.graph.now.edges.now, c.requires.few) }

pub bounds-self-from-then-admits : goal.bounds-self-from-then-admits
bounds-self-from-then-admits c = omega (arith, c.from-from.ensures, ends_in _ _ _ (last (goal.at.bounds-self-from-then-admits c).In-Some).here (last (goal.at.bounds-self-from-then-admits c).In-Some).inside c.args.graph.now.inside)

pub loop-k-preserved-then-admits : goal.loop-k-preserved-then-admits
loop-k-preserved-then-admits c =
    let es = c.args.graph.now.edges.now in
    let l = last (goal.at.loop-k-preserved-then-admits c).In-Some in
    let ends = ends_in _ _ _ l.here l.inside c.args.graph.now.inside in (
      omega (arith, c.in-Some.ensures.steps.0, c.loop-k.invariant.0),
      l.first,
      rw (← l.place) (chained_put (rw l.more at c.loop-k.invariant.2) _ (omega (arith, c.from-from.ensures, ends)) (omega (arith, l.inside, edges_length es)) c.requires.few
          (rw l.here at (so (c.admits.ensures (edge_of c.in-Some.edge.now) refl) c.if-admits.true)) (sym (ap (λ e. e.from) l.here) ∙ sym c.from-from.ensures)),
    )

pub loop-k-preserved : goal.loop-k-preserved
loop-k-preserved c =
    let l = last (goal.at.loop-k-preserved c).In-Some in (
      omega (arith, c.in-Some.ensures.steps.0, c.loop-k.invariant.0),
      l.first,
      rw (← l.place) (chained_skip (rw l.more at c.loop-k.invariant.2) (λ t. not_so (c.admits.ensures (edge_of c.in-Some.edge.now) refl) c.if-admits.false (rw l.here t))),
    )

pub returns : goal.returns
returns c =
    let s = c.in-None.ensures.steps in
    let e : length c.loop-k.k-iterator.iter.iter.rest.now ≡ 0 = s.1.0 in
    rw e at c.loop-k.invariant.2
