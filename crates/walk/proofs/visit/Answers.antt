-- `walk::visit`: node by node, each gets its count and its place in the queue.
use native.Mathlib.Omega.{arith}
use Rattle.walk.proofs.Sets.{size_lowest}
use Rattle.walk.proofs.Visits.{visited_none, visited_more}
use Rattle.walk.proofs.visit.Goals as goal

pub loop-node-init : goal.loop-node-init
loop-node-init c = rw c.into_iter-node-iterator.ensures.into_iter_gives (c.requires, λ e C Q v. v)

pub bounds-queue-end : goal.bounds-queue-end
bounds-queue-end c = omega (arith, c.loop-node.invariant.0, size_lowest c.in-Some.ensures.steps)

pub loop-node-preserved : goal.loop-node-preserved
loop-node-preserved c =
    let room = size_lowest c.in-Some.ensures.steps in (
      omega (arith, room),
      λ e C Q v. c.loop-node.invariant.1 e C Q (visited_more _ _ _ _ _ _ _ _ _ _ c.in-Some.ensures.steps (omega arith) (omega (arith, room)) v),
    )

pub returns : goal.returns
returns c = c.loop-node.invariant.1 _ _ _ (visited_none _ _ _ _ _ c.in-None.ensures.steps)
