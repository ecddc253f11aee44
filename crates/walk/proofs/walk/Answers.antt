-- `walk::walk`: nodes are taken from the queue in the order of their distance, so each node's first count is its distance.
use mathlib.Core.Path.{◌≡◌}
use lib.Pow.{pow-lt}
use native.Mathlib.Numerals.{add-one}
use native.Mathlib.Omega.{arith}
use Rattle.walk.proofs.Sets.{one_shifted}
use Rattle.walk.proofs.Breadth.{tail_le, count_in, begin, left_room, left_turn, table}
use Rattle.walk.proofs.walk.Goals as goal

pub loop-head-init : goal.loop-head-init
loop-head-init c =
    (omega arith, begin _ c.args.source _ _ c.requires (omega arith) (omega (arith, one_shifted c.args.source c.requires, pow-lt c.requires)))

pub bounds-queue-head : goal.bounds-queue-head
bounds-queue-head c = omega (arith, tail_le c.loop-head.invariant.1)

pub overflow_add-count : goal.overflow_add-count
overflow_add-count c = rw c.from-node.ensures (omega (arith, count_in c.loop-head.invariant.1 c.loop-head-test.true))

pub visit-tail-requires : goal.visit-tail-requires
visit-tail-requires c =
    rw c.from-node.ensures (left_room _ _ _ _ _ _ _ c.loop-head.auto.left-fits.fits c.loop-head.invariant.1 c.loop-head-test.true)

pub loop-head-smaller : goal.loop-head-smaller
loop-head-smaller c = omega (arith, tail_le c.loop-head.invariant.1)

pub loop-head-preserved : goal.loop-head-preserved
loop-head-preserved c =
    let v = c.visit-tail.ensures in (
      omega (arith, v.ends),
      rw c.from-node.ensures (left_turn _ _ _ _ _ _ _ c.loop-head.auto.left-fits.fits c.loop-head.invariant.1 c.loop-head-test.true _ _ _ _ (add-one _) (rw c.from-node.ensures at v)),
    )

pub returns : goal.returns
returns c =
    let e : c.loop-head.head ≡ c.loop-head.tail = omega arith in
    record { table = λ es g inside n. table _ _ c.requires es g inside n _ _ _ _ (rw e at c.loop-head.invariant.1) }
