-- `walk::lengths::nearest`: node by node, each is compared with the nearest one so far.
use mathlib.Core.Path.{refl}
use native.Mathlib.Omega.{arith}
use Rattle.walk.proofs.Sets.{taken_lowest}
use Rattle.walk.proofs.Choosing.{choose_start, choose_other, choose_same, choose_end}
use Rattle.walk.proofs.lengths.nearest.Goals as goal

pub loop-other-init : goal.loop-other-init
loop-other-init c = rw c.into_iter-other-iterator.ensures.into_iter_gives (choose_start _ _ c.ranges.set.fits c.requires, refl)

pub loop-other-preserved-then-far-other : goal.loop-other-preserved-then-far-other
loop-other-preserved-then-far-other c =
    let v = c.loop-other.invariant in
    (choose_other v.0 (taken_lowest c.in-Some.ensures.steps) (omega (arith, v.1, c.if-far-other.true)), refl)

pub loop-other-preserved : goal.loop-other-preserved
loop-other-preserved c =
    let v = c.loop-other.invariant in
    (choose_same v.0 (taken_lowest c.in-Some.ensures.steps) (omega (arith, v.1, c.if-far-other.false)), v.1)

pub returns : goal.returns
returns c = choose_end c.loop-other.invariant.0 c.in-None.ensures.steps
