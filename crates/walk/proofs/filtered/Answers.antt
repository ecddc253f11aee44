-- `walk::filtered`: member by member, each is kept as the test answered.
use Rattle.walk.proofs.Sets.{taken_lowest}
use Rattle.walk.proofs.Keeping.{kept_none, kept_in, kept_out, kept_all}
use Rattle.walk.proofs.filtered.Goals as goal

pub loop-k-init : goal.loop-k-init
loop-k-init g c = rw c.into_iter-k-iterator.ensures.into_iter_gives kept_none

pub keeps-requires : goal.keeps-requires
keeps-requires g c = c.requires _ (c.loop-k.invariant.part _ (taken_lowest c.in-Some.ensures.steps).is)

pub loop-k-preserved-then-keeps : goal.loop-k-preserved-then-keeps
loop-k-preserved-then-keeps g c = kept_in c.loop-k.invariant (taken_lowest c.in-Some.ensures.steps) (rw c.if-keeps.true at c.keeps.ensures)

pub loop-k-preserved : goal.loop-k-preserved
loop-k-preserved g c = kept_out c.loop-k.invariant (taken_lowest c.in-Some.ensures.steps) (rw c.if-keeps.false at c.keeps.ensures)

pub returns : goal.returns
returns g c = kept_all c.loop-k.invariant c.in-None.ensures.steps
