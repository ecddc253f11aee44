-- `walk::filtered`: each member that is not left was asked, and is kept as the test answered.
use Rattle.walk.proofs.Keeping.{Kept}
use Rattle.walk.proofs.filtered.Given as goal

abbrev pub invariant-loop-k : goal.invariant-loop-k
invariant-loop-k g l = Kept (goal.F-post g l.keeps) l.set l.those l.k-iterator.0
