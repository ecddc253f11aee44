use Rattle.std.proofs.Common.{◌-◌, Ok}
use Rattle.plan.specs.Ranged.{max_variables}
use Rattle.unit.specs.Queue.{Follows}
use Rattle.unit.proofs.follow_all.Given as goal

abbrev pub invariant-loop-head : goal.invariant-loop-head
invariant-loop-head l = Follows l.clauses.table.now l.initial.values l.values l.queue.literals l.head l.queue.end (Ok tt)

abbrev pub decreases-loop-head : goal.decreases-loop-head
decreases-loop-head l = max_variables - l.head
