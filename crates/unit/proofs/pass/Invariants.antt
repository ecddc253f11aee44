use Rattle.std.proofs.Common.{◌-◌, length}
use Rattle.unit.proofs.Following.{Passing}
use Rattle.unit.proofs.pass.Given as goal

abbrev pub invariant-loop-at : goal.invariant-loop-at
invariant-loop-at l = Passing l.clauses l.initial.values l.values l.queue.literals l.queue.end l.at

abbrev pub decreases-loop-at : goal.decreases-loop-at
decreases-loop-at l = length l.clauses - l.at
