use Rattle.std.proofs.Common.{◌+◌, ◌-◌, pos, neg_ℤ, length, get_or}
use Rattle.unit.proofs.Following.{Following}
use Rattle.unit.proofs.follow.Given as goal

abbrev pub invariant-loop-place : goal.invariant-loop-place
invariant-loop-place l = Following l.clauses.table.now l.initial.values l.values l.queue.literals (neg_ℤ (get_or l.initial.queue.literals l.head (pos 0))) (l.head + 1) l.queue.end l.place

abbrev pub decreases-loop-place : goal.decreases-loop-place
decreases-loop-place l = length l.clauses.table.now - l.place
