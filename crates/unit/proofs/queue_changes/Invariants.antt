use Rattle.unit.proofs.Changes.{Queueing}
use Rattle.unit.proofs.queue_changes.Given as goal

abbrev pub invariant-loop-i : goal.invariant-loop-i
invariant-loop-i l = Queueing l.before l.values l.queue.literals l.queue.end l.i
