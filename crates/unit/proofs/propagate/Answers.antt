-- The literal tried alone waits, or every clause is looked at first; then the queue is followed.
use Rattle.std.proofs.Common.{ap, length, subst}
use Rattle.unit.specs.Queue.{Known}
use Rattle.unit.proofs.Following.{pending_tried, propagated_then}
use Rattle.unit.proofs.propagate.Goals as goal
use Rattle.unit.proofs.propagate.Goals.{in-Some, in-None+in_ok-pass-in-None}

pub follow_all-requires-clause-pending : goal.follow_all-requires-clause-pending
follow_all-requires-clause-pending c = elim c.match-tried.branch [
  | in-Some w ↦
      let tried = subst (λ o. Known c.args.clauses.now.table.now c.args.values.now o) w.in-Some.is c.requires.known in
      rw (w.values-is, w.queue-is) (pending_tried _ c.requires.ready (ap length c.new-queue.ensures.literals) c.new-queue.ensures.end w.push.ensures.literals w.push.ensures.end tried)
  | in-None+in_ok-pass-in-None w ↦ rw (w.values-is, w.queue-is) w.in_ok-pass-in-None.ensures.leads
]

pub returns : goal.returns
returns c = elim c.match-tried.branch [
  | in-Some w ↦ rw w.values-is at c.follow_all.ensures
  | in-None+in_ok-pass-in-None w ↦ propagated_then w.in_ok-pass-in-None.ensures (rw w.values-is at c.follow_all.ensures)
]
