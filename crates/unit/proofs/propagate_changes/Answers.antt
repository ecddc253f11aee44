-- The changes are queued, and the queue is followed.
use Rattle.unit.proofs.Changes.{changes_wait}
use Rattle.unit.proofs.propagate_changes.Goals as goal

pub follow_all-requires-clause-pending : goal.follow_all-requires-clause-pending
follow_all-requires-clause-pending c = changes_wait c.args.clauses.now.table.now c.args.before.now c.args.values.now _ _ c.requires.since c.queue_changes-queue.ensures
