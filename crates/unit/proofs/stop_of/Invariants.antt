use Rattle.std.proofs.Common.{pos, length, get_or, ◌<◌}
use Rattle.plan.specs.Places.{Without}
use Rattle.unit.specs.Clauses.{Stops}
use Rattle.unit.proofs.stop_of.Given as goal

abbrev pub invariant-loop-at : goal.invariant-loop-at
invariant-loop-at l = (l.at < length l.clauses) × Without (λ k. Stops l.values l.fn.passed (get_or l.clauses k (pos 0))) l.from l.at
