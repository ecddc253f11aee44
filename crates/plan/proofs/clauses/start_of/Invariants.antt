use Rattle.plan.specs.Places.{Without}
use Rattle.plan.specs.ClauseTable.{EndsAt}
use Rattle.plan.proofs.clauses.start_of.Given as goal

abbrev pub invariant-loop-at : goal.invariant-loop-at
invariant-loop-at l = Without (EndsAt l.clauses) l.at l.place
