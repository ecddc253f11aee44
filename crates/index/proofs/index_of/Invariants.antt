use Rattle.index.proofs.Building.{Built}
use Rattle.index.proofs.index_of.Given as goal

abbrev pub invariant-loop-at : goal.invariant-loop-at
invariant-loop-at l = Built l.clauses l.at l.places
