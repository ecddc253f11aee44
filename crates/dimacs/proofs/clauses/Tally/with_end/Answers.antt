-- `dimacs::clauses::Tally::with_end`: the clause counts, and the first one past the limits is known with it.
use Rattle.dimacs.proofs.Tallies as tallies
use Rattle.dimacs.proofs.clauses.Tally.with_end.Goals as goal

pub returns-clause-tallied : goal.returns-clause-tallied
returns-clause-tallied c = λ done r before mid after h k. tallies.with_end h _ k (c.past_with.ensures done r before mid h)
