-- The level behind its first number.
use Rattle.plan.proofs.ByPlace.{edges_length}
use Rattle.clauses.proofs.shape.Shape.level.Goals as goal

pub returns : goal.returns
returns c = rw (c.first-first.ensures, edges_length c.args.self.now.edges.now)
