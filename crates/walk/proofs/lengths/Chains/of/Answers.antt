-- `walk::lengths::Chains::of`: whichever side is named, the chains are those of its graph.
use mathlib.Core.Path.{sym}
use native.Mathlib.Omega.{arith}
use Rattle.plan.proofs.ByPlace.{edges_length}
use Rattle.walk.proofs.Chaining.{chained_none, chained_all}
use Rattle.walk.proofs.lengths.Chains.of.Goals as goal

pub overflow_cast-none : goal.overflow_cast-none
overflow_cast-none c = record { fits = omega (arith, edges_length c.args.graph.now.edges.now) }

pub put_all-requires-clause-none : goal.put_all-requires-clause-none
put_all-requires-clause-none c = rw edges_length (chained_none _ _ _ (sym (edges_length c.args.graph.now.edges.now)))

pub put_all-requires-in-Over-clause-none : goal.put_all-requires-in-Over-clause-none
put_all-requires-in-Over-clause-none c = rw edges_length (chained_none _ _ _ (sym (edges_length c.args.graph.now.edges.now)))

pub returns-in-Under : goal.returns-in-Under
returns-in-Under c = rw c.in-Under.is (chained_all c.put_all.ensures)

pub returns-in-Over : goal.returns-in-Over
returns-in-Over c = rw c.in-Over.is (chained_all c.put_all-in-Over.ensures)
