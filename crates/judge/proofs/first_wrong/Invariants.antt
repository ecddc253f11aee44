use lib.ListN.{drop}
use Rattle.plan.specs.Tables.{edges_of, atoms_of}
use Rattle.walk.specs.Walking.{Walked}
use Rattle.judge.specs.Judgements.{RightIn}
use Rattle.judge.proofs.Passing.{Passed}
use Rattle.judge.proofs.first_wrong.Given as goal

abbrev pub invariant-loop-number : goal.invariant-loop-number
invariant-loop-number l = record {
  walked : Walked l.neighbours l.source l.distances;
  passed : Passed (RightIn (edges_of l.tables.edges.now) l.assignment) (atoms_of l.tables.atoms.now) l.number (drop l.number (atoms_of l.tables.atoms.now));
}
