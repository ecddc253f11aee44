-- `walk::lengths::true_by_length`: those that are true of the atoms that are not left, in whatever graph the chains are of.
use Rattle.plan.specs.Meaning.{Graph, atom, IsTrue}
use Rattle.plan.specs.Tables.{atoms_of}
use Rattle.walk.specs.Given.{edges_in}
use Rattle.walk.specs.Walking.{Chained}
use Rattle.walk.proofs.Picking.{Left, Chosen}
use Rattle.walk.proofs.lengths.true_by_length.Given as goal

abbrev pub invariant-loop-rest : goal.invariant-loop-rest
invariant-loop-rest l =
    Left l.asked l.rest × ((g : Graph) → Chained (edges_in l.graph) g l.chains → Chosen (λ k. IsTrue (edges_in l.graph) g (atom (atoms_of l.atoms) k)) l.asked l.those l.rest)

abbrev pub decreases-loop-rest : goal.decreases-loop-rest
decreases-loop-rest l = l.rest
