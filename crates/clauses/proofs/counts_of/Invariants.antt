use lib.ListN.{length, take}
use Rattle.plan.specs.Tables.{edges_of, atoms_of}
use Rattle.clauses.specs.Writing.{Added}
use Rattle.clauses.proofs.Whole.{own}
use Rattle.clauses.proofs.counts_of.Given as goal

abbrev pub invariant-loop-atom : goal.invariant-loop-atom
invariant-loop-atom l =
    let t = l.tables in
    Added t.plan.nodes (length (edges_of t.edges.now)) (take l.atom-index (atoms_of t.atoms.now)) (own t.lent) l.counts
