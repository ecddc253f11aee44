-- `closing::close`: an index of the clauses, and nothing known of the assignment.
use native.Mathlib.Omega.{arith}
use Rattle.closing.proofs.Lending.{lent_indexable}
use Rattle.walk.proofs.Lending.{lent_few}
use Rattle.closing.proofs.close.Goals as goal

pub index_of-index-requires : goal.index_of-index-requires
index_of-index-requires c =
    let t = c.args.tables.now in lent_indexable t.plan t.edges.now t.atoms.now t.clauses.now t.lent

pub length_atoms-requires : goal.length_atoms-requires
length_atoms-requires c = omega (arith, lent_few c.args.tables.now.lent, c.args.tables.now.lent.atoms)
