-- `read`: the counts of the tables are those of the plan file that they stand for.
use mathlib.Core.Path.{refl, ◌∙◌}
use Rattle.plan.proofs.ByPlace.{edges_length, atoms_length}
use Rattle.planner.proofs.Stating.{meets, stops, accepts, refuses}
use Rattle.planner.proofs.read.Goals as goal

pub returns-in_err-tables : goal.returns-in_err-tables
returns-in_err-tables c = stops _ c.from_residual.ensures.1 (refuses _ _ _ c.in_err-tables.ensures)

pub returns : goal.returns
returns c = meets (accepts _ _ _ c.in_ok-tables.ensures)
    (record { nodes = refl; variables = refl; edges = edges_length _ ∙ c.in_ok-tables.tables.lent.edges; atoms = atoms_length _ ∙ c.in_ok-tables.tables.lent.atoms; clauses = c.in_ok-tables.tables.lent.clauses; literals = c.in_ok-tables.tables.lent.literals })
