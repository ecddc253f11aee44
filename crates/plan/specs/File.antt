-- The plan file of the tables that are lent on.
-- Assumes nothing.
use Rattle.plan.specs.Meaning.{PlanFile}
use Rattle.plan.specs.Tables.{plan_of}
use Rattle.plan.specs.declared.tables.Tables.{Tables}

abbrev pub file_of : Tables → PlanFile
file_of t = plan_of t.plan t.edges.now t.atoms.now t.clauses.now
