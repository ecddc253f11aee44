-- `read` lends on what `read_into` left: its counts fit the tables, and the parts that are cut from them are the file.
use Rattle.reader.proofs.Kit.{refl}
use Rattle.reader.proofs.Cutting.{room, parts}
use Rattle.reader.proofs.Buffers.read.Goals as goal

pub used_edges-requires : goal.used_edges-requires
used_edges-requires c = room _ _ c.in_ok-plan.ensures

pub used_atoms-requires : goal.used_atoms-requires
used_atoms-requires c = room _ _ c.in_ok-plan.ensures

pub used_clauses-requires : goal.used_clauses-requires
used_clauses-requires c = room _ _ c.in_ok-plan.ensures

pub invariant_of-result : goal.invariant_of-result
invariant_of-result c = record { lent = (parts _ _ c.in_ok-plan.ensures c.used_edges.ensures c.used_atoms.ensures c.used_clauses.ensures).lent }

pub returns : goal.returns
returns c = rw ((parts _ _ c.in_ok-plan.ensures c.used_edges.ensures c.used_atoms.ensures c.used_clauses.ensures).reads) refl
