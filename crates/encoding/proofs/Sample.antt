-- The sample file of document 01 "becomes 29 variables, 66 clauses, 208 numbers".
-- Assumes nothing.
use mathlib.Core.Path.{◌≡◌, refl}
use lib.ListN.{length}
use Rattle.plan.specs.Written.{each, flat, R, U, into, start_clauses, edge_clauses, node_clauses, level_clauses, end_clauses, block, levels, block_variables, atom_block, blocks, last, written, last_variable}
use Rattle.plan.proofs.Cases.{sample}

pub sample_sizes : (last_variable sample ≡ 29) × (length (written sample) ≡ 66) × (length (flat (written sample)) ≡ 208)
unfolding each flat R U into start_clauses edge_clauses node_clauses level_clauses end_clauses block levels block_variables atom_block blocks last written last_variable
sample_sizes = (refl, refl, refl)
