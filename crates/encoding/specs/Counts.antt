-- How much is written: the file's own, and a block for each atom. Document 01, "Writing out clauses".
-- Assumes nothing.
use Rattle.std.specs.Prelude.{◌≡◌, List, [], ◌∷◌, ℕ, ◌+◌, ◌*◌, ◌-◌, ◌≤◌, length}
use Rattle.plan.specs.Meaning.{Atom, PlanFile}
use Rattle.plan.specs.Ranged.{literals, max_nodes, max_variables, max_edges, max_atoms, max_clauses, max_literals}
use Rattle.plan.specs.Written.{flat, levels, block_variables, block_clauses, block_numbers, written, last_variable}

-- The sizes of the atoms' blocks in all; a block's size is a function of its number of levels.
unfoldable pub total : (ℕ → ℕ) → ℕ → List Atom → ℕ
total size n [] = 0
total size n (A ∷ As) = size (levels n A) + total size n As

-- The counts of variables, clauses and numbers; a clause has its literals and one 0.
pub record Counted (φ : PlanFile) : Type 0 where
  pub variables : last_variable φ ≡ φ.variables + total (block_variables φ.nodes (length φ.edges)) φ.nodes φ.atoms
  pub clauses : length (written φ) ≡ length φ.clauses + total (block_clauses φ.nodes (length φ.edges)) φ.nodes φ.atoms
  pub numbers : length (flat (written φ)) ≡ literals φ.clauses + length φ.clauses + total (block_numbers φ.nodes (length φ.edges)) φ.nodes φ.atoms

-- A block of L levels over n nodes and m edges, within the limits.
pub record InLimits (n m L : ℕ) : Type 0 where
  pub nodes : n ≤ max_nodes
  pub edges : m ≤ max_edges
  pub levels : L ≤ n - 1

-- The sizes of the largest block, of 63 levels over 64 nodes and 256 edges.
abbrev pub most_block_variables : ℕ
most_block_variables = 20224

abbrev pub most_block_clauses : ℕ
most_block_clauses = 72642

abbrev pub most_block_numbers : ℕ
most_block_numbers = 250118

-- The most that is written, with a largest block for each of 64 atoms: 1,294,848 variables, 4,650,112 clauses and 16,012,672 numbers.
abbrev pub most_variables : ℕ
most_variables = max_variables + max_atoms * most_block_variables

abbrev pub most_clauses : ℕ
most_clauses = max_clauses + max_atoms * most_block_clauses

abbrev pub most_numbers : ℕ
most_numbers = (max_literals + max_clauses) + max_atoms * most_block_numbers
