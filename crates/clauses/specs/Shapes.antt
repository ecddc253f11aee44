-- The rows of a block, and the numbers of its levels, by its shape.
-- Assumes nothing.
use Rattle.std.specs.Prelude.{List, ℕ, ℤ}
use Rattle.plan.specs.declared.Atom as struct-of-atom
use Rattle.plan.specs.Tables.{edges_of}
use Rattle.clauses.specs.declared.block.Level.{Level}
use Rattle.clauses.specs.declared.shape.Shape.{Shape}
use Rattle.clauses.specs.Rows.{first_at, level_from, levels_row, block_row}

abbrev pub first_by : Shape → ℕ → ℕ
first_by s i = first_at (edges_of s.edges.now) s.nodes s.base i

abbrev pub level_by : Shape → ℕ → Level
level_by s i = level_from (edges_of s.edges.now) s.nodes (first_by s i)

abbrev pub levels_by : Shape → List ℤ
levels_by s = levels_row (edges_of s.edges.now) s.nodes s.base s.top

abbrev pub block_by : Shape → struct-of-atom.Atom → List ℤ
block_by s A = block_row s.nodes (edges_of s.edges.now) s.base s.top A.from A.to A.variable
