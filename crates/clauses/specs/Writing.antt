-- What writing the clauses answers, and what it leaves in the buffer. Document 01, "Writing out clauses" and refusal 12.
-- Assumes nothing.
use Rattle.std.specs.Prelude.{◌≡◌, List, ℕ, ◌+◌, ◌≤◌, ◌<◌, ℤ, length, Result, Ok, Err}
use Rattle.plan.specs.Buffers.{Kept, Wrote}
use Rattle.plan.specs.Meaning.{Edge, Atom, PlanFile}
use Rattle.plan.specs.Ranged.{max_nodes, max_variables, max_edges, max_atoms, max_clauses, max_literals}
use Rattle.plan.specs.Written.{flat, block_variables, block_clauses, block_numbers, blocks, written, last_variable}
use Rattle.encoding.specs.Counts.{total, most_variables, most_clauses, most_numbers}
use Rattle.clauses.specs.declared.Counts.{Counts}
use Rattle.plan.specs.declared.refusal.Short.{Short}

-- "with the counts of variables, clauses and numbers"
pub record Counting (φ : PlanFile) (counts : Counts) : Type 0 where
  pub variables : counts.variables ≡ last_variable φ
  pub clauses : counts.clauses ≡ length (written φ)
  pub numbers : counts.numbers ≡ length (flat (written φ))

-- "A written answer fills its first places; the rest stays."
pub record WrittenOut (φ : PlanFile) (before after : List ℤ) (counts : Counts) : Type 0 where
  pub counted : Counting φ counts
  pub room : length (flat (written φ)) ≤ length before
  pub is : Wrote (flat (written φ)) before after

-- "output buffer too short for the exact answer: length needed"
pub record TooShort (φ : PlanFile) (before after : List ℤ) (needed : ℕ) : Type 0 where
  pub numbers : needed ≡ length (flat (written φ))
  pub room : length before < needed
  pub kept : Kept before after

abbrev pub Writes : PlanFile → List ℤ → List ℤ → Result Counts Short → Type 0
Writes φ before after (Ok counts) = WrittenOut φ before after counts
Writes φ before after (Err short) = TooShort φ before after short.0

-- "Then a block for each atom, in order.": the numbers behind the file's own
abbrev pub file_blocks : PlanFile → List ℤ
file_blocks φ = flat (blocks φ.nodes φ.edges φ.variables φ.atoms)

-- The counts with the blocks of the atoms As added.
pub record Added (n m : ℕ) (As : List Atom) (from to : Counts) : Type 0 where
  pub variables : to.variables ≡ from.variables + total (block_variables n m) n As
  pub clauses : to.clauses ≡ from.clauses + total (block_clauses n m) n As
  pub numbers : to.numbers ≡ from.numbers + total (block_numbers n m) n As

-- One block of L levels more.
pub record AddedOne (n m L : ℕ) (from to : Counts) : Type 0 where
  pub variables : to.variables ≡ from.variables + block_variables n m L
  pub clauses : to.clauses ≡ from.clauses + block_clauses n m L
  pub numbers : to.numbers ≡ from.numbers + block_numbers n m L

-- Counts to which the largest block can still be added.
pub record Few (counts : Counts) : Type 0 where
  pub variables : counts.variables ≤ most_variables
  pub clauses : counts.clauses ≤ most_clauses
  pub numbers : counts.numbers ≤ most_numbers

-- A file's own counts and tables within the limits.
pub record Countable (n : ℕ) (es : List Edge) (As : List Atom) (own : Counts) : Type 0 where
  pub node : 1 ≤ n
  pub nodes : n ≤ max_nodes
  pub edges : length es ≤ max_edges
  pub atoms : length As ≤ max_atoms
  pub variables : own.variables ≤ max_variables
  pub clauses : own.clauses ≤ max_clauses
  pub numbers : own.numbers ≤ max_literals + max_clauses
