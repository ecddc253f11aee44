-- A plan file written out as DIMACS text. Document 02, C-11: "Print the written-out clauses, one a line, after the `p cnf` line, each block behind
-- a line `c atom` and its number."
-- Assumes nothing.
use Rattle.std.specs.Prelude.{List, [], ◌∷◌, ◌++◌, ℕ, zero, suc, length, take}
use Rattle.plan.specs.Meaning.{Edge, Atom, PlanFile, atom}
use Rattle.plan.specs.Written.{flat, atom_block, after, last, written, last_variable}
use Rattle.dimacs.specs.Printing.{entries, head_line, atom_line}

-- "for each atom the line `c atom K` and its block": the atoms from number k on, behind the variable base
unfoldable pub block_texts : ℕ → List Edge → ℕ → ℕ → List Atom → List ℕ
block_texts n es k base [] = []
block_texts n es k base (A ∷ As) = (atom_line k ++ entries (flat (atom_block n es base A))) ++ block_texts n es (suc k) (after n es base A) As

-- "the `p cnf` line with the counts of the written-out list, the file's clauses"
unfoldable pub front_text : PlanFile → List ℕ
front_text φ = head_line (last_variable φ) (length (written φ)) ++ entries (flat φ.clauses)

unfoldable pub text : PlanFile → List ℕ
text φ = front_text φ ++ block_texts φ.nodes φ.edges 1 φ.variables φ.atoms

-- The text in parts: the front, then the block of each atom by its number. That they are the whole, one behind the other, is a law: proofs/Parts.antt.
unfoldable pub part : PlanFile → ℕ → List ℕ
part φ zero = front_text φ
part φ (suc j) = atom_line (suc j) ++ entries (flat (atom_block φ.nodes φ.edges (last φ.nodes φ.edges φ.variables (take j φ.atoms)) (atom φ.atoms j)))
