-- The parts of the text, one behind the other, are the text; and what the printers lay down are the parts.
-- Assumes nothing.
use mathlib.Core.Path.{◌≡◌, refl, sym, ◌∙◌, ap, ap₂}
use mathlib.Core.List.{List, [], ◌∷◌, ◌++◌}
use Prim.Native.Nat.{ℕ, suc, ◌+◌}
use native.Mathlib.Omega.{arith}
use lib.IntN.{ℤ}
use lib.ListN.{length}
use Rattle.plan.specs.declared.Plan.{Plan}
use Rattle.plan.specs.declared.Edge as struct-of-edge
use Rattle.plan.specs.declared.Atom as struct-of-atom
use Rattle.plan.specs.Meaning.{Edge, Atom, PlanFile}
use Rattle.plan.specs.Tables.{plan_of, Lent}
use Rattle.plan.specs.Written.{each, flat, atom_block, after, last, written, last_variable}
use Rattle.clauses.specs.declared.Counts.{Counts}
use Rattle.clauses.specs.Rows.{block_row}
use Rattle.clauses.specs.Writing.{Counting}
use Rattle.clauses.proofs.Rows.{each_same}
use Rattle.clauses.proofs.Stepping.{each_first, piece, Turn, next_row}
use Rattle.dimacs.specs.Printing.{entries, head_line, atom_line}
use Rattle.listing.specs.Text.{block_texts, front_text, text, part}

module _ (n : ℕ) (es : List Edge) where
  -- atom j's block with its first line, where the first atom is numbered k
  abbrev titled : ℕ → ℕ → List Atom → ℕ → List ℕ
  titled k base As j = atom_line (k + j) ++ entries (piece n es base As j)

  blocks_each : (k base : ℕ) (As : List Atom) → block_texts n es k base As ≡ each (length As) (titled k base As)
  unfolding block_texts each last
  blocks_each k base [] = refl
  blocks_each k base (A ∷ As) =
      ap₂ ◌++◌ (ap (λ i. atom_line i ++ entries (flat (atom_block n es base A))) (omega arith))
      (blocks_each (suc k) (after n es base A) As
      ∙ each_same (length As) _ _ (λ j. ap (λ i. atom_line i ++ entries (piece n es (after n es base A) As j)) (omega arith)))
      ∙ sym (each_first (length As) (titled k base (A ∷ As)))

pub parts_whole : (φ : PlanFile) → each (suc (length φ.atoms)) (part φ) ≡ text φ
unfolding text part
parts_whole φ =
    let As = φ.atoms in
    each_first (length As) (part φ)
    ∙ ap (λ l. front_text φ ++ l)
    (each_same (length As) _ _ (λ j. ap (λ i. atom_line i ++ entries (piece φ.nodes φ.edges φ.variables As j)) (omega arith))
    ∙ sym (blocks_each φ.nodes φ.edges 1 φ.variables As))

module _ {p : Plan} {edges : List struct-of-edge.Edge} {atoms : List struct-of-atom.Atom} {clauses : List ℤ} (lent : Lent p edges atoms clauses) where
  abbrev φ : PlanFile
  φ = plan_of p edges atoms clauses

  pub front_is : {counts : Counts} → Counting φ counts → head_line counts.variables counts.clauses ++ entries clauses ≡ part φ 0
  unfolding part front_text
  front_is is =
      ap₂ (λ v k. head_line v k ++ entries clauses) is.variables is.clauses
      ∙ ap (λ l. head_line (last_variable φ) (length (written φ)) ++ entries l) (sym lent.ended)

-- the block of the atom numbered j, from 0
pub block_is : (φ : PlanFile) {j b top number : ℕ} {A : Atom} → number ≡ suc j → Turn φ.nodes φ.edges φ.variables φ.atoms j b top A
    → atom_line number ++ entries (block_row φ.nodes φ.edges b top A.from A.to A.variable) ≡ part φ (suc j)
unfolding part
block_is φ number-is t = ap₂ (λ k l. atom_line k ++ entries l) number-is (next_row t)
