-- The blocks one atom after the other, as a loop meets them.
-- Assumes nothing.
use mathlib.Core.Path.{◌≡◌, refl, sym, ◌∙◌, ap, ap₂, subst}
use mathlib.Core.List.{List, [], ◌∷◌, ◌++◌, append_assoc, append-nil}
use Prim.Native.Nat.{ℕ, zero, suc, ◌+◌, ◌≤◌, ◌<◌}
use native.Mathlib.Omega.{arith}
use native.Mathlib.Numerals.{add-one}
use lib.IntN.{ℤ}
use lib.ListN.{length, take, length-take}
use lib.Seq.{take_all}
use Rattle.plan.specs.Meaning.{Edge, Atom, atom}
use Rattle.plan.specs.Written.{each, flat, levels, block_variables, block_clauses, block_numbers, atom_block, after, blocks, last}
use Rattle.encoding.specs.Counts.{total, InLimits}
use Rattle.encoding.proofs.Each.{flat_append}
use Rattle.encoding.proofs.Blocks.{last_ge}
use Rattle.encoding.proofs.Sizes.{levels_le, last_is_lem, blocks_most}
use Rattle.clauses.specs.declared.Counts.{Counts}
use Rattle.clauses.specs.Rows.{Early, block_row, LowBlock, LowBlocks}
use Rattle.clauses.specs.Writing.{Added, AddedOne, Few, Countable}
use Rattle.clauses.proofs.Rows.{atom_is}

pub each_first : {A : Type 0} (n : ℕ) (f : ℕ → List A) → each (suc n) f ≡ f 0 ++ each n (λ i. f (suc i))
unfolding each
each_first zero f = sym (append-nil (f 0))
each_first (suc n) f = ap (λ l. l ++ f (suc n)) (each_first n f) ∙ append_assoc (f 0) (each n (λ i. f (suc i))) (f (suc n))

-- a sum over the atoms up to j
pub total_next : (size : ℕ → ℕ) (n : ℕ) (As : List Atom) (j : ℕ) → j < length As → total size n (take (j + 1) As) ≡ total size n (take j As) + size (levels n (atom As j))
unfolding total
total_next size n [] j l = let z : ⊥ = omega arith in absurd z
total_next size n (A ∷ As) zero l = omega arith
total_next size n (A ∷ As) (suc j) l = rw add-one (omega (arith, ap (λ k. total size n (take k As)) (sym (add-one j)) ∙ total_next size n As j (omega arith)))

module _ (n : ℕ) (es : List Edge) where
  -- the last variable before atom j's block
  abbrev pub before : ℕ → List Atom → ℕ → ℕ
  before base As j = last n es base (take j As)

  -- atom j's block, as it is written
  abbrev pub piece : ℕ → List Atom → ℕ → List ℤ
  piece base As j = flat (atom_block n es (before base As j) (atom As j))

  pub blocks_each : (base : ℕ) (As : List Atom) → flat (blocks n es base As) ≡ each (length As) (piece base As)
  unfolding blocks flat each last
  blocks_each base [] = refl
  blocks_each base (A ∷ As) =
      flat_append (atom_block n es base A) (blocks n es (after n es base A) As)
      ∙ ap (λ l. flat (atom_block n es base A) ++ l) (blocks_each (after n es base A) As)
      ∙ sym (each_first (length As) (piece base (A ∷ As)))

  pub before_next : (base : ℕ) (As : List Atom) (j : ℕ) → j < length As → before base As (j + 1) ≡ after n es (before base As j) (atom As j)
  before_next base As j l = omega (arith, last_is_lem n es base (take (j + 1) As), last_is_lem n es base (take j As), total_next (block_variables n (length es)) n As j l)

  pub before_le : (base : ℕ) (As : List Atom) (j : ℕ) → before base As j ≤ last n es base As
  unfolding last
  before_le base [] zero = omega arith
  before_le base [] (suc j) = omega arith
  before_le base (A ∷ As) zero = omega (arith, last_ge n es (after n es base A) As)
  before_le base (A ∷ As) (suc j) = before_le (after n es base A) As j

-- one turn of the loop over the atoms: b is the last variable before atom j's block, A is that atom and top its levels
pub record Turn (n : ℕ) (es : List Edge) (base : ℕ) (As : List Atom) (j b top : ℕ) (A : Atom) : Type 0 where
  pub low : LowBlocks es n base As
  pub inside : j < length As
  pub at : b ≡ before n es base As j
  pub is : A ≡ atom As j
  pub levels_is : top ≡ levels n A

-- where the next block starts, what it is, and that its numbers are low
module _ {n : ℕ} {es : List Edge} {base : ℕ} {As : List Atom} {j b top : ℕ} {A : Atom} (t : Turn n es base As j b top A) where
  pub next_row : block_row n es b top A.from A.to A.variable ≡ piece n es base As j
  next_row =
      ap (λ L. block_row n es b L A.from A.to A.variable) t.levels_is ∙ sym (atom_is n es b A)
      ∙ ap₂ (λ x B. flat (atom_block n es x B)) t.at t.is

  pub next_before : b + block_variables n (length es) top ≡ before n es base As (j + 1)
  next_before =
      ap₂ (λ x L. x + block_variables n (length es) L) t.at (t.levels_is ∙ ap (levels n) t.is)
      ∙ sym (before_next n es base As j t.inside)

  pub next_last : Early (b + block_variables n (length es) top)
  next_last = omega (arith, next_before, before_le n es base As (j + 1), t.low.last)

  pub next_low : LowBlock es n b top
  unfolding block_variables
  next_low = record { few = t.low.few; nodes = t.low.nodes; last = omega (arith, t.low.node, next_last) }

  pub next_limits : InLimits n (length es) top
  next_limits = record { nodes = t.low.nodes; edges = t.low.few; levels = omega (arith, t.levels_is, levels_le n A) }

-- the counts up to atom j
module _ {n : ℕ} {es : List Edge} {As : List Atom} {own counts : Counts} (can : Countable n es As own) {j : ℕ} (l : j < length As)
    (added : Added n (length es) (take j As) own counts) {top : ℕ} {A : Atom} (is : A ≡ atom As j) (levels_is : top ≡ levels n A) where
  pub limits : InLimits n (length es) top
  limits = record { nodes = can.nodes; edges = can.edges; levels = omega (arith, levels_is, levels_le n A) }

  pub few : Few counts
  few =
      let b = blocks_most n (length es) can.nodes can.edges (take j As) (omega (arith, length-take j As, can.atoms)) in
      record {
        variables = omega (arith, can.variables, added.variables, b.variables);
        clauses = omega (arith, can.clauses, added.clauses, b.clauses);
        numbers = omega (arith, can.numbers, added.numbers, b.numbers);
      }

  pub added_next : {more : Counts} → AddedOne n (length es) top counts more → Added n (length es) (take (j + 1) As) own more
  added_next one =
      let m = length es in
      let e : top ≡ levels n (atom As j) = levels_is ∙ ap (levels n) is in
      record {
        variables = omega (arith, one.variables, added.variables, ap (block_variables n m) e, total_next (block_variables n m) n As j l);
        clauses = omega (arith, one.clauses, added.clauses, ap (block_clauses n m) e, total_next (block_clauses n m) n As j l);
        numbers = omega (arith, one.numbers, added.numbers, ap (block_numbers n m) e, total_next (block_numbers n m) n As j l);
      }

pub added_none : (n m : ℕ) (As : List Atom) (own : Counts) → Added n m (take 0 As) own own
unfolding total
added_none n m As own = record { variables = omega arith; clauses = omega arith; numbers = omega arith }

-- at the end all atoms are counted
pub added_all : {n m : ℕ} {As : List Atom} {own counts : Counts} (j : ℕ) → Added n m (take j As) own counts → length As ≤ j → Added n m As own counts
added_all {n} {m} {As} {own} {counts} j added l = subst (λ Bs. Added n m Bs own counts) (take_all j As l) added
