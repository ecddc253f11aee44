-- What the writers lay down is the block of document 01.
-- Assumes nothing.
use mathlib.Core.Path.{◌≡◌, refl, sym, ◌∙◌, ap, ap₂, fun_ext}
use mathlib.Core.List.{List, [], ◌∷◌, ◌++◌, append_assoc}
use mathlib.Core.Bool.{Bool, true, false, cond}
use Prim.Native.Nat.{ℕ, suc, ◌+◌, ◌≤◌, ◌<◌}
use native.Mathlib.Omega.{arith}
use native.Mathlib.Nat.{mul-le-mul_right}
use lib.IntN.{ℤ, pos}
use lib.Dec.{eqb}
use lib.ListN.{length, length-append}
use Rattle.plan.specs.Meaning.{Edge, Atom, edge, on, off}
use Rattle.plan.specs.Written.{each, flat, R, U, into, start_clauses, edge_clauses, node_clauses, level_clauses, end_clauses, block, levels, atom_block}
use Rattle.encoding.proofs.Each.{flat_append, flat_each}
use Rattle.clauses.specs.Rows.{Early, gives_row, and_row, edge_row, literal_row, into_row, alone_row, end_row, edges_row, literals_row, intos_row, node_row, nodes_row, level_row, first_at, level_from, levels_row, start_row, block_row, Low, LowBlock}

pub each_same : {A : Type 0} (n : ℕ) (f g : ℕ → List A) → ((k : ℕ) → f k ≡ g k) → each n f ≡ each n g
each_same n f g e = ap (each n) (fun_ext e)

flat_if : (b : Bool) (C : List ℤ) → flat (cond b (C ∷ []) []) ≡ cond b (C ++ (pos 0 ∷ [])) []
unfolding flat
flat_if true C = refl
flat_if false C = refl

-- a node's clauses, over any numbers
abbrev node_over : List Edge → (ℕ → ℕ) → ℕ → ℕ → ℕ → List (List ℤ)
node_over es t r q w =
    (off q ∷ on r ∷ each (length es) (λ k. cond (eqb w (edge es k).to) (on (t k) ∷ []) []))
    ∷ (off r ∷ on q ∷ [])
    ∷ each (length es) (λ k. cond (eqb w (edge es k).to) ((off (t k) ∷ on q ∷ []) ∷ []) [])

node_row_lem : (es : List Edge) (first r q w : ℕ) → flat (node_over es (λ k. first + k) r q w) ≡ node_row es first r q w
unfolding flat node_row literals_row intos_row literal_row into_row gives_row
node_row_lem es first r q w =
    let two = off q ∷ on r ∷ [] in
    let literals = each (length es) (λ k. cond (eqb w (edge es k).to) (on (first + k) ∷ []) []) in
    let gives = off r ∷ on q ∷ pos 0 ∷ [] in
    let intos = each (length es) (λ k. cond (eqb w (edge es k).to) (off (first + k) ∷ on q ∷ pos 0 ∷ []) []) in
    ap (λ l. (two ++ literals) ++ (pos 0 ∷ (gives ++ l)))
    (flat_each (length es) (λ k. cond (eqb w (edge es k).to) ((off (first + k) ∷ on q ∷ []) ∷ []) [])
    ∙ each_same (length es) _ _ (λ k. flat_if (eqb w (edge es k).to) (off (first + k) ∷ on q ∷ [])))
    ∙ sym (append_assoc (two ++ literals) (pos 0 ∷ gives) intos)

-- whatever the operands
pub node_size : (es : List Edge) (first r q w : ℕ) → length (node_row es first r q w) ≡ 6 + (length (literals_row es first w) + length (intos_row es first q w))
unfolding node_row gives_row
node_size es first r q w =
    let clause = off q ∷ on r ∷ literals_row es first w in
    let gives = pos 0 ∷ gives_row r q in
    omega (arith, length-append (clause ++ gives) (intos_row es first q w), length-append clause gives)

module _ (n : ℕ) (es : List Edge) (base : ℕ) where
  abbrev first : ℕ → ℕ
  first i = first_at es n base i

  R_is : (i w : ℕ) → R n es base i w ≡ first i + w
  unfolding R
  R_is i w = omega arith

  R_next : (i w : ℕ) → R n es base (suc i) w ≡ first i + (n + length es) + w
  unfolding R
  R_next i w = omega arith

  U_is : (i k : ℕ) → U n es base i k ≡ first i + n + k
  unfolding U
  U_is i k = omega arith

  start_is : (s : ℕ) → flat (start_clauses n es base s) ≡ start_row n s (base + 1)
  unfolding flat start_clauses start_row alone_row
  start_is s = flat_each n _ ∙ each_same n _ _ (λ w. ap (λ v. cond (eqb w s) (on v) (off v) ∷ pos 0 ∷ []) (R_is 0 w ∙ omega arith))

  edge_is : (i k : ℕ) → flat (edge_clauses n es base i k) ≡ edge_row (edge es k) (first i + n + k) (first i)
  unfolding flat edge_clauses edge_row and_row gives_row
  edge_is i k = ap₂ (λ t r. and_row t (edge es k).variable r) (U_is i k) (R_is i (edge es k).from)

  node_is : (i w : ℕ) → flat (node_clauses n es base i w) ≡ node_row es (first i + n) (first i + w) (first i + (n + length es) + w) w
  unfolding node_clauses into
  node_is i w =
      ap (λ t. flat (node_over es t (R n es base i w) (R n es base (suc i) w) w)) (fun_ext (U_is i))
      ∙ ap₂ (λ r q. flat (node_over es (λ k. first i + n + k) r q w)) (R_is i w) (R_next i w)
      ∙ node_row_lem es (first i + n) (first i + w) (first i + (n + length es) + w) w

  pub level_is : (i : ℕ) → flat (level_clauses n es base i) ≡ level_row es n (level_from es n (first i))
  unfolding level_clauses level_row edges_row nodes_row
  level_is i =
      flat_append (each (length es) (edge_clauses n es base i)) (each n (node_clauses n es base i))
      ∙ ap₂ ◌++◌ (flat_each (length es) (edge_clauses n es base i) ∙ each_same (length es) _ _ (edge_is i)) (flat_each n (node_clauses n es base i) ∙ each_same n _ _ (node_is i))

  end_is : (L t a : ℕ) → flat (end_clauses n es base L t a) ≡ end_row a (first L + t)
  unfolding flat end_clauses end_row gives_row
  end_is L t a = ap (end_row a) (R_is L t)

  pub block_is : (L s t a : ℕ) → flat (block n es base L s t a) ≡ block_row n es base L s t a
  unfolding block block_row levels_row
  block_is L s t a =
      flat_append (start_clauses n es base s) (each L (level_clauses n es base) ++ end_clauses n es base L t a)
      ∙ ap₂ ◌++◌ (start_is s)
      (flat_append (each L (level_clauses n es base)) (end_clauses n es base L t a)
      ∙ ap₂ ◌++◌ (flat_each L (level_clauses n es base) ∙ each_same L _ _ level_is) (end_is L t a))
      ∙ sym (append_assoc (start_row n s (base + 1)) (each L (λ i. level_row es n (level_from es n (first i)))) (end_row a (first L + t)))

  pub atom_is : (A : Atom) → flat (atom_block n es base A) ≡ block_row n es base (levels n A) A.from A.to A.variable
  unfolding atom_block
  atom_is A = block_is (levels n A) A.from A.to A.variable

-- the numbers behind level i are low
pub level_low : {es : List Edge} {n base top i : ℕ} → LowBlock es n base top → i < top → Early (first_at es n base i + (n + length es))
level_low {es} {n} {base} {top} {i} low l = omega (arith, low.last, mul-le-mul_right {m = suc i} {n = top} (n + length es) l)

-- and so are those of the level, and of the levels up to it
pub level_all_low : {es : List Edge} {n base top i : ℕ} → LowBlock es n base top → i < top → Low es (level_from es n (first_at es n base i))
level_all_low {es} {n} {base} {top} {i} low l =
    let next = level_low low l in
    record { few = low.few; nodes = omega (arith, next); edges = omega (arith, next); next = next }

pub low_upto : {es : List Edge} {n base top i : ℕ} → LowBlock es n base top → i ≤ top → LowBlock es n base i
low_upto {es} {n} {base} {top} {i} low l =
    record { few = low.few; nodes = low.nodes; last = omega (arith, low.last, mul-le-mul_right {m = i} {n = top} (n + length es) l) }
