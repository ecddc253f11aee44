-- How many variables, clauses and numbers are written, and that they are few enough for 32-bit literals.
-- Assumes nothing.
use mathlib.Core.Path.{◌≡◌, refl, ◌∙◌, ap, ap₂, subst}
use mathlib.Core.List.{List, [], ◌∷◌, ◌++◌}
use mathlib.Core.Bool.{Bool, true, false, cond}
use mathlib.Core.Logic.{◌⊎◌, inl, inr}
use Prim.Native.Nat.{ℕ, zero, suc, ◌+◌, ◌*◌, ◌-◌, ◌≤◌, ◌<◌}
use native.Mathlib.Omega.{arith}
use native.Mathlib.Nat.{mul-le-mul_left, mul-le-mul_right, le_trans}
use lib.IntN.{ℤ, pos}
use lib.Dec.{T, eqb, eqb→eq, eqb_refl}
use lib.ListN.{length, length-append}
use Rattle.plan.specs.declared.Kind.{Kind}
use Rattle.plan.specs.declared.Kind.TheVariants.{Reaches, Within, LengthAtMost}
use Rattle.plan.specs.Meaning.{Edge, Atom, PlanFile, edge, on, off}
use Rattle.plan.specs.Ranged.{max_nodes, max_edges, max_atoms, Ranged}
use Rattle.plan.specs.Written.{each, flat, R, U, into, start_clauses, edge_clauses, node_clauses, level_clauses, end_clauses, block, levels_of, levels, block_variables, block_clauses, block_numbers, atom_block, after, blocks, last, written, last_variable}
use Rattle.plan.proofs.ClauseTable.{flat_length}
use Rattle.plan.proofs.Lists.{le_or_lt}
use Rattle.encoding.specs.Counts.{total, Counted, InLimits, most_block_variables, most_block_clauses, most_block_numbers, most_variables, most_clauses, most_numbers}
use Rattle.encoding.proofs.Each.{below_zero, flat_append, flat_each, sum, sum_same, sum_const, sum_add, sum_mul, sum_swap, length_each}
use Rattle.encoding.proofs.Literals.{edge_ends}

-- 1 for true
abbrev bit : Bool → ℕ
bit true = 1
bit false = 0

bit_no : (w x : ℕ) → (w ≡ x → ⊥) → bit (eqb w x) ≡ 0
bit_no w x ne = go (eqb w x) (λ h. ne (eqb→eq w x h))
  where
    go : (b : Bool) → (T b → ⊥) → bit b ≡ 0
    go true h = absurd (h tt)
    go false h = refl

bit_yes : (w : ℕ) → bit (eqb w w) ≡ 1
bit_yes w = go (eqb w w) (eqb_refl w)
  where
    go : (b : Bool) → T b → bit b ≡ 1
    go true h = refl
    go false h = absurd h

none_below : (n x : ℕ) → n ≤ x → sum n (λ w. bit (eqb w x)) ≡ 0
none_below n x l = sum_same n (λ w. bit (eqb w x)) (λ w. 0) (λ w lw. bit_no w x (λ e. omega arith)) ∙ sum_const n 0 ∙ omega arith

-- one number below n is x
one_below : (n x : ℕ) → x < n → sum n (λ w. bit (eqb w x)) ≡ 1
unfolding sum
one_below zero x l = absurd (below_zero l)
one_below (suc n) x l = go (one_below n x) (le_or_lt n x)
  where
    go : (x < n → sum n (λ w. bit (eqb w x)) ≡ 1) → (n ≤ x) ⊎ (x < n) → sum n (λ w. bit (eqb w x)) + bit (eqb n x) ≡ 1
    go ih (inl h) = let e : n ≡ x = omega arith in omega (arith, none_below n x h, subst (λ y. bit (eqb n y) ≡ 1) e (bit_yes n))
    go ih (inr h) = omega (arith, ih h, bit_no n x (λ e. omega arith))

-- the lengths of clauses, as a sum over their groups
pub numbers_append : (Cs Ds : List (List ℤ)) → length (flat (Cs ++ Ds)) ≡ length (flat Cs) + length (flat Ds)
numbers_append Cs Ds = ap length (flat_append Cs Ds) ∙ length-append (flat Cs) (flat Ds)

numbers_each : (n : ℕ) (f : ℕ → List (List ℤ)) → length (flat (each n f)) ≡ sum n (λ i. length (flat (f i)))
numbers_each n f = ap length (flat_each n f) ∙ length_each n (λ i. flat (f i))

module _ (n : ℕ) (es : List Edge) (base : ℕ) (to_in : (k : ℕ) → k < length es → (edge es k).to < n) where
  abbrev m : ℕ
  m = length es

  -- how many edges run into w; over all nodes, every edge once
  abbrev degree : ℕ → ℕ
  degree w = sum m (λ k. bit (eqb w (edge es k).to))

  all_degrees : sum n degree ≡ m
  all_degrees =
      sum_swap n m (λ w k. bit (eqb w (edge es k).to))
      ∙ sum_same m (λ k. sum n (λ w. bit (eqb w (edge es k).to))) (λ k. 1) (λ k lk. one_below n (edge es k).to (to_in k lk))
      ∙ sum_const m 1 ∙ omega arith

  -- what has c for each edge into w
  degree_times : (size : Bool → ℕ → ℕ) (w c : ℕ) → ((b : Bool) (k : ℕ) → size b k ≡ c * bit b) → sum m (λ k. size (eqb w (edge es k).to) k) ≡ c * degree w
  degree_times size w c e = sum_same m _ _ (λ k lk. e (eqb w (edge es k).to) k) ∙ sum_mul m c (λ k. bit (eqb w (edge es k).to))

  -- and over all nodes, with d more for each node
  over_nodes : (size : ℕ → ℕ) (d c : ℕ) → ((w : ℕ) → size w ≡ d + c * degree w) → sum n size ≡ n * d + c * m
  over_nodes size d c e =
      sum_same n size (λ w. d + c * degree w) (λ w lw. e w) ∙ sum_add n (λ w. d) (λ w. c * degree w)
      ∙ ap₂ ◌+◌ (sum_const n d) (sum_mul n c degree ∙ ap (c *◌) all_degrees)

  -- one entry for each edge into w, and a clause of two literals for each
  into_length : {A : Type 0} (w : ℕ) (f : ℕ → A) → length (into n es base w (λ k. f k ∷ [])) ≡ 1 * degree w
  unfolding into
  into_length w f = length_each m _ ∙ degree_times (λ b k. length (cond b (f k ∷ []) [])) w 1 one
    where
      one : (b : Bool) (k : ℕ) → length (cond b (f k ∷ []) []) ≡ 1 * bit b
      one true k = refl
      one false k = refl

  into_numbers : (w : ℕ) (f g : ℕ → ℤ) → length (flat (into n es base w (λ k. (f k ∷ g k ∷ []) ∷ []))) ≡ 3 * degree w
  unfolding into flat
  into_numbers w f g = numbers_each m _ ∙ degree_times (λ b k. length (flat (cond b ((f k ∷ g k ∷ []) ∷ []) []))) w 3 one
    where
      one : (b : Bool) (k : ℕ) → length (flat (cond b ((f k ∷ g k ∷ []) ∷ []) [])) ≡ 3 * bit b
      one true k = refl
      one false k = refl

  node_clauses_lem : (i w : ℕ) → length (node_clauses n es base i w) ≡ 2 + 1 * degree w
  unfolding node_clauses
  node_clauses_lem i w = omega (arith, into_length w (λ k. off (U n es base i k) ∷ on (R n es base (suc i) w) ∷ []))

  node_numbers : (i w : ℕ) → length (flat (node_clauses n es base i w)) ≡ 6 + 4 * degree w
  unfolding node_clauses flat
  node_numbers i w =
      omega (
        arith,
        length-append (into n es base w (λ k. on (U n es base i k) ∷ [])) (pos 0 ∷ off (R n es base i w) ∷ on (R n es base (suc i) w) ∷ pos 0 ∷ flat (into n es base w (λ k. (off (U n es base i k) ∷ on (R n es base (suc i) w) ∷ []) ∷ []))),
        into_length w (λ k. on (U n es base i k)),
        into_numbers w (λ k. off (U n es base i k)) (λ k. on (R n es base (suc i) w)),
      )

  -- a size that adds up, with u for a clause of one literal, e for an edge, d for a node and c for each edge into it, z for the end
  module _ (size : List (List ℤ) → ℕ) (size-append : (Cs Ds : List (List ℤ)) → size (Cs ++ Ds) ≡ size Cs + size Ds)
      (size-each : (n : ℕ) (f : ℕ → List (List ℤ)) → size (each n f) ≡ sum n (λ i. size (f i))) (u e d c z : ℕ)
      (alone : (l : ℤ) → size ((l ∷ []) ∷ []) ≡ u) (edges : (i k : ℕ) → size (edge_clauses n es base i k) ≡ e)
      (nodes : (i w : ℕ) → size (node_clauses n es base i w) ≡ d + c * degree w) (end : (L t a : ℕ) → size (end_clauses n es base L t a) ≡ z) where
    level_size : (i : ℕ) → size (level_clauses n es base i) ≡ m * e + (n * d + c * m)
    unfolding level_clauses
    level_size i =
        size-append (each m (edge_clauses n es base i)) (each n (node_clauses n es base i))
        ∙ ap₂ ◌+◌ (size-each m (edge_clauses n es base i) ∙ sum_same m _ (λ k. e) (λ k lk. edges i k) ∙ sum_const m e)
        (size-each n (node_clauses n es base i) ∙ over_nodes (λ w. size (node_clauses n es base i w)) d c (nodes i))

    block_size : (L s t a : ℕ) → size (block n es base L s t a) ≡ n * u + (L * (m * e + (n * d + c * m)) + z)
    unfolding block start_clauses
    block_size L s t a =
        size-append (start_clauses n es base s) (each L (level_clauses n es base) ++ end_clauses n es base L t a)
        ∙ ap₂ ◌+◌ (size-each n _ ∙ sum_same n _ (λ w. u) (λ w lw. alone _) ∙ sum_const n u)
        (size-append (each L (level_clauses n es base)) (end_clauses n es base L t a)
        ∙ ap₂ ◌+◌ (size-each L (level_clauses n es base) ∙ sum_same L _ (λ i. m * e + (n * d + c * m)) (λ i l. level_size i) ∙ sum_const L (m * e + (n * d + c * m)))
        (end L t a))

  pub block_clauses_lem : (L s t a : ℕ) → length (block n es base L s t a) ≡ block_clauses n m L
  unfolding block_clauses edge_clauses end_clauses
  block_clauses_lem L s t a =
      block_size length length-append length_each 1 3 2 1 2 (λ l. refl) (λ i k. refl) node_clauses_lem (λ L t a. refl) L s t a
      ∙ omega arith

  pub block_numbers_lem : (L s t a : ℕ) → length (flat (block n es base L s t a)) ≡ block_numbers n m L
  unfolding block_numbers edge_clauses end_clauses flat
  block_numbers_lem L s t a =
      block_size (λ Cs. length (flat Cs)) numbers_append numbers_each 2 10 6 4 6 (λ l. refl) (λ i k. refl) node_numbers (λ L t a. refl) L s t a
      ∙ omega arith

  pub level_numbers : (i : ℕ) → length (flat (level_clauses n es base i)) ≡ 14 * m + 6 * n
  unfolding edge_clauses end_clauses flat
  level_numbers i =
      level_size (λ Cs. length (flat Cs)) numbers_append numbers_each 2 10 6 4 6 (λ l. refl) (λ i k. refl) node_numbers (λ L t a. refl) i
      ∙ omega arith

-- the blocks of all atoms
pub last_is_lem : (n : ℕ) (es : List Edge) (base : ℕ) (As : List Atom) → last n es base As ≡ base + total (block_variables n (length es)) n As
unfolding last total
last_is_lem n es base [] = omega arith
last_is_lem n es base (A ∷ As) = omega (arith, last_is_lem n es (after n es base A) As)

module _ (n : ℕ) (es : List Edge) (to_in : (k : ℕ) → k < length es → (edge es k).to < n) where
  pub blocks_clauses : (base : ℕ) (As : List Atom) → length (blocks n es base As) ≡ total (block_clauses n (length es)) n As
  unfolding blocks total atom_block
  blocks_clauses base [] = refl
  blocks_clauses base (A ∷ As) =
      length-append (atom_block n es base A) (blocks n es (after n es base A) As)
      ∙ ap₂ ◌+◌ (block_clauses_lem n es base to_in (levels n A) A.from A.to A.variable) (blocks_clauses (after n es base A) As)

  pub blocks_numbers : (base : ℕ) (As : List Atom) → length (flat (blocks n es base As)) ≡ total (block_numbers n (length es)) n As
  unfolding blocks total atom_block flat
  blocks_numbers base [] = refl
  blocks_numbers base (A ∷ As) =
      numbers_append (atom_block n es base A) (blocks n es (after n es base A) As)
      ∙ ap₂ ◌+◌ (block_numbers_lem n es base to_in (levels n A) A.from A.to A.variable) (blocks_numbers (after n es base A) As)

pub counted : (φ : PlanFile) → Ranged φ → Counted φ
unfolding written last_variable
counted φ r =
    let n = φ.nodes in
    let es = φ.edges in
    let to_in : (k : ℕ) → k < length es → (edge es k).to < n = λ k l. (edge_ends φ r k l).to_in in
    record {
      variables = last_is_lem n es φ.variables φ.atoms;
      clauses = length-append φ.clauses (blocks n es φ.variables φ.atoms) ∙ ap (λ k. length φ.clauses + k) (blocks_clauses n es to_in φ.variables φ.atoms);
      numbers = numbers_append φ.clauses (blocks n es φ.variables φ.atoms) ∙ ap₂ ◌+◌ (flat_length φ.clauses) (blocks_numbers n es to_in φ.variables φ.atoms);
    }

pub levels_le : (n : ℕ) (A : Atom) → levels n A ≤ n - 1
unfolding levels
levels_le n A = go A.kind
  where
    go : (kind : Kind) → levels_of n kind A.bound ≤ n - 1
    go Reaches = omega arith
    go Within = omega arith
    go LengthAtMost = omega arith

total_le : (size : ℕ → ℕ) (n most : ℕ) → ((L : ℕ) → L ≤ n - 1 → size L ≤ most) → (As : List Atom) → total size n As ≤ length As * most
unfolding total
total_le size n most h [] = omega arith
total_le size n most h (A ∷ As) = omega (arith, h (levels n A) (levels_le n A), total_le size n most h As)

module _ {n m L : ℕ} (h : InLimits n m L) where
  level_product : (d most : ℕ) → d ≤ most → L * d ≤ 63 * most
  level_product d most hd = le_trans (mul-le-mul_right {m = L} {n = 63} d (omega (arith, h.nodes, h.levels))) (mul-le-mul_left {m = d} {n = most} 63 hd)

  pub block_variables_most : block_variables n m L ≤ most_block_variables
  unfolding block_variables
  block_variables_most = omega (arith, h.nodes, level_product n 64 h.nodes, level_product m 256 h.edges)

  pub block_clauses_most : block_clauses n m L ≤ most_block_clauses
  unfolding block_clauses
  block_clauses_most = omega (arith, h.nodes, level_product (4 * m + 2 * n) 1152 (omega (arith, h.nodes, h.edges)))

  pub block_numbers_most : block_numbers n m L ≤ most_block_numbers
  unfolding block_numbers
  block_numbers_most = omega (arith, h.nodes, level_product (14 * m + 6 * n) 3968 (omega (arith, h.nodes, h.edges)))

-- The blocks of at most 64 atoms.
pub record BlocksMost (n m : ℕ) (As : List Atom) : Type 0 where
  pub variables : total (block_variables n m) n As ≤ max_atoms * most_block_variables
  pub clauses : total (block_clauses n m) n As ≤ max_atoms * most_block_clauses
  pub numbers : total (block_numbers n m) n As ≤ max_atoms * most_block_numbers

pub blocks_most : (n m : ℕ) → n ≤ max_nodes → m ≤ max_edges → (As : List Atom) → length As ≤ max_atoms → BlocksMost n m As
blocks_most n m hn hm As k =
    let limits : (L : ℕ) → L ≤ n - 1 → InLimits n m L = λ L l. record { nodes = hn; edges = hm; levels = l } in
    record {
      variables = omega (arith, total_le (block_variables n m) n most_block_variables (λ L l. block_variables_most (limits L l)) As);
      clauses = omega (arith, total_le (block_clauses n m) n most_block_clauses (λ L l. block_clauses_most (limits L l)) As);
      numbers = omega (arith, total_le (block_numbers n m) n most_block_numbers (λ L l. block_numbers_most (limits L l)) As);
    }

-- What is written is within the most, so that every literal fits 32 bits.
pub record Small (φ : PlanFile) : Type 0 where
  pub variables : last_variable φ ≤ most_variables
  pub clauses : length (written φ) ≤ most_clauses
  pub numbers : length (flat (written φ)) ≤ most_numbers

pub small : (φ : PlanFile) → Ranged φ → Small φ
small φ r =
    let c = counted φ r in
    let b = blocks_most φ.nodes (length φ.edges) r.nodes r.edges φ.atoms r.atoms in
    record {
      variables = omega (arith, c.variables, r.variables, b.variables);
      clauses = omega (arith, c.clauses, r.clauses, b.clauses);
      numbers = omega (arith, c.numbers, r.clauses, r.literals, b.numbers);
    }
