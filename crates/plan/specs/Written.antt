-- The file written out as clauses: its own clauses, then a block for each atom. Document 01, "Writing out clauses".
-- Assumes nothing.
use Rattle.std.specs.Prelude.{◌≡◌, Bool, true, false, cond, ℕ, zero, suc, ◌+◌, ◌*◌, ◌-◌, min, length, ℤ, pos, T, eqb}
use mathlib.Core.List.{List, [], ◌∷◌, ◌++◌, Memᴰ}
use Rattle.plan.specs.declared.Kind.{Kind}
use Rattle.plan.specs.declared.Kind.TheVariants.{Reaches, Within, LengthAtMost}
use Rattle.plan.specs.Places.{first_not}
use Rattle.plan.specs.Meaning.{Edge, Atom, PlanFile, edge, on, off, HasTrue, Full, IsPlan}

-- f 0, then f 1, and so on to f (n - 1): "Nodes and edges go in rising number."
unfoldable pub each {ℓ} : {A : Type ℓ} → ℕ → (ℕ → List A) → List A
each zero f = []
each (suc n) f = each n f ++ f n

-- "each clause ended by 0"
unfoldable pub flat : List (List ℤ) → List ℤ
flat [] = []
flat (C ∷ Cs) = C ++ (pos 0 ∷ flat Cs)

-- A block over n nodes and the edges es, whose new variables are numbered on from base.
module _ (n : ℕ) (es : List Edge) (base : ℕ) where
  -- "level i from 0 to L: R(i, w) for each node w; then, if i < L, T(i, e) for each edge e". T(i, e) is U here; e is counted from 0.
  unfoldable pub R : ℕ → ℕ → ℕ
  R i w = suc (base + (i * (n + length es) + w))

  unfoldable pub U : ℕ → ℕ → ℕ
  U i k = suc (base + (i * (n + length es) + (n + k)))

  -- f at each edge into w, in edge order
  unfoldable pub into {ℓ} : {A : Type ℓ} → ℕ → (ℕ → List A) → List A
  into w f = each (length es) (λ k. cond (eqb w (edge es k).to) (f k) [])

  -- "for each w: R(0, w) alone if w is the source, else its opposite"
  unfoldable pub start_clauses : ℕ → List (List ℤ)
  start_clauses s = each n (λ w. (cond (eqb w s) (on (R 0 w)) (off (R 0 w)) ∷ []) ∷ [])

  -- "for each edge e from u with variable x: (-T, x), (-T, R(i,u)), (-x, -R(i,u), T)"
  unfoldable pub edge_clauses : ℕ → ℕ → List (List ℤ)
  edge_clauses i k =
      (off (U i k) ∷ on (edge es k).variable ∷ [])
      ∷ (off (U i k) ∷ on (R i (edge es k).from) ∷ [])
      ∷ (off (edge es k).variable ∷ off (R i (edge es k).from) ∷ on (U i k) ∷ [])
      ∷ []

  -- "for each w: (-R(i+1,w), R(i,w), all T(i,e) into w in edge order), (-R(i,w), R(i+1,w)); then, before the next w, for each e into
  -- this one: (-T(i,e), R(i+1,w))"
  unfoldable pub node_clauses : ℕ → ℕ → List (List ℤ)
  node_clauses i w =
      (off (R (suc i) w) ∷ on (R i w) ∷ into w (λ k. on (U i k) ∷ []))
      ∷ (off (R i w) ∷ on (R (suc i) w) ∷ [])
      ∷ into w (λ k. (off (U i k) ∷ on (R (suc i) w) ∷ []) ∷ [])

  unfoldable pub level_clauses : ℕ → List (List ℤ)
  level_clauses i = each (length es) (edge_clauses i) ++ each n (node_clauses i)

  -- "with a the atom's variable and t its target: (-a, R(L,t)), (a, -R(L,t))"
  unfoldable pub end_clauses : ℕ → ℕ → ℕ → List (List ℤ)
  end_clauses L t a = (off a ∷ on (R L t) ∷ []) ∷ (on a ∷ off (R L t) ∷ []) ∷ []

  unfoldable pub block : ℕ → ℕ → ℕ → ℕ → List (List ℤ)
  block L s t a = start_clauses s ++ (each L level_clauses ++ end_clauses L t a)

-- The kinds that have a block. "demand 3 covers files without it" (02, C-13): the others are refused before anything is written.
abbrev pub has_block : Kind → Bool
has_block Reaches = true
has_block Within = true
has_block LengthAtMost = false

abbrev pub AllHaveBlocks : List Atom → Type 0
AllHaveBlocks As = (A : Atom) → Memᴰ A As → T (has_block A.kind)

-- The place, from 0, of the first atom without one; their count where each has one.
abbrev pub first_unwritten : List Atom → ℕ
first_unwritten As = first_not (λ A. has_block A.kind) As

-- "L = n - 1 for kind 1, the lesser of bound and n - 1 for kind 2". A kind without a block has no levels; a file with such an atom is refused, not written.
abbrev pub levels_of : ℕ → Kind → ℕ → ℕ
levels_of n Reaches bound = n - 1
levels_of n Within bound = min bound (n - 1)
levels_of n LengthAtMost bound = 0

unfoldable pub levels : ℕ → Atom → ℕ
levels n A = levels_of n A.kind A.bound

-- "A block has (L+1)n + Lm variables, n + L(4m+2n) + 2 clauses and 2n + L(14m+6n) + 6 numbers."
unfoldable pub block_variables : ℕ → ℕ → ℕ → ℕ
block_variables n m L = (L + 1) * n + L * m

unfoldable pub block_clauses : ℕ → ℕ → ℕ → ℕ
block_clauses n m L = n + L * (4 * m + 2 * n) + 2

unfoldable pub block_numbers : ℕ → ℕ → ℕ → ℕ
block_numbers n m L = 2 * n + L * (14 * m + 6 * n) + 6

module _ (n : ℕ) (es : List Edge) where
  unfoldable pub atom_block : ℕ → Atom → List (List ℤ)
  atom_block base A = block n es base (levels n A) A.from A.to A.variable

  -- "New variables, numbered on from the last one used": the last one of the block behind base
  abbrev pub after : ℕ → Atom → ℕ
  after base A = base + block_variables n (length es) (levels n A)

  -- "Then a block for each atom, in order."
  unfoldable pub blocks : ℕ → List Atom → List (List ℤ)
  blocks base [] = []
  blocks base (A ∷ As) = atom_block base A ++ blocks (after base A) As

  unfoldable pub last : ℕ → List Atom → ℕ
  last base [] = base
  last base (A ∷ As) = last (after base A) As

-- "First the file's clauses."
unfoldable pub written : PlanFile → List (List ℤ)
written φ = φ.clauses ++ blocks φ.nodes φ.edges φ.variables φ.atoms

-- The count of variables, which is the last one's number.
unfoldable pub last_variable : PlanFile → ℕ
last_variable φ = last φ.nodes φ.edges φ.variables φ.atoms

-- Every clause has a true literal.
abbrev pub Satisfies : List ℤ → List (List ℤ) → Type 0
Satisfies a Cs = (C : List ℤ) → Memᴰ C Cs → HasTrue a C

-- Demand 3: the clauses have exactly one continuation, to all variables up to the last, for each plan, and none for anything else.
pub record ExactlyOne (φ : PlanFile) (Cs : List (List ℤ)) (last : ℕ) : Type 0 where
  pub continued : (a : List ℤ) → IsPlan φ a → (b : List ℤ) × Full (last - φ.variables) b × Satisfies (a ++ b) Cs
  pub one_way : (a b c : List ℤ) → Full φ.variables a → Full (last - φ.variables) b → Full (last - φ.variables) c
      → Satisfies (a ++ b) Cs → Satisfies (a ++ c) Cs → b ≡ c
  pub only_plans : (a b : List ℤ) → Full φ.variables a → Full (last - φ.variables) b → Satisfies (a ++ b) Cs → IsPlan φ a
