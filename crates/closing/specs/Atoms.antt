-- What a look at the atoms does: each is asked for a verdict, that it holds (true) or fails (false).
-- Assumes nothing.
use Rattle.std.specs.Prelude.{◌≡◌, Bool, Result, Ok, Err, ℕ, ◌<◌, ◌≤◌, length, ℤ, neg_ℤ, T}
use mathlib.Core.List.{List, Memᴰ}
use Rattle.plan.specs.Meaning.{Atom, PlanFile, ◌⊆◌, literal_of, true_in, add, atom}
use Rattle.plan.specs.Ranged.{Ranged, EndsFit, max_nodes, max_variables}
use Rattle.plan.specs.Closing.{Settles}
use Rattle.plan.specs.Search.{Assigned}
use Rattle.plan.specs.Tables.{edges_of, atoms_of}
use Rattle.plan.specs.declared.Measure.{Measure}
use Rattle.plan.specs.declared.Measure.TheVariants.{Hops, Lengths}
use Rattle.plan.specs.declared.Edge as struct-of-edge
use Rattle.plan.specs.declared.Atom as struct-of-atom
use Rattle.walk.specs.Walking.{bit, Settling}
use Rattle.walk.specs.declared.distances.Distances.{Distances}
use Rattle.unit.specs.declared.Clash.{Clash}
use Rattle.closing.specs.Closed.{Looks}
use Rattle.closing.specs.declared.Step.{Step}
use Rattle.closing.specs.declared.Step.TheVariants.{Set, Still}

-- An assignment that has the atom's variable.
pub record AtomReady (a : List ℤ) (A : Atom) : Type 0 where
  pub shape : Assigned (length a) a
  pub small : length a ≤ max_variables
  pub fits : EndsFit max_nodes (length a) A.from A.to A.variable

-- The plan files that have these edges and atoms and the variables of a.
pub record HasTables (es : List struct-of-edge.Edge) (bs : List struct-of-atom.Atom) (a : List ℤ) (φ : PlanFile) : Type 0 where
  pub ranged : Ranged φ
  pub shape : Assigned φ.variables a
  pub edges : φ.edges ≡ edges_of es
  pub atoms : φ.atoms ≡ atoms_of bs

-- The literal for a verdict on the atom numbered j is not there.
abbrev pub Unsaid : List struct-of-atom.Atom → Bool → List ℤ → ℕ → Type 0
Unsaid bs b a j = T (true_in a (literal_of b (atom (atoms_of bs) j).variable)) → ⊥

-- The atoms of a set, by their numbers from 0, and those outside it.
abbrev pub In : ℕ → ℕ → Type 0
In set j = T (bit j set)

abbrev pub Outside : ℕ → ℕ → Type 0
Outside set j = T (bit j set) → ⊥

-- The atoms that count hops, and those that count lengths, which are those of the set.
abbrev pub Counting : Measure → ℕ → ℕ → Type 0
Counting Hops set = Outside set
Counting Lengths set = In set

-- Nothing is said yet of an atom outside the set.
abbrev pub Due : ℕ → List struct-of-atom.Atom → Bool → List ℤ → ℕ → Type 0
Due set bs b a j = Outside set j × Unsaid bs b a j

-- A literal that a rule gives is added to the assignment v, which is w then.
abbrev pub Gets : ℤ → List ℤ → List ℤ → Result Step Clash → Type 0
Gets l v w (Err c) = (w ≡ v) × T (true_in v (neg_ℤ l))
Gets l v w (Ok Set) = (w ≡ add v l) × (T (true_in v l) → ⊥) × (T (true_in v (neg_ℤ l)) → ⊥)
Gets l v w (Ok Still) = (w ≡ v) × T (true_in v l)

-- "an atom true in the under graph gives its variable on, one false in the over graph gives it off": what v settles is in w.
abbrev pub Heard : PlanFile → Bool → List ℤ → List ℤ → Atom → Type 0
Heard φ b v w A = Settles φ (true_in v) A b → T (true_in w (literal_of b A.variable))

abbrev pub AllHeard : PlanFile → Bool → List ℤ → List ℤ → Type 0
AllHeard φ b v w = (A : Atom) → Memᴰ A φ.atoms → Heard φ b v w A

-- The same of those numbers that have the property Q, for one verdict.
abbrev pub HeardOf : (ℕ → Type 0) → PlanFile → Bool → List ℤ → List ℤ → Type 0
HeardOf Q φ b v w = (j : ℕ) → j < length φ.atoms → Q j → Heard φ b v w (atom φ.atoms j)

abbrev pub BothHeard : PlanFile → List ℤ → List ℤ → Type 0
BothHeard φ v w = (b : Bool) → AllHeard φ b v w

-- One atom, heard if Q, by distances that then are those in a graph of an assignment below v.
abbrev pub Told : Type 0 → Bool → Atom → Distances → List ℤ → List ℤ → Result Step Clash → Type 0
Told Q b A d v w r = (φ : PlanFile) → Ranged φ → Assigned φ.variables v → Memᴰ A φ.atoms
    → (v₀ : List ℤ) → true_in v₀ ⊆ true_in v → (Q → Settling φ.edges v₀ A b d) → Looks φ (Q → Heard φ b v₀ w A) v w r

-- Those numbers that have the property Q, for one verdict and for both; then all atoms.
abbrev pub Looked : (ℕ → Type 0) → List struct-of-edge.Edge → List struct-of-atom.Atom → Bool → List ℤ → List ℤ → Result Step Clash → Type 0
Looked Q es bs b v w r = (φ : PlanFile) → HasTables es bs v φ → Looks φ (HeardOf Q φ b v w) v w r

abbrev pub LookedBoth : (ℕ → Type 0) → List struct-of-edge.Edge → List struct-of-atom.Atom → List ℤ → List ℤ → Result Step Clash → Type 0
LookedBoth Q es bs v w r = (φ : PlanFile) → HasTables es bs v φ → Looks φ ((b : Bool) → HeardOf Q φ b v w) v w r

abbrev pub AllLooked : List struct-of-edge.Edge → List struct-of-atom.Atom → List ℤ → List ℤ → Result Step Clash → Type 0
AllLooked es bs v w r = (φ : PlanFile) → HasTables es bs v φ → Looks φ (BothHeard φ v w) v w r

-- The atoms of a set give their literals for a verdict, which all of them deserve.
abbrev pub AllGiven : List struct-of-edge.Edge → List struct-of-atom.Atom → ℕ → Bool → List ℤ → List ℤ → Result Step Clash → Type 0
AllGiven es bs set b v w r = (φ : PlanFile) → HasTables es bs v φ → ((j : ℕ) → In set j → Settles φ (true_in v) (atom (atoms_of bs) j) b)
    → Looks φ ((j : ℕ) → In set j → T (true_in w (literal_of b (atom (atoms_of bs) j).variable))) v w r
