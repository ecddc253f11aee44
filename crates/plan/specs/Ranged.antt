-- What holds of every plan file that is accepted. Document 01, "Plan file": "Ranges" and what follows it.
-- Assumes nothing.
use Rattle.std.specs.Prelude.{◌≡◌, ℕ, ◌+◌, ◌≤◌, ◌<◌, ℤ, nat_abs, length}
use mathlib.Core.List.{List, [], ◌∷◌, Memᴰ}
use Rattle.plan.specs.Meaning.{Edge, Atom, PlanFile}
use Rattle.plan.specs.declared.Kind.{Kind}
use Rattle.plan.specs.declared.Kind.TheVariants.{Reaches, Within, LengthAtMost}

-- The limits; in the code each is a constant of the thing it limits.
abbrev pub max_bytes : ℕ
max_bytes = 16384

abbrev pub max_nodes : ℕ
max_nodes = 64

abbrev pub max_variables : ℕ
max_variables = 512

abbrev pub max_edges : ℕ
max_edges = 256

abbrev pub max_length : ℕ
max_length = 65535

abbrev pub max_atoms : ℕ
max_atoms = 64

abbrev pub max_bound : ℕ
max_bound = 255

abbrev pub max_length_bound : ℕ
max_length_bound = 65535

abbrev pub max_clauses : ℕ
max_clauses = 1024

abbrev pub max_literals : ℕ
max_literals = 4096

-- All literals of all clauses, as written.
unfoldable pub literals : List (List ℤ) → ℕ
literals [] = 0
literals (C ∷ Cs) = length C + literals Cs

-- Two nodes, numbered from 0, and a variable, numbered from 1.
pub record EndsFit (nodes variables from to variable : ℕ) : Type 0 where
  pub from_in : from < nodes
  pub to_in : to < nodes
  pub low : 1 ≤ variable
  pub high : variable ≤ variables

-- "a fourth field, 1 to 65,535" (02, C-13)
pub record LengthFits (length : ℕ) : Type 0 where
  pub low : 1 ≤ length
  pub high : length ≤ max_length

-- "A literal is a variable's number, negative for off, and never 0"
pub record LiteralFits (variables : ℕ) (l : ℤ) : Type 0 where
  pub low : 1 ≤ nat_abs l
  pub high : nat_abs l ≤ variables

-- A clause, and clauses, over so many variables: every literal is one of theirs. A clause may have none: "The empty clause is legal." (02, C-12)
abbrev pub LiteralsFit : ℕ → List ℤ → Type 0
LiteralsFit variables C = (l : ℤ) → Memᴰ l C → LiteralFits variables l

abbrev pub InRange : ℕ → List (List ℤ) → Type 0
InRange variables Cs = (C : List ℤ) → Memᴰ C Cs → LiteralsFit variables C

-- "Kind 1 is 'reaches', bound 0. Kind 2 is 'within', bound 0 to 255."; "kind 3, 'length at most', bound 0 to 65,535" (02, C-13)
abbrev pub BoundFits : Kind → ℕ → Type 0
BoundFits Reaches d = d ≡ 0
BoundFits Within d = d ≤ max_bound
BoundFits LengthAtMost d = d ≤ max_length_bound

pub record Ranged (φ : PlanFile) : Type 0 where
  pub node : 1 ≤ φ.nodes
  pub nodes : φ.nodes ≤ max_nodes
  pub variable : 1 ≤ φ.variables
  pub variables : φ.variables ≤ max_variables
  pub edges : length φ.edges ≤ max_edges
  pub atoms : length φ.atoms ≤ max_atoms
  pub clauses : length φ.clauses ≤ max_clauses
  pub literals : literals φ.clauses ≤ max_literals
  pub edge : (e : Edge) → Memᴰ e φ.edges → EndsFit φ.nodes φ.variables e.from e.to e.variable
  pub long : (e : Edge) → Memᴰ e φ.edges → LengthFits e.length
  pub atom : (A : Atom) → Memᴰ A φ.atoms → EndsFit φ.nodes φ.variables A.from A.to A.variable
  pub bound : (A : Atom) → Memᴰ A φ.atoms → BoundFits A.kind A.bound
  pub literal : InRange φ.variables φ.clauses
  -- "A variable may not serve an edge and an atom."
  pub apart : (e : Edge) → Memᴰ e φ.edges → (A : Atom) → Memᴰ A φ.atoms → e.variable ≡ A.variable → ⊥
