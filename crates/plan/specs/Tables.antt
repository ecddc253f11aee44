-- The tables that the reader fills and the library lends on: docs/LAYOUT.md. A plan file as it stands in them.
-- Assumes nothing.
use Rattle.std.specs.Prelude.{◌≡◌, List, [], ◌∷◌, ℕ, zero, suc, ◌<◌, ℤ, pos, negsuc, neg_ℤ, length, map, get_or}
use Rattle.plan.specs.Meaning.{Edge, Atom, PlanFile}
use Rattle.plan.specs.Ranged.{Ranged, literals}
use Rattle.plan.specs.Written.{flat}
use Rattle.plan.specs.declared.Plan.{Plan}
use Rattle.plan.specs.declared.Edge as struct-of-edge
use Rattle.plan.specs.declared.Atom as struct-of-atom

-- a literal in front of the first clause; behind the last 0 there is no clause
abbrev pub in_front : ℤ → List (List ℤ) → List (List ℤ)
in_front l [] = []
in_front l (C ∷ Cs) = (l ∷ C) ∷ Cs

-- each clause's literals, then one 0
unfoldable pub clauses_of : List ℤ → List (List ℤ)
clauses_of [] = []
clauses_of (pos zero ∷ r) = [] ∷ clauses_of r
clauses_of (pos (suc n) ∷ r) = in_front (pos (suc n)) (clauses_of r)
clauses_of (negsuc n ∷ r) = in_front (negsuc n) (clauses_of r)

-- The code's structs as the records of the meaning.
abbrev pub edge_of : struct-of-edge.Edge → Edge
edge_of e = record { from = e.from; to = e.to; length = e.length; variable = e.variable }

abbrev pub atom_of : struct-of-atom.Atom → Atom
atom_of A = record { kind = A.kind; from = A.from; to = A.to; bound = A.bound; variable = A.variable }

-- The tables of edges and of atoms, as lists of the meaning.
unfoldable pub edges_of : List struct-of-edge.Edge → List Edge
edges_of es = map edge_of es

unfoldable pub atoms_of : List struct-of-atom.Atom → List Atom
atoms_of As = map atom_of As

-- What a literal is in an assignment, as the code computes it: 1 true, -1 false, 0 open.
unfoldable pub literal_value : List ℤ → ℤ → ℤ
literal_value a (pos zero) = pos 0
literal_value a (pos (suc i)) = get_or a i (pos 0)
literal_value a (negsuc i) = neg_ℤ (get_or a i (pos 0))

-- A longer list begins with a.
abbrev pub BeginsWith : List ℤ → List ℤ → Type 0
BeginsWith r a = (i : ℕ) → i < length a → get_or r i (pos 0) ≡ get_or a i (pos 0)

-- The plan file of the tables; the struct Plan holds the counts.
abbrev pub plan_of : Plan → List struct-of-edge.Edge → List struct-of-atom.Atom → List ℤ → PlanFile
plan_of p es bs cs = record { nodes = p.nodes; variables = p.variables; edges = edges_of es; atoms = atoms_of bs; clauses = clauses_of cs }

-- What the reader guarantees of the tables that are lent on, cut to their used parts.
pub record Lent (p : Plan) (es : List struct-of-edge.Edge) (bs : List struct-of-atom.Atom) (cs : List ℤ) : Type 0 where
  pub ranged : Ranged (plan_of p es bs cs)
  pub edges : length es ≡ p.edges
  pub atoms : length bs ≡ p.atoms
  pub clauses : length (clauses_of cs) ≡ p.clauses
  pub literals : literals (clauses_of cs) ≡ p.literals
  pub ended : flat (clauses_of cs) ≡ cs
