-- What the inner functions promise one another: marks on variables, the path read back, the cut, and the clause written from the marks.
-- Assumes nothing.
use Rattle.std.specs.Prelude.{◌≡◌, ◌↔◌, ◌⊎◌, Bool, true, false, ℕ, zero, suc, ◌+◌, ◌≤◌, ◌<◌, length, get_or, ℤ, T}
use mathlib.Core.List.{List, [], ◌∷◌, ◌++◌, map, Memᴰ}
use Rattle.plan.specs.Meaning.{Edge, Atom, Graph, PlanFile, edge, Distance, cost_of, graph_of, literal_of, off, true_in}
use Rattle.plan.specs.Buffers.{Wrote}
use Rattle.plan.specs.Closing.{settling}
use Rattle.plan.specs.Ranged.{max_nodes, max_variables, max_edges, EndsFit}
use Rattle.plan.specs.Reason.{Smallest, Nearer, Back, Across, Cut}
use Rattle.walk.specs.declared.distances.Distances.{Distances}
use Rattle.walk.specs.Walking.{Inside, Placed, Settling}
use Rattle.reason.specs.Answers.{Over}

-- What is asked of the edges and of the assignment: ends, lengths and variables in range, and no more edges and variables than a plan file has.
pub record Fits (es : List Edge) (a : List ℤ) : Type 0 where
  pub inside : Inside es
  pub placed : Placed es (length a)
  pub long : (e : Edge) → Memᴰ e es → 1 ≤ e.length
  pub edges : length es ≤ max_edges
  pub few : length a ≤ max_variables

abbrev pub EdgeFits : List ℤ → Edge → Type 0
EdgeFits a e = EndsFit max_nodes (length a) e.from e.to e.variable

-- The marks m' are the marks m and those of the variables with the property P; the mark of variable v stands at place v - 1.
pub record MarksAlso (P : ℕ → Type 0) (m m' : List Bool) : Type 0 where
  pub long : length m' ≡ length m
  pub exact : (i : ℕ) → T (get_or m' i false) ↔ (T (get_or m i false) ⊎ P (suc i))

-- ---- the path

-- The graph by which an atom holds, and how far a node is in it from the atom's source.
abbrev pub holding : List ℤ → Atom → Graph
holding a A = graph_of (settling A.kind true) (true_in a)

abbrev pub Away : List Edge → List ℤ → Atom → ℕ → ℕ → Type 0
Away es a A node k = Distance (cost_of A.kind) es (holding a A) A.from node k

-- An edge of that graph leads to the node, which is k away, and a cheapest walk ends with it: `Nearer` of an edge that is known without its number.
pub record Leads (es : List Edge) (a : List ℤ) (A : Atom) (node k : ℕ) (e : Edge) : Type 0 where
  pub present : T (holding a A e)
  pub ends : e.to ≡ node
  pub before : ℕ
  pub near : Away es a A e.from before
  pub sum : k ≡ before + cost_of A.kind e

abbrev pub LeadsNearer : List ℤ → Atom → Edge → Distances → ℕ → ℕ → Bool → Type 0
LeadsNearer a A e d node k r = (es : List Edge) → Settling es a A true d → T r ↔ Leads es a A node k e

-- The edge is the smallest-numbered one with which a cheapest walk to the node ends.
abbrev pub FirstNearer : List Edge → List ℤ → Atom → ℕ → ℕ → Edge → Type 0
FirstNearer es a A node k e = (j : ℕ) × Smallest (Nearer (cost_of A.kind) es (holding a A) A.from node k) j × (e ≡ edge es j)

-- The variables of the path to the node, which is k away, are marked too.
pub record PathMarked (es : List Edge) (a : List ℤ) (A : Atom) (node k : ℕ) (m m' : List Bool) : Type 0 where
  pub path : List ℕ
  pub back : Back (cost_of A.kind) es (holding a A) A.from node k path
  pub marks : MarksAlso (λ v. Memᴰ v path) m m'

-- ---- the cut

-- An off edge leads across.
abbrev pub Crossing : List Edge → List ℤ → Atom → Edge → Type 0
Crossing es a A e = T (true_in a (off e.variable)) × Across A.kind es (graph_of (settling A.kind false) (true_in a)) A.bound A.from e

abbrev pub Crosses : List ℤ → Atom → Edge → Distances → Bool → Type 0
Crosses a A e d r = (es : List Edge) → Settling es a A false d → T r ↔ Crossing es a A e

-- The variable is in the cut, by the edge numbered n or by one numbered below n.
abbrev pub CutAt : ℕ → PlanFile → List ℤ → Atom → ℕ → Type 0
CutAt n φ a A v = (c : Cut φ a A v) × (c.number ≡ n)

abbrev pub CutBelow : ℕ → PlanFile → List ℤ → Atom → ℕ → Type 0
CutBelow n φ a A v = (c : Cut φ a A v) × (c.number < n)

abbrev pub MarksCut : List Edge → List ℤ → Atom → List Bool → Type 0
MarksCut es a A m = Over es (λ φ. (i : ℕ) → T (get_or m i false) ↔ Cut φ a A (suc i))

-- ---- the clause

-- What one mark adds to the marked variables.
abbrev pub piece : Bool → ℕ → List ℕ
piece true v = v ∷ []
piece false v = []

-- The marked variables up to n, rising.
unfoldable pub premises : List Bool → ℕ → List ℕ
premises m zero = []
premises m (suc n) = premises m n ++ piece (get_or m n false) (suc n)

-- A clause: the literal of a variable, and those of the marked ones with the other sign.
abbrev pub clause_of : ℤ → Bool → List Bool → ℕ → List ℤ
clause_of x sign m n = x ∷ map (literal_of sign) (premises m n)

-- The literals p are put into a buffer from the place `at` on: whatever w it starts with, it then starts with w and p.
pub record Appends (at : ℕ) (p out out' : List ℤ) (end : ℕ) : Type 0 where
  pub ends : end ≡ at + length p
  pub wrote : (w before : List ℤ) → at ≡ length w → Wrote w before out → Wrote (w ++ p) before out'
