-- What the walks answer, over the meaning of crate `plan`. How it is found is left open.
-- Assumes nothing.
use Rattle.std.specs.Prelude.{◌≡◌, ◌↔◌, Bool, true, false, ℕ, zero, suc, ◌%◌, ◌/◌, ◌<◌, ◌≤◌, length, get_or, ℤ, T, eqb}
use mathlib.Core.List.{List, Memᴰ}
use Rattle.plan.specs.Meaning.{Edge, Atom, PlanFile, Graph, Leads, edge, atom, Cost, Distance, one_hop, own_length, measure_of, cost_of, IsTrue, true_in, graph_of}
use Rattle.plan.specs.Places.{First}
use Rattle.plan.specs.Ranged.{max_edges, max_atoms}
use Rattle.plan.specs.Closing.{settling, Settled}
use Rattle.plan.specs.declared.Measure.TheVariants.{Lengths}
use Rattle.plan.specs.declared.State.{State}
use Rattle.walk.specs.declared.distances.Distances.{Distances}
use Rattle.walk.specs.declared.lengths.Chains as lengths

-- A set of nodes as the binary digits of one number: whether i is in the set x.
unfoldable pub bit : ℕ → ℕ → Bool
bit zero x = eqb (x % 2) 1
bit (suc i) x = bit i (x / 2)

-- Every edge runs between nodes below 64.
abbrev pub Inside : List Edge → Type 0
Inside es = (e : Edge) → Memᴰ e es → (e.from < 64) × (e.to < 64)

-- Every edge's variable has a place in an assignment of so many.
abbrev pub Placed : List Edge → ℕ → Type 0
Placed es variables = (e : Edge) → Memᴰ e es → (1 ≤ e.variable) × (e.variable ≤ variables)

-- The set at place u has w exactly if an edge of the graph leads from u to w.
pub record Neighbours (es : List Edge) (g : Graph) (sets : List ℕ) : Type 0 where
  pub exact : (u w : ℕ) → u < 64 → w < 64 → T (bit w (get_or sets u 0)) ↔ Leads es g u w

-- The edge numbered k is in the graph and starts at u.
abbrev pub Starts : List Edge → Graph → ℕ → ℕ → Type 0
Starts es g u k = T (g (edge es k)) × ((edge es k).from ≡ u)

-- The chains of a graph's edges: for each node u the number of the first that starts at u; for an edge k of the graph that of the next one with the
-- same start. The count of the edges stands for none.
pub record Chained (es : List Edge) (g : Graph) (t : lengths.Chains) : Type 0 where
  pub first : (u : ℕ) → u < 64 → First (Starts es g u) 0 (length es) (get_or t.first u 0)
  pub next : (k : ℕ) → k < length es → T (g (edge es k)) → First (Starts es g (edge es k).from) (suc k) (length es) (get_or t.next k 0)

-- They are those of some graph of at most so many edges as a file has, between nodes.
pub record AreChains (es : List Edge) (t : lengths.Chains) : Type 0 where
  pub graph : Graph
  pub chained : Chained es graph t
  pub inside : Inside es
  pub few : length es ≤ max_edges

-- The distances from one node as they stand in a table: whether a node is reached, and how far it is.
abbrev pub reached_in : Distances → ℕ → Bool
reached_in d w = bit w d.reached

abbrev pub distance_in : Distances → ℕ → ℕ
distance_in d w = get_or d.far w 0

-- A node is reached, with the distance k, exactly if it is k from s. What stands at a node that is not reached says nothing.
pub record DistanceTable (c : Cost) (es : List Edge) (g : Graph) (s : ℕ) (d : Distances) : Type 0 where
  pub number : (w k : ℕ) → (T (reached_in d w) × (distance_in d w ≡ k)) ↔ Distance c es g s w k

-- What the functions promise, of whatever graph the sets and chains are.
pub record Walked (sets : List ℕ) (s : ℕ) (d : Distances) : Type 0 where
  pub table : (es : List Edge) (g : Graph) → Inside es → Neighbours es g sets → DistanceTable one_hop es g s d

pub record LengthWalked (es : List Edge) (t : lengths.Chains) (s : ℕ) (d : Distances) : Type 0 where
  pub table : (g : Graph) → Chained es g t → DistanceTable own_length es g s d

abbrev pub Truth : Atom → Distances → Bool → Type 0
Truth A d r = (es : List Edge) (g : Graph) → DistanceTable (cost_of A.kind) es g A.from d → T r ↔ IsTrue es g A

-- The table is of the graph that settles whether the atom holds (true) or fails (false).
abbrev pub Settling : List Edge → List ℤ → Atom → Bool → Distances → Type 0
Settling es a A b d = DistanceTable (cost_of A.kind) es (graph_of (settling A.kind b) (true_in a)) A.from d

abbrev pub SettledBy : Atom → Distances → Distances → State → Type 0
SettledBy A u o r = (φ : PlanFile) (a : List ℤ) → Settling φ.edges a A true u → Settling φ.edges a A false o → Settled φ (true_in a) A r

-- Of a set of atoms, by their numbers from 0, those with the property P.
abbrev pub Those : (ℕ → Type 0) → ℕ → ℕ → Type 0
Those P asked r = (k : ℕ) → T (bit k r) ↔ (T (bit k asked) × P k)

-- The atoms of the set stand in a table of so many places, run between nodes and count lengths.
pub record LengthAtoms (As : List Atom) (asked : ℕ) : Type 0 where
  pub listed : (k : ℕ) → T (bit k asked) → k < length As
  pub from_in : (k : ℕ) → T (bit k asked) → (atom As k).from < 64
  pub to_in : (k : ℕ) → T (bit k asked) → (atom As k).to < 64
  pub lengths : (k : ℕ) → T (bit k asked) → measure_of (atom As k).kind ≡ Lengths

-- Those that are true by the distances from their source.
abbrev pub TrueBy : List Atom → ℕ → Distances → ℕ → Type 0
TrueBy As asked d r = (es : List Edge) (g : Graph) → ((k : ℕ) → T (bit k asked) → DistanceTable own_length es g (atom As k).from d) → Those (λ k. IsTrue es g (atom As k)) asked r

-- The set of those of the first `count` atoms that count lengths.
pub record CountLengths (As : List Atom) (count set : ℕ) : Type 0 where
  pub few : count ≤ max_atoms
  pub exact : (k : ℕ) → T (bit k set) ↔ ((k < count) × (measure_of (atom As k).kind ≡ Lengths))
