-- The reason for an atom under a partial assignment: a clause, whose every literal is fixed. Document 01, "Judging and reasons".
-- Assumes nothing.
use Rattle.std.specs.Prelude.{◌≡◌, ◌↔◌, ℕ, zero, ◌+◌, ◌<◌, length, ℤ, neg_ℤ, T, Bool, true, false}
use mathlib.Core.List.{List, [], ◌∷◌, map, Memᴰ}
use Rattle.plan.specs.Meaning.{Edge, Atom, PlanFile, Graph, edge, Cost, Distance, cost_of, on, off, Literals, true_in, graph_of}
use Rattle.plan.specs.Closing.{settling, Settles, Settled}
use Rattle.plan.specs.declared.Kind.{Kind}
use Rattle.plan.specs.declared.Kind.TheVariants.{Reaches, Within, LengthAtMost}
use Rattle.plan.specs.declared.State.TheVariants.{Open}

-- The smallest number with the property P.
pub record Smallest (P : ℕ → Type 0) (k : ℕ) : Type 0 where
  pub is : P k
  pub least : (j : ℕ) → j < k → P j → ⊥

-- An edge of the graph leads to w, which is k from s, and a cheapest walk to w ends with it: what its start is from s and what it costs make k.
pub record Nearer (c : Cost) (es : List Edge) (g : Graph) (s w k j : ℕ) : Type 0 where
  pub listed : j < length es
  pub present : T (g (edge es j))
  pub ends : (edge es j).to ≡ w
  pub before : ℕ
  pub near : Distance c es g s (edge es j).from before
  pub sum : k ≡ before + c (edge es j)

-- "one path, read back from the target one hop at a time. Each step takes the smallest-numbered on-edge that comes from a node one hop
-- nearer to the source."; "a shortest path read back by smallest edge number" (02, C-13). The edge variables of the path to w, which is so far from s,
-- from the last edge to the first.
pub data Back (c : Cost) (es : List Edge) (g : Graph) (s : ℕ) : ℕ → ℕ → List ℕ → Type 0 where
  source : Back c es g s s zero []
  step : {w k j : ℕ} {vs : List ℕ} → (f : Smallest (Nearer c es g s w k) j)
      → Back c es g s (edge es j).from f.is.before vs → Back c es g s w k ((edge es j).variable ∷ vs)

-- The numbers of a list rise, from above b.
pub data Rising : ℕ → List ℕ → Type 0 where
  end : {b : ℕ} → Rising b []
  more : {b v : ℕ} {vs : List ℕ} → b < v → Rising v vs → Rising b (v ∷ vs)

-- "variables rising, each once": the list has exactly the variables with the property P.
pub record Listed (P : ℕ → Type 0) (vs : List ℕ) : Type 0 where
  pub rising : Rising zero vs
  pub exact : (v : ℕ) → Memᴰ v vs ↔ P v

-- "Fails, kind 1: each off edge whose start is reached in the over graph and whose end is not. Fails, kind 2: each off edge (x, y) where
-- x has over-hops less than d and y has none, or more than x's plus 1."; "kind 2's rule with lengths for hops and the edge's length for 1" (02,
-- C-13). What is asked of x's distance k, and, beside it, of each distance j of y.
abbrev pub LeavesAt : Kind → ℕ → ℕ → Type 0
LeavesAt Reaches d k = T true
LeavesAt Within d k = k < d
LeavesAt LengthAtMost d k = k < d

abbrev pub EndsBeyond : Kind → ℕ → ℕ → Type 0
EndsBeyond Reaches far j = ⊥
EndsBeyond Within far j = far < j
EndsBeyond LengthAtMost far j = far < j

-- The edge leads across, in the graph g.
abbrev pub Across : Kind → List Edge → Graph → ℕ → ℕ → Edge → Type 0
Across kind es g d s e =
    (k : ℕ) × Distance (cost_of kind) es g s e.from k × LeavesAt kind d k × ((j : ℕ) → Distance (cost_of kind) es g s e.to j → EndsBeyond kind (k + cost_of kind e) j)

pub data Reason : Type 0 where
  holds : List ℤ → Reason
  fails : List ℤ → Reason
  neither : Reason

module _ (φ : PlanFile) (a : List ℤ) (A : Atom) where
  -- The variable v is that of an off edge that leads across in the graph by which the atom fails.
  pub record Cut (v : ℕ) : Type 0 where
    pub number : ℕ
    pub listed : number < length φ.edges
    pub its : (edge φ.edges number).variable ≡ v
    pub is_off : T (true_in a (off v))
    pub across : Across A.kind φ.edges (graph_of (settling A.kind false) (true_in a)) A.bound A.from (edge φ.edges number)

  -- "the atom's literal first (on for 'holds', off for 'fails'), then the opposite of each premise, variables rising, each once"
  pub record HoldsBy (r : List ℤ) : Type 0 where
    pub truth : Settles φ (true_in a) A true
    pub count : ℕ
    pub path : List ℕ
    pub nearest : Distance (cost_of A.kind) φ.edges (graph_of (settling A.kind true) (true_in a)) A.from A.to count
    pub read : Back (cost_of A.kind) φ.edges (graph_of (settling A.kind true) (true_in a)) A.from A.to count path
    pub premises : List ℕ
    pub listed : Listed (λ v. Memᴰ v path) premises
    pub clause : r ≡ on A.variable ∷ map off premises

  pub record FailsBy (r : List ℤ) : Type 0 where
    pub falsity : Settles φ (true_in a) A false
    pub premises : List ℕ
    pub listed : Listed Cut premises
    pub clause : r ≡ off A.variable ∷ map on premises

  abbrev pub ReasonIs : Reason → Type 0
  ReasonIs (holds r) = HoldsBy r
  ReasonIs (fails r) = FailsBy r
  ReasonIs neither = Settled φ (true_in a) A Open

-- A clause's premises are the opposites of its literals behind the first. They alone decide the atom: whatever set of literals has them settles it,
-- that it holds (true: it is true in the under graph of the premises already) or fails (false: it is false in their over graph already).
abbrev pub Premises : List ℤ → Literals → Type 0
Premises [] S = T true
Premises (x ∷ ls) S = (l : ℤ) → Memᴰ l ls → T (S (neg_ℤ l))

abbrev pub Decides : PlanFile → Atom → Bool → List ℤ → Type 0
Decides φ A b r = (S : Literals) → Premises r S → Settles φ S A b
