-- What the inner functions of the length walk promise one another: chains filled down to an edge, the nearest node, and the edges of one node taken.
-- Assumes nothing.
use Rattle.std.specs.Prelude.{◌≡◌, ◌⊎◌, Bool, not, cond, ◌||◌, List, ℕ, suc, ◌+◌, ◌<◌, ◌≤◌, length, get_or, set, T, ltb}
use Rattle.plan.specs.Meaning.{Edge, Graph, Leads, edge}
use Rattle.plan.specs.Places.{First}
use Rattle.plan.specs.Ranged.{max_length}
use Rattle.walk.specs.declared.lengths.Chains as lengths
use Rattle.walk.specs.Walking.{bit, Starts, Chained}

-- The chains of the edges from number n on.
pub record ChainedFrom (es : List Edge) (g : Graph) (n : ℕ) (t : lengths.Chains) : Type 0 where
  pub places : (length t.first ≡ 64) × (length t.next ≡ 256)
  pub first : (u : ℕ) → u < 64 → First (Starts es g u) n (length es) (get_or t.first u 0)
  pub next : (k : ℕ) → n ≤ k → k < length es → T (g (edge es k)) → First (Starts es g (edge es k).from) (suc k) (length es) (get_or t.next k 0)

-- The node is one of the set, and no other is nearer.
pub record Nearest (set : ℕ) (d : List ℕ) (node : ℕ) : Type 0 where
  pub is : T (bit node set)
  pub least : (w : ℕ) → T (bit w set) → get_or d node 0 ≤ get_or d w 0

-- Whether a node gets the distance k: it has none yet, or a larger one.
abbrev pub is_better : ℕ → List ℕ → ℕ → ℕ → Bool
is_better known d node k = not (bit node known) || ltb k (get_or d node 0)

abbrev pub lowered : ℕ → ℕ → ℕ → List ℕ → List ℕ
lowered known node k d = cond (is_better known d node k) (set d node k) d

-- The edges of the graph numbered below n that start at the node are taken: what is known then, and how far it is.
pub record Relaxed (es : List Edge) (g : Graph) (n node known : ℕ) (d : List ℕ) (known' : ℕ) (d' : List ℕ) : Type 0 where
  pub long : length d' ≡ length d
  pub kept : (w : ℕ) → T (bit w known) → T (bit w known')
  pub nearer : (w : ℕ) → T (bit w known) → get_or d' w 0 ≤ get_or d w 0
  pub taken : (w : ℕ) (e : Leads es g node w) → e.number < n → T (bit w known') × (get_or d' w 0 ≤ get_or d node 0 + (edge es e.number).length)
  pub by : (w : ℕ) → T (bit w known')
      → (T (bit w known) × (get_or d' w 0 ≡ get_or d w 0)) ⊎ ((e : Leads es g node w) × (get_or d' w 0 ≡ get_or d node 0 + (edge es e.number).length) × ((edge es e.number).length ≤ max_length))

-- All of them, of whatever graph the chains are.
abbrev pub Relaxes : List Edge → lengths.Chains → ℕ → ℕ → List ℕ → ℕ → List ℕ → Type 0
Relaxes es t node known d known' d' = (g : Graph) → Chained es g t → Relaxed es g (length es) node known d known' d'
