-- What the inner functions of the walk promise one another: sets filled up to an edge, and a set of nodes visited.
-- Assumes nothing.
use Rattle.std.specs.Prelude.{◌≡◌, ◌↔◌, List, ℕ, zero, suc, ◌+◌, ◌%◌, ◌/◌, ◌<◌, ◌≤◌, length, get_or, T}
use Rattle.plan.specs.Meaning.{Edge, Graph, Leads}
use Rattle.walk.specs.Walking.{bit}

-- An edge of the graph numbered below n leads from u to w.
abbrev pub LeadsBelow : ℕ → List Edge → Graph → ℕ → ℕ → Type 0
LeadsBelow n es g u w = (d : Leads es g u w) × (d.number < n)

-- The sets of neighbours, made of the edges below n.
pub record UpTo (es : List Edge) (g : Graph) (n : ℕ) (sets : List ℕ) : Type 0 where
  pub places : length sets ≡ 64
  pub exact : (u w : ℕ) → u < 64 → w < 64 → T (bit w (get_or sets u 0)) ↔ LeadsBelow n es g u w

-- How many nodes below n a set has, and how many it has in all.
unfoldable pub size_in : ℕ → ℕ → ℕ
size_in zero x = 0
size_in (suc n) x = x % 2 + size_in n (x / 2)

abbrev pub size : ℕ → ℕ
size x = size_in 64 x

-- The nodes of the set x have their places in the queue behind the first `tail`, and the number c; all else is as it was.
pub record Visited (x c tail : ℕ) (counts queue : List ℕ) (end : ℕ) (counts' queue' : List ℕ) : Type 0 where
  pub ends : end ≡ tail + size x
  pub kept : (i : ℕ) → i < tail → get_or queue' i 0 ≡ get_or queue i 0
  pub only : (i : ℕ) → tail ≤ i → i < end → T (bit (get_or queue' i 0) x)
  pub place : (w : ℕ) → T (bit w x) → (i : ℕ) × (tail ≤ i) × (i < end) × (get_or queue' i 0 ≡ w)
  pub number : (w : ℕ) → T (bit w x) → get_or counts' w 0 ≡ c
  pub other : (w : ℕ) → (T (bit w x) → ⊥) → get_or counts' w 0 ≡ get_or counts w 0
  pub numbered : length counts' ≡ length counts
  pub places : length queue' ≡ length queue
