-- The nearest node of a set, looked for node by node, the lowest first.
-- Assumes nothing.
use mathlib.Core.Path.{◌≡◌, ap, subst}
use mathlib.Core.Logic.{◌⊎◌, inl, inr, ⊎_elim, ◌≢◌}
use mathlib.Core.List.{List}
use Prim.Native.Nat.{ℕ, ◌-◌, ◌^◌, ◌<◌, ◌≤◌}
use native.Mathlib.Omega.{arith}
use lib.Bits.{bit_and}
use lib.Count.{count_trailing_zeros}
use lib.ListN.{get_or}
use lib.Dec.{T}
use Rattle.walk.specs.Walking.{bit}
use Rattle.walk.specs.Nearest.{Nearest}
use Rattle.walk.proofs.Sets.{bit_empty, Taken, taken}

-- The node is one of the set, and no other is nearer, but for those that are left to look at.
pub record Choosing (set rest : ℕ) (d : List ℕ) (node : ℕ) : Type 0 where
  pub part : (w : ℕ) → T (bit w rest) → T (bit w set)
  pub is : T (bit node set)
  pub least : (w : ℕ) → T (bit w set) → T (bit w rest) ⊎ (get_or d node 0 ≤ get_or d w 0)

pub choose_start : (set : ℕ) (d : List ℕ) → set < 2 ^ 64 → set ≢ 0 → Choosing set (bit_and set (set - 1)) d (count_trailing_zeros 64 set)
choose_start set d f n =
    let t = taken set f n in
    record {
      part = t.kept;
      is = t.is;
      least = λ w m. ⊎_elim (λ e. inr (omega (arith, ap (λ (x : ℕ). get_or d x 0) e))) (λ r. inl r) (t.other w m);
    }

-- a node of what is left is looked at, and the nearer one of the two is kept
module _ {set rest : ℕ} {d : List ℕ} {node other rest' : ℕ} (c : Choosing set rest d node) (t : Taken rest other rest') where
  kept : (next : ℕ) → T (bit next set) → get_or d next 0 ≤ get_or d node 0 → get_or d next 0 ≤ get_or d other 0 → Choosing set rest' d next
  kept next is l m = record {
    part = λ w r. c.part w (t.kept w r);
    is = is;
    least = λ w r. ⊎_elim
        (λ o. ⊎_elim (λ e. inr (omega (arith, ap (λ (x : ℕ). get_or d x 0) e))) (λ q. inl q) (t.other w o))
        (λ o. inr (omega arith))
        (c.least w r);
  }

  pub choose_other : get_or d other 0 < get_or d node 0 → Choosing set rest' d other
  choose_other l = kept other (c.part other t.is) (omega arith) (omega arith)

  pub choose_same : get_or d node 0 ≤ get_or d other 0 → Choosing set rest' d node
  choose_same l = kept node c.is (omega arith) (omega arith)

pub choose_end : {set rest : ℕ} {d : List ℕ} {node : ℕ} → Choosing set rest d node → rest ≡ 0 → Nearest set d node
choose_end c e = record {
  is = c.is;
  least = λ w r. ⊎_elim (λ o. absurd (bit_empty w (subst (λ (x : ℕ). T (bit w x)) e o))) (λ l. l) (c.least w r);
}
