-- A set of atoms that are asked: where they stand in their table, and that lengths say whether they are true.
-- Assumes nothing.
use mathlib.Core.Path.{◌≡◌, refl, sym, subst}
use mathlib.Core.Logic.{◌↔◌}
use mathlib.Core.Bool.{Bool}
use mathlib.Core.List.{List, Memᴰ}
use Prim.Native.Nat.{ℕ, ◌<◌}
use native.Mathlib.Omega.{arith}
use lib.ListN.{length}
use lib.Dec.{T}
use Rattle.plan.specs.Meaning.{Edge, Atom, Graph, no_atom, atom, measure_of, cost_by, own_length, IsTrue}
use Rattle.plan.specs.declared.Measure.{Measure}
use Rattle.plan.specs.declared.Measure.TheVariants.{Hops, Lengths}
use Rattle.plan.proofs.Lists.{mem_at}
use Rattle.walk.specs.declared.distances.Distances.{Distances}
use Rattle.walk.specs.Walking.{bit, DistanceTable, Truth, LengthAtoms, CountLengths}

-- some of them
pub asked_part : {As : List Atom} {asked part : ℕ} → LengthAtoms As asked → ((k : ℕ) → T (bit k part) → T (bit k asked)) → LengthAtoms As part
asked_part a h = record {
  listed = λ k t. a.listed k (h k t);
  from_in = λ k t. a.from_in k (h k t);
  to_in = λ k t. a.to_in k (h k t);
  lengths = λ k t. a.lengths k (h k t);
}

-- the distances by length are those that such an atom counts
pub asked_true : {As : List Atom} {asked : ℕ} (k : ℕ) → LengthAtoms As asked → T (bit k asked) → (A : Atom) → A ≡ atom As k → (d : Distances) (r : Bool) → Truth A d r
    → (es : List Edge) (g : Graph) → DistanceTable own_length es g (atom As k).from d → T r ↔ IsTrue es g (atom As k)
asked_true {As} k a t A e d r h es g x =
    subst (λ B. Truth B d r) e h es g (subst (λ m. DistanceTable (cost_by m) es g (atom As k).from d) (sym (a.lengths k t)) x)

-- all atoms of a table that count lengths
pub all_asked : (As : List Atom) (count set : ℕ) → length As ≡ count → ((A : Atom) → Memᴰ A As → (A.from < 64) × (A.to < 64)) → CountLengths As count set → LengthAtoms As set
all_asked As count set long ends c = record {
  listed = inside;
  from_in = λ k t. (ends (atom As k) (mem_at As no_atom k (inside k t))).0;
  to_in = λ k t. (ends (atom As k) (mem_at As no_atom k (inside k t))).1;
  lengths = λ k t. ((c.exact k).0 t).1;
}
  where
    inside : (k : ℕ) → T (bit k set) → k < length As
    inside k t = omega (arith, ((c.exact k).0 t).0)

-- an atom outside the set counts hops
pub by_hops : {As : List Atom} {count set : ℕ} (k : ℕ) → CountLengths As count set → k < count → (T (bit k set) → ⊥) → measure_of (atom As k).kind ≡ Hops
by_hops {As} k c l n = go (measure_of (atom As k).kind) refl
  where
    go : (m : Measure) → measure_of (atom As k).kind ≡ m → measure_of (atom As k).kind ≡ Hops
    go Hops e = e
    go Lengths e = absurd (n ((c.exact k).1 (l, e)))
