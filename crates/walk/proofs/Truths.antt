-- What a table of distances says of an atom.
-- Assumes nothing.
use mathlib.Core.Path.{◌≡◌, refl, sym, subst, ◌∙◌}
use mathlib.Core.Logic.{◌↔◌}
use mathlib.Core.Bool.{Bool, true, false}
use mathlib.Core.List.{List}
use Prim.Native.Nat.{ℕ, ◌≤◌}
use native.Mathlib.Omega.{arith}
use lib.Dec.{T}
use Rattle.plan.specs.Meaning.{Edge, Atom, Graph, Cost, Walk, Distance, cost_of, Allows, IsTrue}
use Rattle.walk.specs.declared.distances.Distances.{Distances}
use Rattle.walk.specs.Walking.{reached_in, distance_in, DistanceTable}

-- the code's answer, and what it stands for
pub so : {r b : Bool} → r ≡ b → r ≡ true → T b
so e t = subst (λ x. T x) (sym t ∙ e) tt

pub not_so : {r b : Bool} → r ≡ b → r ≡ false → T b → ⊥
not_so e f t = subst (λ x. T x) (sym e ∙ f) t

module _ {c : Cost} {es : List Edge} {g : Graph} {s : ℕ} {d : Distances} (x : DistanceTable c es g s d) where
  pub reached_distance : (t : ℕ) → T (reached_in d t) → Distance c es g s t (distance_in d t)
  reached_distance t y = (x.number t (distance_in d t)).0 (y, refl)

  pub distance_reached : (t k : ℕ) → Distance c es g s t k → T (reached_in d t)
  distance_reached t k y = ((x.number t k).1 y).0

  pub distance_is : (t k : ℕ) → Distance c es g s t k → distance_in d t ≡ k
  distance_is t k y = ((x.number t k).1 y).1

-- where each node that is reached has a walk of its distance, and each walk's end is reached, and no farther than the walk
pub table_of : {c : Cost} {es : List Edge} {g : Graph} {s : ℕ} (d : Distances) → ((w : ℕ) → T (reached_in d w) → Walk c es g s w (distance_in d w))
    → ((w k : ℕ) → Walk c es g s w k → T (reached_in d w) × (distance_in d w ≤ k)) → DistanceTable c es g s d
table_of {c} {es} {g} {s} d sound reach = record {
  number = λ w k. (
    (λ t. subst (λ (y : ℕ). Distance c es g s w y) t.1 (record { walk = sound w t.0; fewest = λ j r. (reach w j r).1 })),
    (λ e. let o = reach w k e.walk in (o.0, omega (arith, o.1, e.fewest (distance_in d w) (sound w o.0)))),
  );
}

-- an atom by the distances from its source
module _ {es : List Edge} {g : Graph} (A : Atom) {d : Distances} (x : DistanceTable (cost_of A.kind) es g A.from d) where
  pub true_none : (T (reached_in d A.to) → ⊥) → IsTrue es g A → ⊥
  true_none n y = n (distance_reached x A.to y.0 y.1)

  pub true_allowed : T (reached_in d A.to) → Allows A.kind A.bound (distance_in d A.to) ↔ IsTrue es g A
  true_allowed t = (
    (λ l. (distance_in d A.to, reached_distance x A.to t, l)),
    (λ y. subst (λ k. Allows A.kind A.bound k) (sym (distance_is x A.to y.0 y.1)) y.2),
  )
