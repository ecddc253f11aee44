-- The cut: which edges lead across, told from the distances, and the marks on their variables.
-- Assumes nothing.
use mathlib.Core.Path.{◌≡◌, refl, sym, ap, subst, ◌∙◌}
use mathlib.Core.Logic.{◌↔◌, inl, inr, ⊎_elim}
use mathlib.Core.Bool.{Bool, true, false, not}
use mathlib.Core.List.{List, []}
use Prim.Native.Nat.{ℕ, zero, suc, ◌+◌, ◌≤◌, ◌<◌}
use native.Mathlib.Omega.{arith}
use lib.ListN.{length, get_or, replicate}
use lib.IntN.{ℤ}
use lib.Dec.{T}
use Rattle.plan.specs.Meaning.{Edge, Atom, PlanFile, Graph, edge, cost_of, true_in, off}
use Rattle.plan.specs.Reason.{Across, LeavesAt, EndsBeyond, Cut}
use Rattle.plan.specs.declared.Kind.{Kind}
use Rattle.plan.proofs.Lists.{le_or_lt}
use Rattle.walk.specs.declared.distances.Distances.{Distances}
use Rattle.walk.specs.Walking.{reached_in, distance_in, DistanceTable}
use Rattle.walk.proofs.Truths.{reached_distance, distance_reached, distance_is}
use Rattle.reason.specs.Marks.{MarksAlso, Crossing, CutAt, CutBelow}

-- the code's answer whether an edge is in the over graph
module _ (a : List ℤ) (v : ℕ) {r : Bool} (is : r ≡ not (true_in a (off v))) where
  pub off_of : r ≡ false → T (true_in a (off v))
  off_of e = go (true_in a (off v)) (sym is ∙ e)
    where
      go : (b : Bool) → not b ≡ false → T b
      go true h = tt
      go false h = let z : ◌≡◌ {A = ℕ} 0 1 = cc in absurd (omega arith)

-- an edge by the distances of its ends
module _ (kind : Kind) (bound : ℕ) {es : List Edge} {g : Graph} {s : ℕ} {d : Distances} (x : DistanceTable (cost_of kind) es g s d) (e : Edge) where
  abbrev near : ℕ
  near = distance_in d e.from

  module _ (start : T (reached_in d e.from)) (soon : LeavesAt kind bound near) where
    pub across_none : (T (reached_in d e.to) → ⊥) → Across kind es g bound s e
    across_none o = (near, reached_distance x e.from start, soon, λ j y. absurd (o (distance_reached x e.to j y)))

    pub across_far : T (reached_in d e.to) → EndsBeyond kind (near + cost_of kind e) (distance_in d e.to) ↔ Across kind es g bound s e
    across_far y = (
      (λ b. (near, reached_distance x e.from start, soon, λ j z. subst (EndsBeyond kind (near + cost_of kind e)) (distance_is x e.to j z) b)),
      (λ c. subst (λ (k : ℕ). EndsBeyond kind (k + cost_of kind e) (distance_in d e.to)) (sym (distance_is x e.from c.0 c.1)) (c.3 _ (reached_distance x e.to y))),
    )

-- ---- the marks

-- a plan file, where it does not matter which
abbrev pub bare : PlanFile
bare = record { nodes = 0; variables = 0; edges = []; atoms = []; clauses = [] }

pub blank : (n i : ℕ) → T (get_or (replicate n false) i false) → ⊥
blank zero i t = t
blank (suc n) zero t = t
blank (suc n) (suc i) t = blank n i t

module _ (φ : PlanFile) (a : List ℤ) (A : Atom) where
  -- the variable that the edge numbered n puts into the cut
  pub cut_at : (n : ℕ) (e : Edge) → n < length φ.edges → e ≡ edge φ.edges n → (v : ℕ) → CutAt n φ a A v ↔ ((v ≡ e.variable) × Crossing φ.edges a A e)
  cut_at n e l is v = (there, back)
    where
      there : CutAt n φ a A v → (v ≡ e.variable) × Crossing φ.edges a A e
      there c =
          let same : edge φ.edges c.0.number ≡ e = ap (edge φ.edges) c.1 ∙ sym is in
          let p : v ≡ e.variable = sym c.0.its ∙ ap (λ x. x.variable) same in
          (p, subst (λ x. Crossing φ.edges a A x) same (subst (λ (w : ℕ). T (true_in a (off w))) (sym c.0.its) c.0.is_off, c.0.across))

      back : (v ≡ e.variable) × Crossing φ.edges a A e → CutAt n φ a A v
      back q =
          let r = subst (λ x. Crossing φ.edges a A x) is q.1 in
          let p : (edge φ.edges n).variable ≡ v = ap (λ x. x.variable) (sym is) ∙ sym q.0 in
          (record { number = n; listed = l; its = p; is_off = subst (λ (w : ℕ). T (true_in a (off w))) p r.0; across = r.1 }, refl)

  -- no edges, one more, and all
  module _ (m : List Bool) where
    pub cut_more : {m' : List Bool} (n : ℕ) → ((i : ℕ) → T (get_or m i false) ↔ CutBelow n φ a A (suc i)) → MarksAlso (CutAt n φ a A) m m'
        → (i : ℕ) → T (get_or m' i false) ↔ CutBelow (suc n) φ a A (suc i)
    cut_more n f x i = (
      (λ t. ⊎_elim (λ o. let c = (f i).0 o in (c.0, omega (arith, c.1))) (λ c. (c.0, omega (arith, c.1))) ((x.exact i).0 t)),
      (λ c. (x.exact i).1 (⊎_elim (λ l. inr (c.0, omega (arith, c.1, l))) (λ l. inl ((f i).1 (c.0, l))) (le_or_lt n c.0.number))),
    )

    pub cut_all : (n : ℕ) → length φ.edges ≤ n → ((i : ℕ) → T (get_or m i false) ↔ CutBelow n φ a A (suc i)) → (i : ℕ) → T (get_or m i false) ↔ Cut φ a A (suc i)
    cut_all n l f i = ((λ t. ((f i).0 t).0), (λ c. (f i).1 (c, omega (arith, c.listed))))
