-- Walks, whatever their edges cost: edges by number and by membership, larger graphs, and that a walk has a cheapest one beside it.
-- Assumes nothing.
use mathlib.Core.Path.{◌≡◌, sym, subst, subst₂, ◌∙◌, ap}
use mathlib.Core.Logic.{◌⊎◌, inl, inr, ◌↔◌}
use mathlib.Core.Bool.{Bool, ◌&&◌, ◌||◌}
use mathlib.Core.List.{List, Memᴰ}
use Prim.Native.Nat.{ℕ, zero, suc, ◌+◌, ◌-◌, ◌≤◌, ◌<◌}
use native.Mathlib.Omega.{arith}
use lib.Dec.{T, eqb, eqb→eq, eqb_refl, leb, leb→le, le→leb}
use Rattle.plan.specs.Meaning.{Edge, Atom, Graph, no_edge, edge, Leads, Cost, Walk, stay, hop, Distance, cost_by, measure_of, cost_of, Allows, IsTrue}
use Rattle.plan.specs.declared.Kind.{Kind}
use Rattle.plan.specs.declared.Kind.TheVariants.{Reaches, Within, LengthAtMost}
use Rattle.plan.specs.declared.Measure.{Measure}
use Rattle.plan.specs.declared.Measure.TheVariants.{Hops, Lengths}
use Rattle.plan.proofs.Lists.{le_or_lt, mem_at, at_mem, smallest_below}
use Rattle.plan.proofs.Bools.{any_of, or_cases, or_left, or_right, and_both, and_left, and_right, any_some, some_any}

-- an edge that leads, by number and by membership
module _ {es : List Edge} {g : Graph} where
  pub its_in : {u w : ℕ} (d : Leads es g u w) → Memᴰ (edge es d.number) es
  its_in d = mem_at es _ d.number d.listed

-- more edges, more walks
module _ (c : Cost) (es : List Edge) {f g : Graph} (h : (e : Edge) → Memᴰ e es → T (f e) → T (g e)) where
  leads_mono : {u w : ℕ} → Leads es f u w → Leads es g u w
  leads_mono d = record { number = d.number; listed = d.listed; present = h (edge es d.number) (its_in d) d.present; starts = d.starts; ends = d.ends }

  pub walk_mono : {s w k : ℕ} → Walk c es f s w k → Walk c es g s w k
  unfolding leads_mono
  walk_mono stay = stay
  walk_mono (hop r d e) = hop (walk_mono r) (leads_mono d) e

-- every edge costs something, whatever is counted, where every edge has a length
abbrev pub Pays : Cost → List Edge → Type 0
Pays c es = (e : Edge) → Memᴰ e es → 1 ≤ c e

abbrev pub Long : List Edge → Type 0
Long es = (e : Edge) → Memᴰ e es → 1 ≤ e.length

pub pays_by : (measure : Measure) (es : List Edge) → Long es → Pays (cost_by measure) es
pays_by Hops es long e m = omega arith
pays_by Lengths es long e m = long e m

-- a walk by its last edge, which the list has
pub hop_by : {c : Cost} {es : List Edge} {g : Graph} {s j k : ℕ} (e : Edge) → Memᴰ e es → T (g e) → Walk c es g s e.from j → k ≡ j + c e → Walk c es g s e.to k
hop_by {c} {es} {g} {s} {j} {k} e m t r q =
    let p = at_mem es no_edge e m in
    let d : Leads es g e.from e.to = record {
      number = p.0;
      listed = p.1;
      present = subst (λ x. T (g x)) p.2 t;
      starts = ap (λ x. x.from) (sym p.2);
      ends = ap (λ x. x.to) (sym p.2);
    } in
    hop r d (q ∙ ap (λ x. j + c x) p.2)

module _ (c : Cost) (es : List Edge) (g : Graph) (s : ℕ) (pays : Pays c es) where
  -- whether a walk that costs k leads to w; so many edges at the most are tried
  walks? : ℕ → ℕ → ℕ → Bool
  walks? zero k w = eqb k 0 && eqb s w
  walks? (suc n) k w = (eqb k 0 && eqb s w) || any_of (λ e. g e && (eqb e.to w && (leb (c e) k && walks? n (k - c e) e.from))) es

  stays : (k w : ℕ) → T (eqb k 0 && eqb s w) → Walk c es g s w k
  stays k w t =
      subst₂ (λ x y. Walk c es g s x y) (eqb→eq s w (and_right (eqb k 0) _ t)) (sym (eqb→eq k 0 (and_left (eqb k 0) _ t))) stay

  walks_out : (n k w : ℕ) → T (walks? n k w) → Walk c es g s w k
  unfolding walks?
  walks_out zero k w t = stays k w t
  walks_out (suc n) k w t = go (λ e. walks_out n (k - c e) e.from) (or_cases (eqb k 0 && eqb s w) _ t)
    where
      test : Edge → Bool
      test e = g e && (eqb e.to w && (leb (c e) k && walks? n (k - c e) e.from))

      go : ((e : Edge) → T (walks? n (k - c e) e.from) → Walk c es g s e.from (k - c e)) → T (eqb k 0 && eqb s w) ⊎ T (any_of test es) → Walk c es g s w k
      go r (inl h) = stays k w h
      go r (inr h) =
          let q = any_some test es h in
          let e = q.0 in
          let u = and_right (g e) _ q.2 in
          let v = and_right (eqb e.to w) _ u in
          subst (λ x. Walk c es g s x k) (eqb→eq e.to w (and_left (eqb e.to w) _ u))
          (hop_by e q.1 (and_left (g e) _ q.2) (r e (and_right (leb (c e) k) _ v)) (omega (arith, leb→le (c e) k (and_left (leb (c e) k) _ v))))

  walks_in : {w k : ℕ} → Walk c es g s w k → (n : ℕ) → k ≤ n → T (walks? n k w)
  unfolding walks?
  walks_in stay zero h = eqb_refl s
  walks_in stay (suc n) h = or_left (eqb s s) _ (eqb_refl s)
  walks_in {w} {k} (hop {u = u} {j = j} r d p) n h = go n h (λ m l. walks_in r m l)
    where
      e : Edge
      e = edge es d.number

      go : (n : ℕ) → k ≤ n → ((m : ℕ) → j ≤ m → T (walks? m j u)) → T (walks? n k w)
      go zero h q = absurd (omega (arith, p, pays e (its_in d)))
      go (suc n) h q =
          let l = pays e (its_in d) in
          or_right (eqb k 0 && eqb s w) _
          (some_any (λ e. g e && (eqb e.to w && (leb (c e) k && walks? n (k - c e) e.from))) es e (its_in d)
          (and_both (g e) _ d.present
          (and_both (eqb e.to w) _ (subst (λ x. T (eqb e.to x)) d.ends (eqb_refl e.to))
          (and_both (leb (c e) k) _ (le→leb (c e) k (omega arith))
          (subst₂ (λ x y. T (walks? n x y)) (omega arith) (sym d.starts) (q n (omega arith)))))))

  -- where there is a walk there is a distance
  pub distance_of : (w k : ℕ) → Walk c es g s w k → (j : ℕ) × Distance c es g s w j × (j ≤ k)
  distance_of w k r = go (smallest_below (λ j. walks? k j w) (suc k))
    where
      go : ((j : ℕ) × (j < suc k) × T (walks? k j w) × ((i : ℕ) → i < j → T (walks? k i w) → ⊥)) ⊎ ((j : ℕ) → j < suc k → T (walks? k j w) → ⊥) → (j : ℕ) × Distance c es g s w j × (j ≤ k)
      go (inl q) = (q.0, record { walk = walks_out k q.0 w q.2; fewest = λ i v. least i v (le_or_lt q.0 i) }, omega (arith, q.1))
        where
          least : (i : ℕ) → Walk c es g s w i → (q.0 ≤ i) ⊎ (i < q.0) → q.0 ≤ i
          least i v (inl l) = l
          least i v (inr l) = absurd (q.3 i l (walks_in v k (omega (arith, q.1))))
      go (inr none) = absurd (none k (omega arith) (walks_in r k (omega arith)))

pub distance_unique : {c : Cost} {es : List Edge} {g : Graph} {s t j k : ℕ} → Distance c es g s t j → Distance c es g s t k → j ≡ k
distance_unique {j = j} {k = k} x y = omega (arith, x.fewest k y.walk, y.fewest j x.walk)

-- what is allowed of a count is allowed of a smaller one
pub allows_less : (kind : Kind) (d j k : ℕ) → j ≤ k → Allows kind d k → Allows kind d j
allows_less Reaches d j k l h = tt
allows_less Within d j k l h = omega arith
allows_less LengthAtMost d j k l h = omega arith

-- an atom is true exactly if some walk to its target costs what is allowed
module _ (es : List Edge) (long : Long es) (g : Graph) (A : Atom) where
  abbrev pub Led : Type 0
  Led = (k : ℕ) × Walk (cost_of A.kind) es g A.from A.to k × Allows A.kind A.bound k

  pub true_led : IsTrue es g A ↔ Led
  true_led = (
    (λ q. (q.0, q.1.walk, q.2)),
    (λ q. let h = distance_of (cost_of A.kind) es g A.from (pays_by (measure_of A.kind) es long) A.to q.0 q.1 in (h.0, h.1, allows_less A.kind A.bound h.0 q.0 h.2 q.2)),
  )

-- what is true in a graph is true in a larger one
pub true_mono : (es : List Edge) → Long es → (f g : Graph) (A : Atom) → ((e : Edge) → Memᴰ e es → T (f e) → T (g e)) → IsTrue es f A → IsTrue es g A
true_mono es long f g A h x = let q = (true_led es long f A).0 x in (true_led es long g A).1 (q.0, walk_mono (cost_of A.kind) es {f = f} {g = g} h q.1, q.2)
