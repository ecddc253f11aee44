-- The edges of a graph in chains by their start, filled from the last edge down.
-- Assumes nothing.
use mathlib.Core.Path.{◌≡◌, refl, sym, ap, ◌∙◌, subst, subst₂}
use mathlib.Core.List.{List, [], ◌∷◌, ◌++◌, append_assoc}
use Prim.Native.Nat.{ℕ, suc, ◌+◌, ◌<◌, ◌≤◌}
use native.Mathlib.Decide.{ℕ_discrete}
use native.Mathlib.Omega.{arith}
use lib.ListN.{length, get_or, set, length-set, replicate, length-replicate, get_or-replicate, length-append}
use lib.Seq.{get_or-set_same, get_or-set_other, get_or-append_seam}
use lib.Dec.{T}
use Rattle.plan.specs.Meaning.{Edge, Graph, edge}
use Rattle.plan.specs.Places.{First}
use Rattle.plan.specs.Ranged.{max_edges}
use Rattle.plan.specs.Tables.{edge_of, edges_of}
use Rattle.plan.specs.declared.Edge as struct-of-edge
use Rattle.plan.proofs.ByPlace.{blank_edge, edges_at}
use Rattle.plan.specs.Tables.{edges_of}
use Rattle.plan.proofs.Places.{without_none, first_found, first_end, first_back}
use Rattle.walk.specs.declared.lengths.Chains as lengths
use Rattle.walk.specs.Walking.{Starts, Chained}
use Rattle.walk.specs.Nearest.{ChainedFrom}

-- from the end on there is no edge
pub chained_none : (es : List Edge) (g : Graph) (n : ℕ) → n ≡ length es → ChainedFrom es g n (record { first = replicate 64 n; next = replicate 256 n })
chained_none es g n q = record {
  places = (refl, length-replicate 256 n);
  first = λ u l. first_end (Starts es g u) (omega (arith, none u l)) (none u l ∙ q) (λ k a b p. absurd (omega (arith, none u l)));
  next = λ k a b p. absurd (omega arith);
}
  where
    none : (u : ℕ) → u < 64 → get_or (replicate 64 n) u 0 ≡ n
    none u l = get_or-replicate 64 u n 0 (omega arith)

-- ---- the edges that are left are the first ones, and the last of them is taken

pub record Last (l left rest : List struct-of-edge.Edge) (k : ℕ) (e : struct-of-edge.Edge) : Type 0 where
  pub first : (behind : List struct-of-edge.Edge) × (l ≡ rest ++ behind)
  pub place : k ≡ length rest
  pub more : length left ≡ suc k
  pub inside : k < length l
  pub here : edge_of e ≡ edge (edges_of l) k

pub last_one : (l left rest : List struct-of-edge.Edge) (count k : ℕ) (e : struct-of-edge.Edge) → ((behind : List struct-of-edge.Edge) × (l ≡ left ++ behind))
    → count ≡ 0 → left ≡ rest ++ (e ∷ []) → k ≡ count + length rest → Last l left rest k e
last_one l left rest count k e b z q p =
    let whole : l ≡ rest ++ (e ∷ b.0) = b.1 ∙ ap (λ x. x ++ b.0) q ∙ append_assoc rest (e ∷ []) b.0 in
    let place : k ≡ length rest = omega (arith, p, z) in
    record {
      first = (e ∷ b.0, whole);
      place = place;
      more = omega (arith, place, ap length q, length-append rest (e ∷ []));
      inside = omega (arith, place, ap length whole, length-append rest (e ∷ b.0));
      here = ap edge_of (sym (ap (λ x. get_or x k blank_edge) whole ∙ ap (λ j. get_or (rest ++ (e ∷ b.0)) j blank_edge) place ∙ get_or-append_seam rest e b.0 blank_edge)) ∙ edges_at l k;
    }

-- ---- one edge more

module _ {es : List Edge} {g : Graph} {n : ℕ} {t : lengths.Chains} (c : ChainedFrom es g (suc n) t) where
  -- where it does not start, the first is what it was
  passed : (u : ℕ) → u < 64 → (Starts es g u n → ⊥) → First (Starts es g u) n (length es) (get_or t.first u 0)
  passed u l o = first_back (Starts es g u) {at = suc n} (omega arith) (λ k a b p. o (let e : k ≡ n = omega arith in subst (Starts es g u) e p)) (c.first u l)

  -- an edge that is not in the graph
  pub chained_skip : (T (g (edge es n)) → ⊥) → ChainedFrom es g n t
  chained_skip o = record {
    places = c.places;
    first = λ u l. passed u l (λ s. o s.0);
    next = λ k a b p. elim (ℕ_discrete k n) [
      | yes e ↦ absurd (o (subst (λ j. T (g (edge es j))) e p))
      | no d ↦ c.next k (omega arith) b p
    ];
  }

  -- an edge that is: the first of its start, before those that were there
  pub chained_put : (from : ℕ) → from < 64 → n < length es → length es ≤ max_edges → T (g (edge es n)) → (edge es n).from ≡ from
      → ChainedFrom es g n (record { first = set t.first from n; next = set t.next n (get_or t.first from 0) })
  chained_put from inside listed few present starts = record {
    places = (length-set t.first from n ∙ c.places.0, length-set t.next n (get_or t.first from 0) ∙ c.places.1);
    first = λ u l. elim (ℕ_discrete u from) [
      | yes e ↦ subst (λ x. First (Starts es g u) n (length es) x) (sym (ap (λ x. get_or (set t.first from n) x 0) e ∙ get_or-set_same t.first from n 0 (omega (arith, c.places))))
          (first_found (Starts es g u) (omega arith) (omega arith) (without_none (Starts es g u) n) (present, starts ∙ sym e))
      | no d ↦ subst (λ x. First (Starts es g u) n (length es) x) (sym (get_or-set_other t.first from u n 0 d)) (passed u l (λ s. d (sym s.1 ∙ starts)))
    ];
    next = λ k a b p. elim (ℕ_discrete k n) [
      | yes e ↦ subst (λ j. First (Starts es g (edge es j).from) (suc j) (length es) (get_or (set t.next n (get_or t.first from 0)) j 0)) (sym e)
          (subst₂ (λ u x. First (Starts es g u) (suc n) (length es) x) (sym starts) (sym (get_or-set_same t.next n (get_or t.first from 0) 0 (omega (arith, c.places)))) (c.first from inside))
      | no d ↦ subst (λ x. First (Starts es g (edge es k).from) (suc k) (length es) x) (sym (get_or-set_other t.next n k (get_or t.first from 0) 0 d)) (c.next k (omega arith) b p)
    ];
  }

-- all edges
pub chained_all : {es : List Edge} {g : Graph} {t : lengths.Chains} → ChainedFrom es g 0 t → Chained es g t
chained_all c = record { first = c.first; next = λ k b p. c.next k (omega arith) b p }
