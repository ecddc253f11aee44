-- Taking the edges of one node along its chain: what one edge does to the distance of its end, and why the edges behind are then all that is left.
-- Assumes nothing.
use mathlib.Core.Path.{◌≡◌, refl, sym, ap, ◌∙◌, subst}
use mathlib.Core.Logic.{◌⊎◌, inl, inr, ⊎_elim, ◌≢◌}
use mathlib.Core.Bool.{Bool, true, false, not, cond}
use mathlib.Core.List.{List}
use Prim.Native.Nat.{ℕ, suc, ◌+◌, ◌^◌, ◌<◌, ◌≤◌}
use native.Mathlib.Decide.{ℕ_discrete, dec_lt}
use native.Mathlib.Omega.{arith}
use lib.Bits.{bit_or}
use lib.ListN.{length, get_or, set, length-set}
use lib.Seq.{get_or-set_same, get_or-set_other}
use lib.Dec.{T, ltb, ltb→lt, nltb→le, T_not, not_T}
use Rattle.plan.specs.Meaning.{Edge, Graph, Leads, edge}
use Rattle.plan.specs.Places.{First}
use Rattle.plan.specs.Ranged.{max_length}
use Rattle.plan.proofs.Bools.{T?, or_cases, or_left, or_right}
use Rattle.walk.specs.declared.lengths.Chains as lengths
use Rattle.walk.specs.Walking.{bit, Starts, Chained}
use Rattle.walk.specs.Nearest.{is_better, lowered, Relaxed}
use Rattle.walk.proofs.Sets.{more_old, more_new, more_which}

-- ---- one edge

module _ (known to far : ℕ) (d : List ℕ) where
  lowered_long : length (lowered known to far d) ≡ length d
  lowered_long = go (is_better known d to far)
    where
      go : (b : Bool) → length (cond b (set d to far) d) ≡ length d
      go true = length-set d to far
      go false = refl

  lowered_other : (w : ℕ) → w ≢ to → get_or (lowered known to far d) w 0 ≡ get_or d w 0
  lowered_other w o = go (is_better known d to far)
    where
      go : (b : Bool) → get_or (cond b (set d to far) d) w 0 ≡ get_or d w 0
      go true = get_or-set_other d to w far 0 o
      go false = refl

  -- the end gets the new distance, which is no larger than one that it had; or it keeps the one that it had, which is no larger than the new one
  abbrev New : List ℕ → Type 0
  New d' = (get_or d' to 0 ≡ far) × (T (bit to known) → far ≤ get_or d to 0)

  abbrev Old : List ℕ → Type 0
  Old d' = T (bit to known) × (get_or d' to 0 ≡ get_or d to 0) × (get_or d to 0 ≤ far)

  lowered_this : to < length d → New (lowered known to far d) ⊎ Old (lowered known to far d)
  lowered_this inside = go (is_better known d to far) less kept
    where
      less : T (is_better known d to far) → T (bit to known) → far ≤ get_or d to 0
      less t k = ⊎_elim (λ n. absurd (T_not (bit to known) n k)) (λ l. omega (arith, ltb→lt far (get_or d to 0) l)) (or_cases (not (bit to known)) (ltb far (get_or d to 0)) t)

      kept : (T (is_better known d to far) → ⊥) → T (bit to known) × (get_or d to 0 ≤ far)
      kept n = (
        ⊎_elim (λ t. t) (λ o. absurd (n (or_left (not (bit to known)) (ltb far (get_or d to 0)) (not_T (bit to known) o)))) (T? (bit to known)),
        nltb→le far (get_or d to 0) (not_T (ltb far (get_or d to 0)) (λ t. n (or_right (not (bit to known)) (ltb far (get_or d to 0)) t))),
      )

      go : (b : Bool) → (T b → T (bit to known) → far ≤ get_or d to 0) → ((T b → ⊥) → T (bit to known) × (get_or d to 0 ≤ far))
          → New (cond b (set d to far) d) ⊎ Old (cond b (set d to far) d)
      go true f h = inl (get_or-set_same d to far 0 inside, f tt)
      go false f h = let p = h (λ t. t) in inr (p.0, refl, p.1)

-- ---- along the chain

-- The edges below k are taken, and k is the next one of the node, or the count of the edges.
pub record Relaxing (es : List Edge) (g : Graph) (node known : ℕ) (d : List ℕ) (k known' : ℕ) (d' : List ℕ) : Type 0 where
  pub inside : k ≤ length es
  pub starts : k < length es → Starts es g node k
  pub done : Relaxed es g k node known d known' d'

module _ {es : List Edge} {g : Graph} {t : lengths.Chains} (c : Chained es g t) {node known : ℕ} {d : List ℕ} where
  pub relax_start : (inside : node < 64) → Relaxing es g node known d (get_or t.first node 0) known d
  relax_start inside =
      let f = c.first node inside in
      record {
        inside = f.inside;
        starts = f.here;
        done = record {
          long = refl;
          kept = λ w t. t;
          nearer = λ w t. omega arith;
          taken = λ w e l. absurd (f.before e.number (omega arith) l (e.present, e.starts));
          by = λ w t. inl (t, refl);
        };
      }

  module _ {k known' : ℕ} {d' : List ℕ} (r : Relaxing es g node known d k known' d') (listed : k < length es) where
    -- the next one of the node
    pub next_of : First (Starts es g node) (suc k) (length es) (get_or t.next k 0)
    next_of = subst (λ u. First (Starts es g u) (suc k) (length es) (get_or t.next k 0)) (r.starts listed).1 (c.next k listed (r.starts listed).0)

    module _ (e : Edge) (is : e ≡ edge es k) (short : e.length ≤ max_length) (room : e.to < length d) where
      after : List ℕ
      after = lowered known' e.to (get_or d node 0 + e.length) d'

      at_end : New known' e.to (get_or d node 0 + e.length) d' after ⊎ Old known' e.to (get_or d node 0 + e.length) d' after
      unfolding after
      at_end = lowered_this known' e.to (get_or d node 0 + e.length) d' (omega (arith, r.done.long))

      elsewhere : (w : ℕ) → w ≢ e.to → get_or after w 0 ≡ get_or d' w 0
      unfolding after
      elsewhere w o = lowered_other known' e.to (get_or d node 0 + e.length) d' w o

      -- a known node is not farther than before, and the end not farther than over the edge
      less : (w : ℕ) → T (bit w known') → get_or after w 0 ≤ get_or d' w 0
      less w t = elim (ℕ_discrete w e.to) [
        | yes q ↦ subst (λ (x : ℕ). get_or after x 0 ≤ get_or d' x 0) (sym q)
            (⊎_elim (λ a. omega (arith, a.0, a.1 (subst (λ (x : ℕ). T (bit x known')) q t))) (λ a. omega (arith, a.1)) at_end)
        | no o ↦ omega (arith, elsewhere w o)
      ]

      within : get_or after e.to 0 ≤ get_or d node 0 + e.length
      within = ⊎_elim (λ a. omega (arith, a.0)) (λ a. omega (arith, a.1, a.2)) at_end

      -- where a node's distance comes from: as before, or from this edge
      abbrev By : ℕ → Type 0
      By w = (T (bit w known) × (get_or after w 0 ≡ get_or d w 0)) ⊎ ((i : Leads es g node w) × (get_or after w 0 ≡ get_or d node 0 + (edge es i.number).length) × ((edge es i.number).length ≤ max_length))

      by_before : (w : ℕ) → T (bit w known') → get_or after w 0 ≡ get_or d' w 0 → By w
      by_before w t q = ⊎_elim (λ p. inl (p.0, q ∙ p.1)) (λ p. inr (p.0, q ∙ p.1, p.2)) (r.done.by w t)

      by_end : By e.to
      by_end = ⊎_elim
          (λ a. inr (record { number = k; listed = listed; present = (r.starts listed).0; starts = (r.starts listed).1; ends = sym (ap (λ x. x.to) is) }, a.0 ∙ ap (λ x. get_or d node 0 + x.length) is, omega (arith, short, ap (λ x. x.length) is)))
          (λ a. by_before e.to a.0 a.1)
          at_end

      pub relax_turn : Relaxing es g node known d (get_or t.next k 0) (bit_or known' (2 ^ e.to)) (lowered known' e.to (get_or d node 0 + e.length) d')
      unfolding after
      relax_turn = record {
        inside = next_of.inside;
        starts = next_of.here;
        done = record {
          long = lowered_long known' e.to (get_or d node 0 + e.length) d' ∙ r.done.long;
          kept = λ w t. more_old e.to w known' (r.done.kept w t);
          nearer = λ w t. omega (arith, less w (r.done.kept w t), r.done.nearer w t);
          taken = λ w i l. elim (dec_lt i.number k) [
            | yes y ↦ let f = r.done.taken w i y in (more_old e.to w known' f.0, omega (arith, less w f.0, f.1))
            | no n ↦ elim (ℕ_discrete i.number k) [
              | yes q ↦
                  let z : e ≡ edge es i.number = is ∙ ap (edge es) (sym q) in
                  subst (λ (x : ℕ). T (bit x (bit_or known' (2 ^ e.to))) × (get_or after x 0 ≤ get_or d node 0 + (edge es i.number).length)) (ap (λ x. x.to) z ∙ i.ends)
                  (more_new e.to known', omega (arith, within, ap (λ x. x.length) z))
              | no o ↦ absurd (next_of.before i.number (omega arith) l (i.present, i.starts))
            ]
          ];
          by = λ w t. elim (ℕ_discrete w e.to) [
            | yes q ↦ subst By (sym q) by_end
            | no o ↦ by_before w (⊎_elim (λ y. y) (λ q. absurd (o q)) (more_which e.to w known' t)) (elsewhere w o)
          ];
        };
      }

  -- no edge is left
  pub relax_end : {k known' : ℕ} {d' : List ℕ} → Relaxing es g node known d k known' d' → length es ≤ k → Relaxed es g (length es) node known d known' d'
  relax_end r l = record {
    long = r.done.long;
    kept = r.done.kept;
    nearer = r.done.nearer;
    taken = λ w e h. r.done.taken w e (omega arith);
    by = r.done.by;
  }
