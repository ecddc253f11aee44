-- The walk by length, nearest node first: what holds before each node is taken, why one turn keeps it, and what it says once all known nodes are done.
-- Assumes nothing.
use mathlib.Core.Path.{◌≡◌, refl, sym, ap, ◌∙◌, subst, subst₂}
use mathlib.Core.Logic.{⊎_elim, ◌≢◌}
use mathlib.Core.List.{List}
use Prim.Native.Nat.{ℕ, suc, ◌+◌, ◌*◌, ◌-◌, ◌^◌, ◌<◌, ◌≤◌}
use native.Mathlib.Omega.{arith}
use lib.Bits.{bit_and, bit_or, or_lt}
use lib.ListN.{length, get_or, set}
use lib.Seq.{get_or-set_same}
use lib.Pow.{pow-lt}
use lib.Dec.{T}
use Rattle.plan.specs.Meaning.{Edge, Graph, Leads, edge, Walk, stay, hop, own_length}
use Rattle.plan.specs.Ranged.{max_length}
use Rattle.plan.proofs.Bools.{T?, T_same}
use Rattle.walk.specs.Walking.{bit, DistanceTable}
use Rattle.walk.specs.Front.{size}
use Rattle.walk.specs.Nearest.{Nearest, Relaxed}
use Rattle.walk.proofs.Sets.{bit_empty, bit_inside, bit_one, bit_without, bits_same, more_old, more_which, size_or, size_one}
use Rattle.walk.proofs.Truths.{table_of}

-- Known nodes have a distance, of some walk at least; a node that is done has had its edges taken, and is no farther than one that is not done.
pub record Dijkstra (es : List Edge) (g : Graph) (s known done : ℕ) (d : List ℕ) : Type 0 where
  pub part : (w : ℕ) → T (bit w done) → T (bit w known)
  pub source : T (bit s known)
  pub begins : get_or d s 0 ≡ 0
  pub sound : (w : ℕ) → T (bit w known) → Walk own_length es g s w (get_or d w 0)
  pub closed : (u w : ℕ) → T (bit u done) → (e : Leads es g u w) → T (bit w known) × (get_or d w 0 ≤ get_or d u 0 + (edge es e.number).length)
  pub near : (u w : ℕ) → T (bit u done) → T (bit w known) → (T (bit w done) → ⊥) → get_or d u 0 ≤ get_or d w 0
  pub low : (w : ℕ) → T (bit w known) → get_or d w 0 ≤ size done * max_length
  pub known_fits : known < 2 ^ 64
  pub done_fits : done < 2 ^ 64

-- ---- where the walk begins

pub begin : (es : List Edge) (g : Graph) (s known : ℕ) (d : List ℕ) → s < 64 → length d ≡ 64 → known ≡ 2 ^ s → Dijkstra es g s known 0 (set d s 0)
begin es g s known d l room e = record {
  part = λ w t. absurd (bit_empty w t);
  source = subst (λ (x : ℕ). T (bit s x)) (sym e) ((bit_one s s).1 refl);
  begins = none s refl;
  sound = λ w t. subst₂ (λ (x k : ℕ). Walk own_length es g s x k) (sym (only w t)) (sym (none w (only w t))) stay;
  closed = λ u w t. absurd (bit_empty u t);
  near = λ u w t. absurd (bit_empty u t);
  low = λ w t. omega (arith, none w (only w t));
  known_fits = omega (arith, e, pow-lt l);
  done_fits = omega arith;
}
  where
    only : (w : ℕ) → T (bit w known) → w ≡ s
    only w t = (bit_one w s).0 (subst (λ (x : ℕ). T (bit w x)) e t)

    none : (w : ℕ) → w ≡ s → get_or (set d s 0) w 0 ≡ 0
    none w q = rw q (get_or-set_same d s 0 0 (omega (arith, room)))

module _ {es : List Edge} {g : Graph} {s known done : ℕ} {d : List ℕ} (v : Dijkstra es g s known done d) where
  -- while not all known nodes are done, there is one to take
  pub some_left : done ≢ known → bit_and known (2 ^ 64 - 1 - done) ≢ 0
  some_left n z = n (bits_same 64 done known v.done_fits v.known_fits (λ i. T_same (bit i done) (bit i known) (v.part i) (all i)))
    where
      all : (i : ℕ) → T (bit i known) → T (bit i done)
      all i t = ⊎_elim (λ y. y) (λ o. absurd (bit_empty i (subst (λ (x : ℕ). T (bit i x)) z ((bit_without i known done v.known_fits v.done_fits).1 (t, o))))) (T? (bit i done))

  -- ---- one turn: the nearest known node that is not done is taken

  module _ {node : ℕ} (n : Nearest (bit_and known (2 ^ 64 - 1 - done)) d node) where
    chosen : T (bit node known) × (T (bit node done) → ⊥)
    chosen = (bit_without node known done v.known_fits v.done_fits).0 n.is

    pub node_in : node < 64
    node_in = bit_inside 64 node known v.known_fits chosen.0

    pub node_low : get_or d node 0 ≤ size done * max_length
    node_low = v.low node chosen.0

    pub one_more : size (bit_or done (2 ^ node)) ≡ suc (size done)
    one_more = omega (arith, size_or 64 done (2 ^ node) (λ i t o. chosen.1 (subst (λ (x : ℕ). T (bit x done)) ((bit_one i node).0 o) t)), size_one 64 node node_in)

    module _ {known' : ℕ} {d' : List ℕ} (r : Relaxed es g (length es) node known d known' d') (fits : known' < 2 ^ 64) where
      -- who is done is no farther than the node, and keeps its distance
      done_near : (u : ℕ) → T (bit u (bit_or done (2 ^ node))) → T (bit u known) × (get_or d u 0 ≤ get_or d node 0)
      done_near u t = ⊎_elim
          (λ o. (v.part u o, v.near u node o chosen.0 chosen.1))
          (λ e. (subst (λ (x : ℕ). T (bit x known)) (sym e) chosen.0, omega (arith, ap (λ (x : ℕ). get_or d x 0) e)))
          (more_which node u done t)

      done_same : (u : ℕ) → T (bit u (bit_or done (2 ^ node))) → get_or d' u 0 ≡ get_or d u 0
      done_same u t =
          let q = done_near u t in
          ⊎_elim (λ p. p.1) (λ p. omega (arith, p.1, q.1, r.nearer u q.0)) (r.by u (r.kept u q.0))

      pub turn : Dijkstra es g s known' (bit_or done (2 ^ node)) d'
      turn = record {
        part = λ w t. r.kept w (done_near w t).0;
        source = r.kept s v.source;
        begins = omega (arith, r.nearer s v.source, v.begins);
        sound = λ w t. ⊎_elim
            (λ p. subst (λ (k : ℕ). Walk own_length es g s w k) (sym p.1) (v.sound w p.0))
            (λ p. hop (v.sound node chosen.0) p.0 p.1)
            (r.by w t);
        closed = λ u w t e. ⊎_elim
            (λ o.
            let f = v.closed u w o e in
            (r.kept w f.0, omega (arith, r.nearer w f.0, f.1, done_same u t)))
            (λ q.
            let f = r.taken w (record { number = e.number; listed = e.listed; present = e.present; starts = e.starts ∙ q; ends = e.ends }) e.listed in
            (f.0, omega (arith, f.1, done_same u t, ap (λ (x : ℕ). get_or d x 0) q)))
            (more_which node u done t);
        near = λ u w t k o. ⊎_elim
            (λ p. omega (
              arith,
              done_same u t,
              (done_near u t).1,
              p.1,
              n.least w ((bit_without w known done v.known_fits v.done_fits).1 (p.0, λ x. o (more_old node w done x))),
            ))
            (λ p. omega (arith, done_same u t, (done_near u t).1, p.1))
            (r.by w k);
        low = λ w t. ⊎_elim
            (λ p. omega (arith, p.1, v.low w p.0, one_more))
            (λ p. omega (arith, p.1, p.2, node_low, one_more))
            (r.by w t);
        known_fits = fits;
        done_fits = or_lt 64 done (2 ^ node) v.done_fits (pow-lt node_in);
      }

-- ---- once all known nodes are done

module _ {es : List Edge} {g : Graph} {s known : ℕ} {d : List ℕ} (v : Dijkstra es g s known known d) where
  -- no walk leads out of the known nodes, or to one of them in less
  reach : {w k : ℕ} → Walk own_length es g s w k → T (bit w known) × (get_or d w 0 ≤ k)
  reach stay = (v.source, omega (arith, v.begins))
  reach (hop {u = u} {w = w} {j = j} {k = k} r e p) =
      let o = reach r in
      let c = v.closed u w o.0 e in
      (c.0, omega (arith, p, c.1, o.1))

  pub table : DistanceTable own_length es g s (record { far = d; reached = known })
  table = table_of _ v.sound (λ w k r. reach r)
