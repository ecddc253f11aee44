-- The walk breadth first: what holds before each node is taken from the queue, why one turn keeps it, and what it says once the queue
-- is used up.
-- Assumes nothing.
use mathlib.Core.Path.{◌≡◌, refl, sym, ap, ◌∙◌, subst, subst₂}
use mathlib.Core.Logic.{◌↔◌, ◌⊎◌, ⊎_elim}
use mathlib.Core.List.{List}
use Prim.Native.Nat.{ℕ, zero, suc, ◌+◌, ◌-◌, ◌^◌, ◌<◌, ◌≤◌}
use native.Mathlib.Decide.{dec_lt}
use native.Mathlib.Omega.{arith}
use lib.Bits.{bit_and, bit_or, or_lt, and_le_r}
use lib.ListN.{length, get_or, set, replicate}
use lib.Seq.{get_or-set_same}
use lib.Arith.{lt-one}
use lib.Pow.{pow-lt}
use lib.Dec.{T}
use Rattle.plan.specs.Meaning.{Edge, Graph, Leads, Walk, stay, hop, one_hop}
use Rattle.plan.proofs.Bools.{T?, or_cases, or_left, or_right}
use Rattle.plan.proofs.Walks.{its_in}
use Rattle.walk.specs.Walking.{bit, Inside, Neighbours, DistanceTable}
use Rattle.walk.specs.Front.{size, Visited}
use Rattle.walk.proofs.Sets.{bit_inside, bit_one, bit_or_lem, bit_and_not, and_not_lt, size_or, size_one, size_le, or_apart}
use Rattle.walk.proofs.Truths.{table_of}

-- A walk from s over the sets of neighbours.
pub data Trail (sets : List ℕ) (s : ℕ) : ℕ → ℕ → Type 0 where
  start : Trail sets s s zero
  onward : {u w k : ℕ} → Trail sets s u k → w < 64 → T (bit w (get_or sets u 0)) → Trail sets s w (suc k)

-- The queue's first `tail` places are used, and the nodes in its first `head` have had their turn.
pub record Bfs (sets : List ℕ) (s reached : ℕ) (counts queue : List ℕ) (tail head : ℕ) : Type 0 where
  pub source : T (bit s reached)
  pub begins : get_or counts s 0 ≡ 0
  pub sound : (w : ℕ) → T (bit w reached) → Trail sets s w (get_or counts w 0)
  pub queued : (w : ℕ) → T (bit w reached) → (i : ℕ) × (i < tail) × (get_or queue i 0 ≡ w)
  pub seen : (i : ℕ) → i < tail → T (bit (get_or queue i 0) reached)
  pub low : (i : ℕ) → i < tail → get_or counts (get_or queue i 0) 0 ≤ i
  pub rising : (i k : ℕ) → i ≤ k → k < tail → get_or counts (get_or queue i 0) 0 ≤ get_or counts (get_or queue k 0) 0
  pub near : head < tail → (w : ℕ) → T (bit w reached) → get_or counts w 0 ≤ suc (get_or counts (get_or queue head 0) 0)
  pub closed : (i w : ℕ) → i < head → w < 64 → T (bit w (get_or sets (get_or queue i 0) 0))
      → T (bit w reached) × (get_or counts w 0 ≤ suc (get_or counts (get_or queue i 0) 0))
  pub many : tail ≡ size reached
  pub fits : reached < 2 ^ 64

pub tail_le : {sets : List ℕ} {s reached : ℕ} {counts queue : List ℕ} {tail head : ℕ} → Bfs sets s reached counts queue tail head → tail ≤ 64
tail_le {reached = reached} b = omega (arith, b.many, size_le 64 reached)

-- the count of a node in the queue is small
pub count_in : {sets : List ℕ} {s reached : ℕ} {counts queue : List ℕ} {tail head : ℕ} → Bfs sets s reached counts queue tail head → head < tail
    → get_or counts (get_or queue head 0) 0 < 64
count_in {head = head} b room = omega (arith, b.low head room, tail_le b)

-- ---- where the walk begins

pub begin : (sets : List ℕ) (s reached : ℕ) (d : List ℕ) → s < 64 → length d ≡ 64 → reached ≡ 2 ^ s → Bfs sets s reached (set d s 0) (set (replicate 64 0) 0 s) 1 0
begin sets s reached d l room e = record {
  source = there;
  begins = none s refl;
  sound = λ w t. subst₂ (λ (x k : ℕ). Trail sets s x k) (sym (only w t)) (sym (none w (only w t))) start;
  queued = λ w t. (0, omega arith, sym (only w t));
  seen = λ i m. rw (lt-one m) there;
  low = λ i m. omega (arith, none _ (first i m));
  rising = λ i k a b. omega (arith, none _ (first i (omega arith)));
  near = λ _ w t. omega (arith, none w (only w t));
  closed = λ i w m l t. absurd (omega arith);
  many = omega (arith, ap size e, size_one 64 s l);
  fits = omega (arith, e, pow-lt l);
}
  where
    there : T (bit s reached)
    there = subst (λ (x : ℕ). T (bit s x)) (sym e) ((bit_one s s).1 refl)

    only : (w : ℕ) → T (bit w reached) → w ≡ s
    only w t = (bit_one w s).0 (subst (λ (x : ℕ). T (bit w x)) e t)

    first : (i : ℕ) → i < 1 → get_or (set (replicate 64 0) 0 s) i 0 ≡ s
    first i m = rw (lt-one m) refl

    none : (w : ℕ) → w ≡ s → get_or (set d s 0) w 0 ≡ 0
    none w q = rw q (get_or-set_same d s 0 0 (omega (arith, room)))

-- ---- one turn: the neighbours of the node at the head that are not reached yet are visited

module _ (sets : List ℕ) (s reached : ℕ) (counts queue : List ℕ) (tail head : ℕ)
    (b : Bfs sets s reached counts queue tail head) (room : head < tail) (node new : ℕ) (is-node : node ≡ get_or queue head 0)
    (is-new : new ≡ bit_and (get_or sets node 0) (2 ^ 64 - 1 - reached)) where
  small : new < 2 ^ 64
  small = subst (λ (x : ℕ). x < 2 ^ 64) (sym is-new) (and_not_lt (get_or sets node 0) reached)

  below : (w : ℕ) → T (bit w new) → w < 64
  below w t = bit_inside 64 w new small t

  split : (w : ℕ) → w < 64 → T (bit w new) ↔ (T (bit w (get_or sets node 0)) × (T (bit w reached) → ⊥))
  split w l = subst (λ (x : ℕ). T (bit w x) ↔ (T (bit w (get_or sets node 0)) × (T (bit w reached) → ⊥))) (sym is-new) (bit_and_not w (get_or sets node 0) reached l b.fits)

  from_node : (w : ℕ) → T (bit w new) → T (bit w (get_or sets node 0))
  from_node w t = ((split w (below w t)).0 t).0

  fresh : (w : ℕ) → T (bit w new) → T (bit w reached) → ⊥
  fresh w t = ((split w (below w t)).0 t).1

  keeps : (w : ℕ) → T (bit w reached) → T (bit w (bit_or reached new))
  keeps w t = subst (λ x. T x) (sym (bit_or_lem w reached new)) (or_left (bit w reached) (bit w new) t)

  gains : (w : ℕ) → T (bit w new) → T (bit w (bit_or reached new))
  gains w t = subst (λ x. T x) (sym (bit_or_lem w reached new)) (or_right (bit w reached) (bit w new) t)

  which : (w : ℕ) → T (bit w (bit_or reached new)) → T (bit w reached) ⊎ T (bit w new)
  which w t = or_cases (bit w reached) (bit w new) (subst (λ x. T x) (bit_or_lem w reached new) t)

  -- there is room in the queue
  room_for : tail + size new ≤ 64
  room_for = omega (arith, b.many, size_or 64 reached new (λ i t n. fresh i n t), size_le 64 (bit_or reached new))

  together : bit_or reached new ≡ reached + new
  together = or_apart reached new small (λ i t n. fresh i n t)

  module _ (count end : ℕ) (counts' queue' : List ℕ) (is_count : count ≡ suc (get_or counts node 0)) (v : Visited new count tail counts queue end counts' queue') where
    old_count : (w : ℕ) → T (bit w reached) → get_or counts' w 0 ≡ get_or counts w 0
    old_count w t = v.other w (λ n. fresh w n t)

    -- the count of the node at a place of the queue
    at_old : (i : ℕ) → i < tail → get_or counts' (get_or queue' i 0) 0 ≡ get_or counts (get_or queue i 0) 0
    at_old i l = ap (λ (x : ℕ). get_or counts' x 0) (v.kept i l) ∙ old_count (get_or queue i 0) (b.seen i l)

    at_new : (i : ℕ) → tail ≤ i → i < end → get_or counts' (get_or queue' i 0) 0 ≡ count
    at_new i l m = v.number (get_or queue' i 0) (v.only i l m)

    head_count : suc (get_or counts (get_or queue head 0) 0) ≡ count
    head_count = ap (λ (x : ℕ). suc (get_or counts x 0)) (sym is-node) ∙ sym is_count

    grows : tail ≤ end
    grows = omega (arith, v.ends)

    climbs : (i k : ℕ) → i ≤ k → k < end → get_or counts' (get_or queue' i 0) 0 ≤ get_or counts' (get_or queue' k 0) 0
    climbs i k l m = elim (dec_lt k tail) [
      | yes y ↦ omega (arith, at_old i (omega arith), at_old k y, b.rising i k l y)
      | no n ↦ elim (dec_lt i tail) [
        | yes y ↦ omega (arith, at_old i y, at_new k (omega arith) m, head_count, b.near room (get_or queue i 0) (b.seen i y))
        | no o ↦ omega (arith, at_new i (omega arith) (omega arith), at_new k (omega arith) m)
      ]
    ]

    -- no count is more than one above that of the head
    close : (w : ℕ) → T (bit w (bit_or reached new)) → get_or counts' w 0 ≤ suc (get_or counts' (get_or queue' head 0) 0)
    close w t = ⊎_elim
        (λ o. omega (arith, at_old head room, old_count w o, b.near room w o))
        (λ n. omega (arith, at_old head room, v.number w n, head_count))
        (which w t)

    beside : (w : ℕ) → w < 64 → T (bit w (get_or sets node 0)) → T (bit w (bit_or reached new))
    beside w l t = ⊎_elim (λ o. keeps w o) (λ n. gains w ((split w l).1 (t, n))) (T? (bit w reached))

    turn : Bfs sets s (bit_or reached new) counts' queue' end (head + 1)
    turn = record {
      source = keeps s b.source;
      begins = old_count s b.source ∙ b.begins;
      sound = λ w t. ⊎_elim
          (λ o. subst (λ (k : ℕ). Trail sets s w k) (sym (old_count w o)) (b.sound w o))
          (λ n. subst (λ (k : ℕ). Trail sets s w k) (sym is_count ∙ sym (v.number w n))
          (onward (subst (λ (x : ℕ). Trail sets s x (get_or counts x 0)) (sym is-node) (b.sound (get_or queue head 0) (b.seen head room))) (below w n) (from_node w n)))
          (which w t);
      queued = λ w t. ⊎_elim
          (λ o. let p = b.queued w o in (p.0, omega (arith, p.1, grows), v.kept p.0 p.1 ∙ p.2))
          (λ n. let p = v.place w n in (p.0, p.2, p.3))
          (which w t);
      seen = λ i l. elim (dec_lt i tail) [
        | yes y ↦ keeps (get_or queue' i 0) (subst (λ (x : ℕ). T (bit x reached)) (sym (v.kept i y)) (b.seen i y))
        | no n ↦ gains (get_or queue' i 0) (v.only i (omega arith) l)
      ];
      low = λ i l. elim (dec_lt i tail) [
        | yes y ↦ omega (arith, at_old i y, b.low i y)
        | no n ↦ omega (arith, at_new i (omega arith) l, head_count, b.low head room)
      ];
      rising = climbs;
      near = λ l w t. omega (arith, close w t, climbs head (head + 1) (omega arith) l);
      closed = λ i w l m t. elim (dec_lt i head) [
        | yes y ↦
            let f = b.closed i w y m (subst (λ (x : ℕ). T (bit w (get_or sets x 0))) (v.kept i (omega arith)) t) in
            (keeps w f.0, omega (arith, old_count w f.0, at_old i (omega arith), f.1))
        | no n ↦
            let e : i ≡ head = omega arith in
            let f = beside w m (subst (λ (x : ℕ). T (bit w (get_or sets x 0))) (ap (λ (x : ℕ). get_or queue' x 0) e ∙ v.kept head room ∙ sym is-node) t) in
            (f, omega (arith, close w f, ap (λ (x : ℕ). get_or counts' (get_or queue' x 0) 0) e))
      ];
      many = omega (arith, v.ends, b.many, size_or 64 reached new (λ i t n. fresh i n t));
      fits = or_lt 64 reached new b.fits small;
    }

-- ---- the same by the nodes that are left: the new ones are among them, and are taken away

module _ (sets : List ℕ) (s left : ℕ) (counts queue : List ℕ) (tail head : ℕ) (small : left < 2 ^ 64)
    (b : Bfs sets s (2 ^ 64 - 1 - left) counts queue tail head) (room : head < tail) where
  abbrev beside_head : ℕ
  beside_head = get_or sets (get_or queue head 0) 0

  is_left : bit_and beside_head left ≡ bit_and beside_head (2 ^ 64 - 1 - (2 ^ 64 - 1 - left))
  is_left = ap (λ (x : ℕ). bit_and beside_head x) (omega arith)

  pub left_part : bit_and beside_head left ≤ left
  left_part = and_le_r beside_head left

  pub left_room : tail + size (bit_and beside_head left) ≤ 64
  left_room = room_for sets s (2 ^ 64 - 1 - left) counts queue tail head b room (get_or queue head 0) (bit_and beside_head left) refl is_left

  taken_away : bit_or (2 ^ 64 - 1 - left) (bit_and beside_head left) ≡ 2 ^ 64 - 1 - (left - bit_and beside_head left)
  taken_away = together sets s (2 ^ 64 - 1 - left) counts queue tail head b room (get_or queue head 0) (bit_and beside_head left) refl is_left ∙ omega (arith, left_part)

  pub left_turn : (count end : ℕ) (counts' queue' : List ℕ) → count ≡ suc (get_or counts (get_or queue head 0) 0) → Visited (bit_and beside_head left) count tail counts queue end counts' queue'
      → Bfs sets s (2 ^ 64 - 1 - (left - bit_and beside_head left)) counts' queue' end (head + 1)
  left_turn count end counts' queue' e v =
      subst (λ (x : ℕ). Bfs sets s x counts' queue' end (head + 1)) taken_away
      (turn sets s (2 ^ 64 - 1 - left) counts queue tail head b room (get_or queue head 0) (bit_and beside_head left) refl is_left count end counts' queue' e v)

-- ---- once the queue is used up

module _ (sets : List ℕ) (s : ℕ) (below : s < 64) (es : List Edge) (g : Graph) (inside : Inside es) (n : Neighbours es g sets) where
  node_lt : {w k : ℕ} → Trail sets s w k → w < 64
  node_lt start = below
  node_lt (onward t l m) = l

  walked : {w k : ℕ} → Trail sets s w k → Walk one_hop es g s w k
  walked start = stay
  walked (onward {u = u} {w = w} {k = k} t l m) = hop {k = suc k} (walked t) ((n.exact u w (node_lt t) l).0 m) (omega arith)

  ends_lt : {u w : ℕ} → Leads es g u w → (u < 64) × (w < 64)
  ends_lt d =
      let f = inside _ (its_in d) in
      (subst (λ (x : ℕ). x < 64) d.starts f.0, subst (λ (x : ℕ). x < 64) d.ends f.1)

  module _ (reached : ℕ) (counts queue : List ℕ) (tail : ℕ) (b : Bfs sets s reached counts queue tail tail) where
    reach : {w k : ℕ} → Walk one_hop es g s w k → T (bit w reached) × (get_or counts w 0 ≤ k)
    reach stay = (b.source, omega (arith, b.begins))
    reach (hop {u = u} {w = w} {j = j} {k = k} r d e) =
        let o = reach r in
        let p = b.queued u o.0 in
        let l = ends_lt d in
        let c = b.closed p.0 w p.1 l.1 (subst (λ (x : ℕ). T (bit w (get_or sets x 0))) (sym p.2) ((n.exact u w l.0 l.1).1 d)) in
        (c.0, omega (arith, e, c.1, o.1, ap (λ (x : ℕ). get_or counts x 0) p.2))

    pub table : DistanceTable one_hop es g s (record { far = counts; reached = reached })
    table = table_of _ (λ w t. walked (b.sound w t)) (λ w k r. reach r)
