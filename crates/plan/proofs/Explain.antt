-- Reasons as antt computes them: every atom has one.
-- Assumes nothing.
use mathlib.Core.Path.{◌≡◌, refl, sym, subst, subst₂}
use mathlib.Core.Logic.{◌⊎◌, inl, inr, ◌↔◌}
use mathlib.Core.Bool.{Bool, true, false, not, cond, ◌&&◌}
use mathlib.Core.List.Memᴰ
use mathlib.Core.List.{List, [], ◌∷◌, map, Memᴰ}
use mathlib.Core.Option.{Option, none, some}
use Prim.Native.Nat.{ℕ, zero, suc, ◌+◌, ◌-◌, ◌≤◌, ◌<◌}
use native.Mathlib.Omega.{arith}
use lib.ListN.{length, get_or}
use lib.IntN.{ℤ}
use lib.Dec.{T, T_not, not_T, eqb, eqb→eq, eqb_refl, ltb, ltb→lt, lt→ltb, leb, leb→le, le→leb}
use Rattle.plan.specs.Meaning.{Edge, Atom, PlanFile, Graph, no_edge, edge, Cost, Walk, stay, hop, Distance, measure_of, cost_of, Allows, IsTrue, on, off, true_in, under, over}
use Rattle.plan.specs.Closing.{Settles}
use Rattle.plan.specs.declared.Kind.{Kind}
use Rattle.plan.specs.declared.Kind.TheVariants.{Reaches, Within, LengthAtMost}
use Rattle.plan.specs.Ranged.{Ranged}
use Rattle.plan.specs.Reason.{Smallest, Nearer, Back, source, step, Rising, end, more, Listed, LeavesAt, EndsBeyond, Across, Reason, holds, fails, neither, Cut, HoldsBy, FailsBy, ReasonIs}
use Rattle.plan.proofs.Bools.{any_of, those, and_both, and_left, and_right, any_some, some_any}
use Rattle.plan.proofs.Lists.{le_or_lt, mem_at}
use Rattle.plan.proofs.Walks.{Pays, Long, pays_by}
use Rattle.plan.proofs.Levels.{reached, last_level, sound, keeps, complete, seen, is_true?}
use Rattle.plan.proofs.Closing.{edges_long, settles?, settles_iff}
use Rattle.plan.proofs.Exists.{those_in, those_out}
use Rattle.plan.proofs.Reason.{asked, beyond_iff, cut_of, path_in, cut_in}

-- the numbers above b, k of them
abbrev pub up_from : ℕ → ℕ → List ℕ
up_from b zero = []
up_from b (suc k) = suc b ∷ up_from (suc b) k

up_rising : (b k : ℕ) → Rising b (up_from b k)
up_rising b zero = end
up_rising b (suc k) = more {b = b} {v = suc b} (omega arith) (up_rising (suc b) k)

up_in : (b k v : ℕ) → b < v → v ≤ b + k → Memᴰ v (up_from b k)
up_in b zero v p q = absurd (omega arith)
up_in b (suc k) v p q = go (le_or_lt v (suc b)) (up_in (suc b) k v)
  where
    go : (v ≤ suc b) ⊎ (suc b < v) → (suc b < v → v ≤ suc b + k → Memᴰ v (up_from (suc b) k)) → Memᴰ v (suc b ∷ up_from (suc b) k)
    go (inl h) r = Memᴰ.head {x = suc b} (omega arith)
    go (inr h) r = Memᴰ.tail (r h (omega arith))

weaker : {b c : ℕ} {xs : List ℕ} → b ≤ c → Rising c xs → Rising b xs
weaker h end = end
weaker {b} h (more {v = v} k r) = more {b = b} {v = v} (omega arith) r

those_rising : (f : ℕ → Bool) {b : ℕ} {xs : List ℕ} → Rising b xs → Rising b (those f xs)
those_rising f end = end
those_rising f {b} (more {v = v} {vs = vs} k r) = go (f v) (those_rising f r)
  where
    go : (t : Bool) → Rising v (those f vs) → Rising b (cond t (v ∷ those f vs) (those f vs))
    go true s = more k s
    go false s = weaker (omega arith) s

listed_of : (f : ℕ → Bool) (P : ℕ → Type 0) (n : ℕ) → ((v : ℕ) → T (f v) → P v) → ((v : ℕ) → P v → (zero < v) × (v ≤ n) × T (f v)) → Listed P (those f (up_from 0 n))
listed_of f P n h k = record {
  rising = those_rising f (up_rising 0 n);
  exact = λ v. ((λ m. h v (those_out f (up_from 0 n) v m).1), (λ p. let q = k v p in those_in f (up_from 0 n) v (up_in 0 n v q.0 (omega (arith, q.1))) q.2));
}

-- the smallest number below n that passes
abbrev pub or_else : Option ℕ → Option ℕ → Option ℕ
or_else none r = r
or_else (some k) r = some k

abbrev pub first_below : ℕ → (ℕ → Bool) → Option ℕ
first_below zero f = none
first_below (suc n) f = or_else (first_below n f) (cond (f n) (some n) none)

data Found (P : ℕ → Type 0) (n : ℕ) : Option ℕ → Type 0 where
  no_such : ((j : ℕ) → j < n → P j → ⊥) → Found P n none
  such : {k : ℕ} → k < n → Smallest P k → Found P n (some k)

found_view : (P : ℕ → Type 0) (f : ℕ → Bool) → ((j : ℕ) → T (f j) ↔ P j) → (n : ℕ) → Found P n (first_below n f)
found_view P f e zero = no_such (λ j h p. omega arith)
found_view P f e (suc n) = go (found_view P f e n)
  where
    last : (b : Bool) → (T b ↔ P n) → ((j : ℕ) → j < n → P j → ⊥) → Found P (suc n) (cond b (some n) none)
    last true q h = such {k = n} (omega arith) (record { is = q.0 tt; least = h })
    last false q h = no_such (λ j l p. pick j l p (le_or_lt n j))
      where
        pick : (j : ℕ) → j < suc n → P j → (n ≤ j) ⊎ (j < n) → ⊥
        pick j l p (inl m) = q.1 (subst P (omega arith) p)
        pick j l p (inr m) = h j m p

    go : {o : Option ℕ} → Found P n o → Found P (suc n) (or_else o (cond (f n) (some n) none))
    go (no_such h) = last (f n) (e n) h
    go (such {k = k} l s) = such {k = k} (omega arith) s

abbrev pub or_zero : Option ℕ → ℕ
or_zero none = zero
or_zero (some k) = k

abbrev pub some? : Option ℕ → Bool
some? none = false
some? (some k) = true

-- distances and a path read back, computed
module _ (c : Cost) (n : ℕ) (es : List Edge) (f : Graph) (s : ℕ) where
  -- w is k from s: it is in level k, and in none before
  abbrev pub distance? : ℕ → ℕ → Bool
  distance? zero w = get_or (reached c n es f s zero) w false
  distance? (suc k) w = get_or (reached c n es f s (suc k)) w false && not (get_or (reached c n es f s k) w false)

  abbrev pub back_test : ℕ → ℕ → ℕ → Bool
  back_test k w j = ltb j (length es) && (f (edge es j) && (eqb (edge es j).to w && (leb (c (edge es j)) k && distance? (k - c (edge es j)) (edge es j).from)))

  abbrev pub back_over : (Edge → List ℕ) → Option ℕ → List ℕ
  back_over r none = []
  back_over r (some j) = (edge es j).variable ∷ r (edge es j)

  -- the path to w, which is k from s; so many edges at the most are read
  abbrev pub read_back : ℕ → ℕ → ℕ → List ℕ
  read_back zero k w = []
  read_back (suc i) k w = back_over (λ e. read_back i (k - c e) e.from) (first_below (length es) (back_test k w))

-- a cheapest walk that costs something has a last edge, with which it ends
pub last_nearer : {c : Cost} {es : List Edge} {g : Graph} {s w k : ℕ} → Walk c es g s w k → ((m : ℕ) → Walk c es g s w m → k ≤ m) → (s ≡ w × (k ≡ zero)) ⊎ ((j : ℕ) × Nearer c es g s w k j)
last_nearer stay h = inl (refl, refl)
last_nearer {c} {es} {g} {s} {w} {k} (hop {u = u} {j = j} r d e) h = inr (
  d.number,
  record {
    listed = d.listed;
    present = d.present;
    ends = d.ends;
    before = j;
    near = record {
      walk = subst (λ x. Walk c es g s x j) (sym d.starts) r;
      fewest = λ m v. omega (arith, e, h (m + c (edge es d.number)) (hop v (record { number = d.number; listed = d.listed; present = d.present; starts = refl; ends = d.ends }) refl));
    };
    sum = e;
  },
)

module _ (c : Cost) (n : ℕ) (es : List Edge) (f : Graph) (s : ℕ) (pays : Pays c es) (inside : (e : Edge) → Memᴰ e es → e.to < n) (start : s < n) where
  -- what is not in a level is further
  further : (k w : ℕ) → (T (get_or (reached c n es f s k) w false) → ⊥) → (j : ℕ) → Walk c es f s w j → k < j
  further k w h j r = go (le_or_lt j k)
    where
      go : (j ≤ k) ⊎ (k < j) → k < j
      go (inl q) = absurd (h (keeps c n es f s j k q w (complete c n es f s inside start pays w j r)))
      go (inr q) = q

  distance_iff : (k w : ℕ) → T (distance? c n es f s k w) ↔ Distance c es f s w k
  distance_iff zero w = (
    (λ t. let q = sound c n es f s pays zero w t in record { walk = subst (λ j. Walk c es f s w j) (omega (arith, q.1)) q.2; fewest = λ j r. omega arith }),
    (λ h. complete c n es f s inside start pays w zero h.walk),
  )
  distance_iff (suc k) w = (there, back)
    where
      there : T (distance? c n es f s (suc k) w) → Distance c es f s w (suc k)
      there t =
          let far : T (get_or (reached c n es f s k) w false) → ⊥ = λ u. T_not (get_or (reached c n es f s k) w false) (and_right (get_or (reached c n es f s (suc k)) w false) _ t) u in
          let q = sound c n es f s pays (suc k) w (and_left (get_or (reached c n es f s (suc k)) w false) _ t) in
          let beyond = further k w far q.0 q.2 in
          record { walk = subst (λ j. Walk c es f s w j) (omega (arith, q.1, beyond)) q.2; fewest = λ j r. further k w far j r }

      back : Distance c es f s w (suc k) → T (distance? c n es f s (suc k) w)
      back h = and_both (get_or (reached c n es f s (suc k)) w false) _ (complete c n es f s inside start pays w (suc k) h.walk)
          (not_T (get_or (reached c n es f s k) w false) (λ t. let q = sound c n es f s pays k w t in omega (arith, q.1, h.fewest q.0 q.2)))

  step_iff : (k w j : ℕ) → T (back_test c n es f s k w j) ↔ Nearer c es f s w k j
  step_iff k w j = (there, back)
    where
      e : Edge
      e = edge es j

      there : T (back_test c n es f s k w j) → Nearer c es f s w k j
      there t =
          let u = and_right (ltb j (length es)) _ t in
          let v = and_right (f e) _ u in
          let x = and_right (eqb e.to w) _ v in
          record {
            listed = ltb→lt j (length es) (and_left (ltb j (length es)) _ t);
            present = and_left (f e) _ u;
            ends = eqb→eq e.to w (and_left (eqb e.to w) _ v);
            before = k - c e;
            near = (distance_iff (k - c e) e.from).0 (and_right (leb (c e) k) _ x);
            sum = omega (arith, leb→le (c e) k (and_left (leb (c e) k) _ x));
          }

      back : Nearer c es f s w k j → T (back_test c n es f s k w j)
      back q =
          and_both (ltb j (length es)) _ (lt→ltb j (length es) q.listed)
          (and_both (f e) _ q.present
          (and_both (eqb e.to w) _ (subst (λ x. T (eqb e.to x)) q.ends (eqb_refl e.to))
          (and_both (leb (c e) k) _ (le→leb (c e) k (omega (arith, q.sum)))
          ((distance_iff (k - c e) e.from).1 (subst (λ i. Distance c es f s e.from i) (omega (arith, q.sum)) q.near)))))

  -- where no edge comes from nearer, the path is at its source
  at_source : (k w : ℕ) → Distance c es f s w k → ((j : ℕ) → Nearer c es f s w k j → ⊥) → Back c es f s w k []
  at_source k w h n = go (last_nearer h.walk h.fewest)
    where
      go : (s ≡ w × (k ≡ zero)) ⊎ ((j : ℕ) × Nearer c es f s w k j) → Back c es f s w k []
      go (inl e) = subst₂ (λ x y. Back c es f s x y []) e.0 (sym e.1) source
      go (inr q) = absurd (n q.0 q.1)

  -- as many edges as the distance are enough, since each costs something
  back_is : (i k w : ℕ) → k ≤ i → Distance c es f s w k → Back c es f s w k (read_back c n es f s i k w)
  back_is zero k w l h = at_source k w h (λ j q. omega (arith, q.sum, pays (edge es j) (mem_at es _ j q.listed)))
  back_is (suc i) k w l h = go (back_is i) (found_view (Nearer c es f s w k) (back_test c n es f s k w) (step_iff k w) (length es))
    where
      go : ((m v : ℕ) → m ≤ i → Distance c es f s v m → Back c es f s v m (read_back c n es f s i m v))
          → {o : Option ℕ} → Found (Nearer c es f s w k) (length es) o → Back c es f s w k (back_over c n es f s (λ e. read_back c n es f s i (k - c e) e.from) o)
      go r (no_such none-fits) = at_source k w h (λ j q. none-fits j q.listed q)
      go r (such {k = j} x first) =
          let e = edge es j in
          let p : first.is.before ≡ k - c e = omega (arith, first.is.sum) in
          step first (subst (λ m. Back c es f s e.from m (read_back c n es f s i (k - c e) e.from)) (sym p)
          (r (k - c e) e.from (omega (arith, pays e (mem_at es _ j first.is.listed))) (subst (λ m. Distance c es f s e.from m) p first.is.near)))

-- the kinds: whether an edge that leads across may start so far away
abbrev pub leaves? : Kind → ℕ → ℕ → Bool
leaves? Reaches d k = true
leaves? Within d k = ltb k d
leaves? LengthAtMost d k = ltb k d

leaves_iff : (kind : Kind) (d k : ℕ) → T (leaves? kind d k) ↔ LeavesAt kind d k
leaves_iff Reaches d k = ((λ t. t), (λ t. t))
leaves_iff Within d k = (ltb→lt k d, lt→ltb k d)
leaves_iff LengthAtMost d k = (ltb→lt k d, lt→ltb k d)

leaves_allows : (kind : Kind) (d k : ℕ) → LeavesAt kind d k → Allows kind d k
leaves_allows Reaches d k h = tt
leaves_allows Within d k h = omega arith
leaves_allows LengthAtMost d k h = omega arith

-- the target's distance and the cut, computed over the distances up to the last level
module _ (n : ℕ) (es : List Edge) (f : Graph) (s : ℕ) (kind : Kind) (d : ℕ) where
  abbrev pub first_far : (ℕ → Bool) → Option ℕ
  first_far test = first_below (suc (last_level n kind d)) test

  abbrev pub distance_to : ℕ → ℕ
  distance_to w = or_zero (first_far (λ k. distance? (cost_of kind) n es f s k w))

  abbrev pub cut_at? : Edge → ℕ → Bool
  cut_at? e k = distance? (cost_of kind) n es f s k e.from && (leaves? kind d k && not (is_true? n es f (asked kind s (k + cost_of kind e) e.to)))

  abbrev pub cut? : Edge → Bool
  cut? e = some? (first_far (cut_at? e))

  module _ (long : Long es) (inside : (e : Edge) → Memᴰ e es → e.to < n) (start : s < n) where
    pays : Pays (cost_of kind) es
    pays = pays_by (measure_of kind) es long

    near_iff : (k w : ℕ) → T (distance? (cost_of kind) n es f s k w) ↔ Distance (cost_of kind) es f s w k
    near_iff = distance_iff (cost_of kind) n es f s pays inside start

    -- what is allowed lies there
    by_last : (k w : ℕ) → Distance (cost_of kind) es f s w k → Allows kind d k → k < suc (last_level n kind d)
    by_last k w h l =
        let q = sound (cost_of kind) n es f s pays (last_level n kind d) w (seen n es f s inside start long kind d k w h.walk l) in
        omega (arith, q.1, h.fewest q.0 q.2)

    distance_to_is : (k w : ℕ) → Distance (cost_of kind) es f s w k → Allows kind d k → Distance (cost_of kind) es f s w (distance_to w)
    distance_to_is k w h l = go (found_view (λ k. Distance (cost_of kind) es f s w k) (λ k. distance? (cost_of kind) n es f s k w) (λ k. near_iff k w) (suc (last_level n kind d)))
      where
        go : {o : Option ℕ} → Found (λ k. Distance (cost_of kind) es f s w k) (suc (last_level n kind d)) o → Distance (cost_of kind) es f s w (or_zero o)
        go (no_such none-fits) = absurd (none-fits k (by_last k w h l) h)
        go (such x first) = first.is

    -- the edge leads across, and starts at k
    abbrev AcrossAt : Edge → ℕ → Type 0
    AcrossAt e k = Distance (cost_of kind) es f s e.from k × LeavesAt kind d k × ((j : ℕ) → Distance (cost_of kind) es f s e.to j → EndsBeyond kind (k + cost_of kind e) j)

    cut_at_iff : (e : Edge) (k : ℕ) → T (cut_at? e k) ↔ AcrossAt e k
    cut_at_iff e k = (
      (λ t.
          let u = and_right (distance? (cost_of kind) n es f s k e.from) _ t in (
            (near_iff k e.from).0 (and_left (distance? (cost_of kind) n es f s k e.from) _ t),
            (leaves_iff kind d k).0 (and_left (leaves? kind d k) _ u),
            beyond.0 (T_not ends (and_right (leaves? kind d k) _ u)),
          )),
      (λ q.
          and_both (distance? (cost_of kind) n es f s k e.from) _ ((near_iff k e.from).1 q.0)
          (and_both (leaves? kind d k) _ ((leaves_iff kind d k).1 q.1) (not_T ends (beyond.1 q.2)))),
    )
      where
        ends : Bool
        ends = is_true? n es f (asked kind s (k + cost_of kind e) e.to)

        beyond : (T ends → ⊥) ↔ ((j : ℕ) → Distance (cost_of kind) es f s e.to j → EndsBeyond kind (k + cost_of kind e) j)
        beyond = beyond_iff n es f s long inside start kind (k + cost_of kind e) e.to

    cut_iff : (e : Edge) → T (cut? e) ↔ Across kind es f d s e
    cut_iff e = go (found_view (AcrossAt e) (cut_at? e) (cut_at_iff e) (suc (last_level n kind d)))
      where
        go : {o : Option ℕ} → Found (AcrossAt e) (suc (last_level n kind d)) o → T (some? o) ↔ Across kind es f d s e
        go (no_such none-fits) = ((λ t. absurd t), (λ q. none-fits q.0 (by_last q.0 e.from q.1 (leaves_allows kind d q.0 q.2)) (q.1, q.2, q.3)))
        go (such {k = k} l first) = ((λ t. (k, first.is.0, first.is.1, first.is.2)), (λ q. tt))

-- the reason of an atom
module _ (φ : PlanFile) (a : List ℤ) (A : Atom) where
  abbrev pub far : ℕ
  far = distance_to φ.nodes φ.edges (under (true_in a)) A.from A.kind A.bound A.to

  abbrev pub path : List ℕ
  path = read_back (cost_of A.kind) φ.nodes φ.edges (under (true_in a)) A.from far far A.to

  abbrev pub cut_edge? : Edge → Bool
  cut_edge? e = true_in a (off e.variable) && cut? φ.nodes φ.edges (over (true_in a)) A.from A.kind A.bound e

  -- the variables that pass, rising
  abbrev pub rising : (ℕ → Bool) → List ℕ
  rising test = those test (up_from 0 φ.variables)

  abbrev pub on_path : List ℕ → List ℕ
  on_path vs = rising (λ v. any_of (λ u. eqb v u) vs)

  abbrev pub of_edges : (Edge → Bool) → List ℕ
  of_edges test = rising (λ v. any_of (λ e. eqb e.variable v && test e) φ.edges)

  abbrev pub reason_by : Bool → Bool → Reason
  reason_by true t = holds (on A.variable ∷ map off (on_path path))
  reason_by false true = fails (off A.variable ∷ map on (of_edges cut_edge?))
  reason_by false false = neither

  unfoldable pub reason : Reason
  reason = reason_by (settles? φ (true_in a) A true) (settles? φ (true_in a) A false)

  module _ (ok : Ranged φ) (start : A.from < φ.nodes) where
    inside : (e : Edge) → Memᴰ e φ.edges → e.to < φ.nodes
    inside e i = (ok.edge e i).to_in

    holds_by : IsTrue φ.edges (under (true_in a)) A → HoldsBy φ a A (on A.variable ∷ map off (on_path path))
    holds_by h =
        let near = distance_to_is φ.nodes φ.edges (under (true_in a)) A.from A.kind A.bound (edges_long φ ok) inside start h.0 A.to h.1 h.2 in
        let read = back_is (cost_of A.kind) φ.nodes φ.edges (under (true_in a)) A.from (pays_by (measure_of A.kind) φ.edges (edges_long φ ok)) inside start far far A.to (omega arith) near in
        record {
          truth = h;
          count = far;
          path = path;
          nearest = near;
          read = read;
          premises = on_path path;
          listed = listed_of (λ v. any_of (λ u. eqb v u) path) (λ v. Memᴰ v path) φ.variables
              (λ v t. let q = any_some (λ u. eqb v u) path t in Memᴰ.cast (eqb→eq v q.0 q.2) q.1)
              (λ v m. let q = path_in φ ok read v m in (q.0, q.1, some_any (λ u. eqb v u) path v m (eqb_refl v)));
          clause = refl;
        }

    fails_by : (IsTrue φ.edges (over (true_in a)) A → ⊥) → FailsBy φ a A (off A.variable ∷ map on (of_edges cut_edge?))
    fails_by h = record {
      falsity = h;
      premises = of_edges cut_edge?;
      listed = listed_of (λ v. any_of (test v) φ.edges) (Cut φ a A) φ.variables there back;
      clause = refl;
    }
      where
        test : ℕ → Edge → Bool
        test v e = eqb e.variable v && cut_edge? e

        across : (e : Edge) → T (cut? φ.nodes φ.edges (over (true_in a)) A.from A.kind A.bound e) ↔ Across A.kind φ.edges (over (true_in a)) A.bound A.from e
        across = cut_iff φ.nodes φ.edges (over (true_in a)) A.from A.kind A.bound (edges_long φ ok) inside start

        there : (v : ℕ) → T (any_of (test v) φ.edges) → Cut φ a A v
        there v t =
            let q = any_some (test v) φ.edges t in
            let e = q.0 in
            let u = and_right (eqb e.variable v) _ q.2 in
            subst (λ z. Cut φ a A z) (eqb→eq e.variable v (and_left (eqb e.variable v) _ q.2))
            (cut_of φ a A e q.1 (and_left (true_in a (off e.variable)) _ u) ((across e).0 (and_right (true_in a (off e.variable)) _ u)))

        back : (v : ℕ) → Cut φ a A v → (zero < v) × (v ≤ φ.variables) × T (any_of (test v) φ.edges)
        back v c =
            let e = edge φ.edges c.number in
            let r = cut_in φ ok a A v c in (
              r.0,
              r.1,
              some_any (test v) φ.edges e (mem_at φ.edges no_edge c.number c.listed)
                  (and_both (eqb e.variable v) _ (subst (λ z. T (eqb e.variable z)) c.its (eqb_refl e.variable))
                  (and_both (true_in a (off e.variable)) _ (subst (λ z. T (true_in a (off z))) (sym c.its) c.is_off) ((across e).1 c.across))),
            )

    reason_by_is : (x y : Bool) → (T x ↔ Settles φ (true_in a) A true) → (T y ↔ Settles φ (true_in a) A false) → ReasonIs φ a A (reason_by x y)
    reason_by_is true y p q = holds_by (p.0 tt)
    reason_by_is false true p q = fails_by (q.0 tt)
    reason_by_is false false p q = none
      where
        none : (b : Bool) → Settles φ (true_in a) A b → ⊥
        none true = p.1
        none false = q.1

    -- every atom has a reason, or is open
    pub reason_is : ReasonIs φ a A reason
    unfolding reason
    reason_is = reason_by_is (settles? φ (true_in a) A true) (settles? φ (true_in a) A false) (settles_iff φ ok (true_in a) A start true) (settles_iff φ ok (true_in a) A start false)
