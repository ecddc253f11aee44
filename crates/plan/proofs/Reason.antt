-- A reason is one clause; its premises alone decide the atom; so it is true wherever the atom's variable equals its truth.
-- Assumes nothing.
use mathlib.Core.Path.{◌≡◌, refl, sym, subst, subst₂, ◌∙◌, ap, ap₂}
use mathlib.Core.Logic.{◌⊎◌, inl, inr, ◌↔◌}
use mathlib.Core.Bool.{Bool, true, false, not}
use mathlib.Core.List.Memᴰ
use mathlib.Core.List.{List, [], ◌∷◌, map, Memᴰ}
use Prim.Native.Nat.{ℕ, zero, ◌+◌, ◌≤◌, ◌<◌}
use native.Mathlib.Omega.{arith}
use lib.ListN.{length}
use lib.IntN.{ℤ, neg_ℤ, neg_ℤ-neg_ℤ, nat_abs}
use lib.Dec.{T, T_not, not_T}
use Rattle.plan.specs.Meaning.{Edge, Atom, PlanFile, Graph, no_edge, edge, Cost, Walk, stay, hop, Distance, measure_of, cost_of, Allows, IsTrue, on, off, literal_of, true_in, under, over, Full, HasTrue, IsRight}
use Rattle.plan.specs.declared.Kind.{Kind}
use Rattle.plan.specs.declared.Kind.TheVariants.{Reaches, Within, LengthAtMost}
use Rattle.plan.specs.Ranged.{LiteralFits, LiteralsFit, Ranged}
use Rattle.plan.specs.Reason.{Smallest, Nearer, Back, source, step, Rising, end, more, Listed, LeavesAt, EndsBeyond, Across, Reason, holds, fails, neither, Cut, HoldsBy, FailsBy, ReasonIs, Decides}
use Rattle.plan.proofs.Bools.{T?, any_or_none}
use Rattle.plan.proofs.Lists.{le_or_lt, mem_at, at_mem}
use Rattle.plan.proofs.Walks.{its_in, Pays, Long, pays_by, hop_by, true_mono, distance_of, distance_unique, allows_less, true_led}
use Rattle.plan.proofs.Levels.{is_true?, true_iff}
use Rattle.plan.proofs.Closing.{edges_long, on_over, one_of, settled_true}
use Rattle.plan.proofs.Exists.{literal_size}

-- each part is one
pub smallest_one : {P : ℕ → Type 0} {j k : ℕ} → Smallest P j → Smallest P k → j ≡ k
smallest_one {P} {j} {k} x y = go (le_or_lt k j) (le_or_lt j k)
  where
    go : (k ≤ j) ⊎ (j < k) → (j ≤ k) ⊎ (k < j) → j ≡ k
    go (inl a) (inl b) = omega arith
    go (inl a) (inr b) = absurd (x.least k b y.is)
    go (inr a) b = absurd (y.least j a x.is)

back_one : (c : Cost) (es : List Edge) (g : Graph) (s : ℕ) → Pays c es → {w w' k k' : ℕ} {vs vs' : List ℕ} → w ≡ w' → k ≡ k' → Back c es g s w k vs → Back c es g s w' k' vs' → vs ≡ vs'
back_one c es g s pays e d source source = refl
back_one c es g s pays e d source (step {j = j} f b) = absurd (omega (arith, f.is.sum, pays (edge es j) (mem_at es _ j f.is.listed)))
back_one c es g s pays e d (step {j = j} f b) source = absurd (omega (arith, f.is.sum, pays (edge es j) (mem_at es _ j f.is.listed)))
back_one c es g s pays e d (step {j = j} f b) (step {j = j'} f' b') =
    let q = smallest_one f (subst₂ (λ u i. Smallest (Nearer c es g s u i) j') (sym e) (sym d) f') in
    let same = distance_unique (subst (λ z. Distance c es g s (edge es z).from f.is.before) q f.is.near) f'.is.near in
    ap₂ (λ v vs. v ∷ vs) (ap (λ z. (edge es z).variable) q) (back_one c es g s pays (ap (λ z. (edge es z).from) q) same b b')

rising_above : {b : ℕ} {vs : List ℕ} → Rising b vs → (v : ℕ) → Memᴰ v vs → b < v
rising_above end v m = absurd (Memᴰ.not-nil m)
rising_above {b} (more {v = x} {vs = xs} h r) v m = go (rising_above r v) (Memᴰ.cases_cons m)
  where
    go : (Memᴰ v xs → x < v) → (v ≡ x) ⊎ Memᴰ v xs → b < v
    go f (inl e) = omega arith
    go f (inr k) = omega (arith, f k)

rising_one : {b c : ℕ} {xs ys : List ℕ} → Rising b xs → Rising c ys → ((v : ℕ) → Memᴰ v xs ↔ Memᴰ v ys) → xs ≡ ys
rising_one end end h = refl
rising_one end (more {v = y} k s) h = absurd (Memᴰ.not-nil ((h y).1 (Memᴰ.head refl)))
rising_one (more {v = x} k r) end h = absurd (Memᴰ.not-nil ((h x).0 (Memᴰ.head refl)))
rising_one (more {v = x} {vs = xs} k r) (more {v = y} {vs = ys} l s) h = ap₂ (λ v vs. v ∷ vs) same (rising_one r s (λ v. (left v, right v)))
  where
    pick : (x ≡ y) ⊎ Memᴰ x ys → (y ≡ x) ⊎ Memᴰ y xs → x ≡ y
    pick (inl e) q = e
    pick (inr m) (inl e) = sym e
    pick (inr m) (inr n) = absurd (omega (arith, rising_above s x m, rising_above r y n))

    same : x ≡ y
    same = pick (Memᴰ.cases_cons ((h x).0 (Memᴰ.head refl))) (Memᴰ.cases_cons ((h y).1 (Memᴰ.head refl)))

    left : (v : ℕ) → Memᴰ v xs → Memᴰ v ys
    left v m = go (Memᴰ.cases_cons ((h v).0 (Memᴰ.tail m)))
      where
        go : (v ≡ y) ⊎ Memᴰ v ys → Memᴰ v ys
        go (inl e) = absurd (omega (arith, rising_above r v m, same))
        go (inr n) = n

    right : (v : ℕ) → Memᴰ v ys → Memᴰ v xs
    right v m = go (Memᴰ.cases_cons ((h v).1 (Memᴰ.tail m)))
      where
        go : (v ≡ x) ⊎ Memᴰ v xs → Memᴰ v xs
        go (inl e) = absurd (omega (arith, rising_above s v m, same))
        go (inr n) = n

listed_one : (P Q : ℕ → Type 0) (xs ys : List ℕ) → ((v : ℕ) → P v ↔ Q v) → Listed P xs → Listed Q ys → xs ≡ ys
listed_one P Q xs ys e x y = rising_one x.rising y.rising (λ v. ((λ m. (y.exact v).1 ((e v).0 ((x.exact v).0 m))), (λ m. (x.exact v).1 ((e v).1 ((y.exact v).0 m)))))

module _ (φ : PlanFile) (ok : Ranged φ) (a : List ℤ) (A : Atom) where
  under_over : IsTrue φ.edges (under (true_in a)) A → IsTrue φ.edges (over (true_in a)) A
  under_over h = true_mono φ.edges (edges_long φ ok) (under (true_in a)) (over (true_in a)) A (λ e i t. on_over a e.variable t) h

  holds_one : (r r' : List ℤ) → HoldsBy φ a A r → HoldsBy φ a A r' → r ≡ r'
  holds_one r r' x y = x.clause ∙ ap (λ vs. on A.variable ∷ map off vs) same ∙ sym y.clause
    where
      paths : x.path ≡ y.path
      paths =
          back_one (cost_of A.kind) φ.edges (under (true_in a)) A.from (pays_by (measure_of A.kind) φ.edges (edges_long φ ok)) refl (distance_unique x.nearest y.nearest) x.read
          y.read

      same : x.premises ≡ y.premises
      same = listed_one _ _ x.premises y.premises (λ v. ((λ m. subst (λ p. Memᴰ v p) paths m), (λ m. subst (λ p. Memᴰ v p) (sym paths) m))) x.listed y.listed

  fails_one : (r r' : List ℤ) → FailsBy φ a A r → FailsBy φ a A r' → r ≡ r'
  fails_one r r' x y = x.clause ∙ ap (λ vs. off A.variable ∷ map on vs) (listed_one _ _ x.premises y.premises (λ v. ((λ c. c), (λ c. c))) x.listed y.listed) ∙ sym y.clause

  -- no second reason fits
  pub reason_unique : (r r' : Reason) → ReasonIs φ a A r → ReasonIs φ a A r' → r ≡ r'
  reason_unique (holds r) (holds r') x y = ap holds (holds_one r r' x y)
  reason_unique (holds r) (fails r') x y = absurd (y.falsity (under_over x.truth))
  reason_unique (holds r) neither x y = absurd (y true x.truth)
  reason_unique (fails r) (holds r') x y = absurd (x.falsity (under_over y.truth))
  reason_unique (fails r) (fails r') x y = ap fails (fails_one r r' x y)
  reason_unique (fails r) neither x y = absurd (y false x.falsity)
  reason_unique neither (holds r') x y = absurd (x true y.truth)
  reason_unique neither (fails r') x y = absurd (x false y.falsity)
  reason_unique neither neither x y = refl

-- the kinds, all that is asked of them here: a bound allows itself, what it allows grows with it, and beyond it lies just what it does not allow
allows_same : (kind : Kind) (d : ℕ) → Allows kind d d
allows_same Reaches d = tt
allows_same Within d = omega arith
allows_same LengthAtMost d = omega arith

allows_more : (kind : Kind) (d k x : ℕ) → Allows kind d k → Allows kind (d + x) (k + x)
allows_more Reaches d k x h = tt
allows_more Within d k x h = omega arith
allows_more LengthAtMost d k x h = omega arith

allows_through : (kind : Kind) (d j k : ℕ) → Allows kind d j → Allows kind j k → Allows kind d k
allows_through Reaches d j k h l = tt
allows_through Within d j k h l = omega arith
allows_through LengthAtMost d j k h l = omega arith

leaves_by : (kind : Kind) (d k x : ℕ) → 1 ≤ x → Allows kind d (k + x) → LeavesAt kind d k
leaves_by Reaches d k x l h = tt
leaves_by Within d k x l h = omega arith
leaves_by LengthAtMost d k x l h = omega arith

beyond_all : (kind : Kind) (far j : ℕ) → (Allows kind far j → ⊥) → EndsBeyond kind far j
beyond_all Reaches far j h = h tt
beyond_all Within far j h = omega arith
beyond_all LengthAtMost far j h = omega arith

not_beyond : (kind : Kind) (far j : ℕ) → Allows kind far j → EndsBeyond kind far j → ⊥
not_beyond Reaches far j h z = z
not_beyond Within far j h z = omega arith
not_beyond LengthAtMost far j h z = omega arith

-- the atom that asks whether w is no further from s than `far`, of whatever variable
abbrev pub asked : Kind → ℕ → ℕ → ℕ → Atom
asked kind s far w = record { kind = kind; from = s; to = w; bound = far; variable = 0 }

module _ (n : ℕ) (es : List Edge) (f : Graph) (s : ℕ) (long : Long es) (inside : (e : Edge) → Memᴰ e es → e.to < n) (start : s < n) (kind : Kind) where
  -- "none, or more than"
  pub beyond_iff : (far w : ℕ) → (T (is_true? n es f (asked kind s far w)) → ⊥) ↔ ((j : ℕ) → Distance (cost_of kind) es f s w j → EndsBeyond kind far j)
  beyond_iff far w =
      let q = true_iff n es f (asked kind s far w) long inside start in (
        (λ h j x. beyond_all kind far j (λ l. h (q.1 (j, x, l)))),
        (λ h t. let z = q.0 t in not_beyond kind far z.0 z.2 (h z.0 z.1)),
      )

  -- a walk over other edges stays within what these reach, unless it takes an edge that leads across
  module _ (g : Graph) (d : ℕ) (shut : (e : Edge) → Memᴰ e es → T (not (f e)) → Across kind es f d s e → T (g e) → ⊥) where
    pays : Pays (cost_of kind) es
    pays = pays_by (measure_of kind) es long

    -- a walk to w that k allows
    abbrev Kept : ℕ → ℕ → Type 0
    Kept w k = (i : ℕ) × Walk (cost_of kind) es f s w i × Allows kind k i

    kept_on : (e : Edge) → Memᴰ e es → T (g e) → (j : ℕ) → Allows kind d (j + cost_of kind e) → Kept e.from j → Kept e.to (j + cost_of kind e)
    kept_on e m x j l q = go (T? (f e))
      where
        there : ℕ → Bool
        there i = is_true? n es f (asked kind s (i + cost_of kind e) e.to)

        last : T (not (f e)) → (i : ℕ) → Distance (cost_of kind) es f s e.from i → Allows kind (j + cost_of kind e) (i + cost_of kind e) → T (there i) ⊎ (T (there i) → ⊥) → Kept e.to (j + cost_of kind e)
        last o i h b (inl t) =
            let y = (true_iff n es f (asked kind s (i + cost_of kind e) e.to) long inside start).0 t in
            (y.0, y.1.walk, allows_through kind (j + cost_of kind e) (i + cost_of kind e) y.0 b y.2)
        last o i h b (inr t) =
            let r = allows_through kind d (j + cost_of kind e) (i + cost_of kind e) l b in
            absurd (shut e m o (i, h, leaves_by kind d i (cost_of kind e) (pays e m) r, (beyond_iff (i + cost_of kind e) e.to).0 t) x)

        go : T (f e) ⊎ (T (f e) → ⊥) → Kept e.to (j + cost_of kind e)
        go (inl y) = (q.0 + cost_of kind e, hop_by e m y q.1 refl, allows_more kind j q.0 (cost_of kind e) q.2)
        go (inr y) =
            let h = distance_of (cost_of kind) es f s pays e.from q.0 q.1 in
            last (not_T (f e) y) h.0 h.1 (allows_more kind j h.0 (cost_of kind e) (allows_less kind j h.0 q.0 h.2 q.2)) (T? (there h.0))

    kept_all : (w k : ℕ) → Walk (cost_of kind) es g s w k → Allows kind d k → Kept w k
    kept_all w k stay l = (zero, stay, allows_same kind zero)
    kept_all w k (hop {u = u} {j = j} r x p) l =
        subst₂ (λ y z. Kept y z) x.ends (sym p)
        (kept_on (edge es x.number) (its_in x) x.present j (subst (λ z. Allows kind d z) p l)
        (subst (λ y. Kept y j) (sym x.starts) (kept_all u j r (allows_less kind d j k (omega arith) l))))

crossing : (n : ℕ) (es : List Edge) (f g : Graph) (A : Atom) → Long es → ((e : Edge) → Memᴰ e es → e.to < n) → A.from < n
    → ((e : Edge) → Memᴰ e es → T (not (f e)) → Across A.kind es f A.bound A.from e → T (g e) → ⊥) → IsTrue es g A → IsTrue es f A
crossing n es f g A long inside start shut h =
    let q = kept_all n es f A.from long inside start A.kind g A.bound shut A.to h.0 h.1.walk h.2 in
    (true_led es long f A).1 (q.0, q.1, allows_through A.kind A.bound h.0 q.0 h.2 q.2)

-- the edges of a path that is read back are a walk
back_walk : (c : Cost) (es : List Edge) (f g : Graph) (s : ℕ) {w k : ℕ} {vs : List ℕ} → Back c es f s w k vs
    → ((e : Edge) → Memᴰ e es → Memᴰ e.variable vs → T (g e)) → Walk c es g s w k
back_walk c es f g s source h = stay
back_walk c es f g s (step {j = j} p b) h =
    hop (back_walk c es f g s b (λ x m i. h x m (Memᴰ.tail i)))
    (record { number = j; listed = p.is.listed; present = h (edge es j) (mem_at es _ j p.is.listed) (Memᴰ.head refl); starts = refl; ends = p.is.ends })
    p.is.sum

by_walk : (es : List Edge) → Long es → (f g : Graph) (A : Atom) (k : ℕ) → IsTrue es f A → Distance (cost_of A.kind) es f A.from A.to k → Walk (cost_of A.kind) es g A.from A.to k
    → IsTrue es g A
by_walk es long f g A k h x r = (true_led es long g A).1 (k, r, subst (λ z. Allows A.kind A.bound z) (distance_unique h.1 x) h.2)

not_not : (b : Bool) → T (not (not b)) → T b
not_not true t = tt
not_not false t = t

pub cut_of : (φ : PlanFile) (a : List ℤ) (A : Atom) (e : Edge) → Memᴰ e φ.edges → T (true_in a (off e.variable))
    → Across A.kind φ.edges (over (true_in a)) A.bound A.from e → Cut φ a A e.variable
cut_of φ a A e m o c =
    let q = at_mem φ.edges no_edge e m in
    record { number = q.0; listed = q.1; its = ap (λ z. z.variable) (sym q.2); is_off = o; across = subst (λ z. Across A.kind φ.edges (over (true_in a)) A.bound A.from z) q.2 c }

mem_map : {A B : Type 0} (f : A → B) {x : A} {xs : List A} → Memᴰ x xs → Memᴰ (f x) (map f xs)
mem_map f (Memᴰ.head e) = Memᴰ.head (ap f e)
mem_map f (Memᴰ.tail m) = Memᴰ.tail (mem_map f m)

-- of every reason its premises alone decide the atom: of a path, by its own edges; of a cut, since no walk that does without its edges gets across
abbrev pub Decided : PlanFile → Atom → Reason → Type 0
Decided φ A (holds r) = Decides φ A true r
Decided φ A (fails r) = Decides φ A false r
Decided φ A neither = T true

pub decided : (φ : PlanFile) (ok : Ranged φ) (a : List ℤ) (A : Atom) → A.from < φ.nodes → (r : Reason) → ReasonIs φ a A r → Decided φ A r
decided φ ok a A start (holds r) x = subst (λ z. Decides φ A true z) (sym x.clause) (λ S p.
    by_walk φ.edges (edges_long φ ok) (under (true_in a)) (under S) A x.count x.truth x.nearest
    (back_walk (cost_of A.kind) φ.edges (under (true_in a)) (under S) A.from x.read
    (λ e i m. subst (λ l. T (S l)) (neg_ℤ-neg_ℤ (on e.variable)) (p (off e.variable) (mem_map off ((x.listed.exact e.variable).1 m))))))
decided φ ok a A start (fails r) x = subst (λ z. Decides φ A false z) (sym x.clause) (λ S p h.
    x.falsity (crossing φ.nodes φ.edges (over (true_in a)) (over S) A (edges_long φ ok) (λ e i. (ok.edge e i).to_in) start
    (λ e i o c t. T_not (S (off e.variable)) t (p (on e.variable) (mem_map on ((x.listed.exact e.variable).1 (cut_of φ a A e i (not_not (true_in a (off e.variable)) o) c))))) h))
decided φ ok a A start neither x = tt

-- a premise's variable is an edge's, so the clause's literals are of the file's variables
abbrev pub InFile : PlanFile → ℕ → Type 0
InFile φ v = (zero < v) × (v ≤ φ.variables)

module _ (φ : PlanFile) (ok : Ranged φ) where
  edge_in_lem : (j v : ℕ) → j < length φ.edges → (edge φ.edges j).variable ≡ v → InFile φ v
  edge_in_lem j v l e = let i = ok.edge (edge φ.edges j) (mem_at φ.edges no_edge j l) in (omega (arith, i.low), omega (arith, i.high))

  pub path_in : {c : Cost} {g : Graph} {s w k : ℕ} {vs : List ℕ} → Back c φ.edges g s w k vs → (v : ℕ) → Memᴰ v vs → InFile φ v
  path_in source v m = absurd (Memᴰ.not-nil m)
  path_in (step {j = j} {vs = vs} f b) v m = go (λ q. path_in b v q) (Memᴰ.cases_cons m)
    where
      go : (Memᴰ v vs → InFile φ v) → (v ≡ (edge φ.edges j).variable) ⊎ Memᴰ v vs → InFile φ v
      go r (inl e) = edge_in_lem j v f.is.listed (sym e)
      go r (inr q) = r q

  pub cut_in : (a : List ℤ) (A : Atom) (v : ℕ) → Cut φ a A v → InFile φ v
  cut_in a A v c = edge_in_lem c.number v c.listed c.its

literals_fit : (φ : PlanFile) (b : Bool) (vs : List ℕ) → ((v : ℕ) → Memᴰ v vs → InFile φ v) → LiteralsFit φ.variables (map (literal_of b) vs)
literals_fit φ b [] h l m = absurd (Memᴰ.not-nil m)
literals_fit φ b (v ∷ vs) h l m = go (literals_fit φ b vs (λ w i. h w (Memᴰ.tail i)) l) (Memᴰ.cases_cons m)
  where
    go : (Memᴰ l (map (literal_of b) vs) → LiteralFits φ.variables l) → (l ≡ literal_of b v) ⊎ Memᴰ l (map (literal_of b) vs) → LiteralFits φ.variables l
    go r (inl e) =
        let i = h v (Memᴰ.head refl) in
        let z = ap nat_abs e ∙ literal_size b v in
        record { low = omega (arith, i.0); high = omega (arith, i.1) }
    go r (inr k) = r k

-- a reason's clause has a true literal
abbrev pub ClauseTrue : List ℤ → Reason → Type 0
ClauseTrue c (holds r) = HasTrue c r
ClauseTrue c (fails r) = HasTrue c r
ClauseTrue c neither = T true

-- so it is in every full assignment in which the atom's variable equals its truth: if no other literal of the clause is true there, all premises
-- are, and they decide the atom
module _ (φ : PlanFile) (ok : Ranged φ) (a : List ℤ) (A : Atom) (m : Memᴰ A φ.atoms) (c : List ℤ) (full : Full φ.variables c) (right : IsRight φ c A) where
  decided_true : (b : Bool) (ls : List ℤ) → LiteralsFit φ.variables ls → Decides φ A b (literal_of b A.variable ∷ ls) → HasTrue c (literal_of b A.variable ∷ ls)
  decided_true b ls fit d = go (any_or_none (true_in c) ls)
    where
      opposite : (l : ℤ) → (T (true_in c l) → ⊥) → T (true_in c l) ⊎ T (true_in c (neg_ℤ l)) → T (true_in c (neg_ℤ l))
      opposite l n (inl t) = absurd (n t)
      opposite l n (inr t) = t

      go : HasTrue c ls ⊎ ((l : ℤ) → Memᴰ l ls → T (true_in c l) → ⊥) → HasTrue c (literal_of b A.variable ∷ ls)
      go (inl q) = (q.0, Memᴰ.tail q.1, q.2)
      go (inr n) = (
        literal_of b A.variable,
        Memᴰ.head refl,
        settled_true φ ok c full A m right b (d (true_in c) (λ l k. opposite l (n l k) (one_of φ.variables c full l (fit l k).low (fit l k).high))),
      )

  pub reason_true : (r : Reason) → ReasonIs φ a A r → ClauseTrue c r
  reason_true (holds r) x =
      let d = subst (λ z. Decides φ A true z) x.clause (decided φ ok a A (ok.atom A m).from_in (holds r) x) in
      subst (λ z. HasTrue c z) (sym x.clause)
      (decided_true true (map off x.premises) (literals_fit φ false x.premises (λ v i. path_in φ ok x.read v ((x.listed.exact v).0 i))) d)
  reason_true (fails r) x =
      let d = subst (λ z. Decides φ A false z) x.clause (decided φ ok a A (ok.atom A m).from_in (fails r) x) in
      subst (λ z. HasTrue c z) (sym x.clause)
      (decided_true false (map on x.premises) (literals_fit φ true x.premises (λ v i. cut_in φ ok a A v ((x.listed.exact v).0 i))) d)
  reason_true neither x = tt
