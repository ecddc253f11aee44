-- Levels: what level i has is what a walk that costs at most i leads to, whatever the edges cost; so an atom is true exactly if its test says so.
-- Assumes nothing.
use mathlib.Core.Path.{◌≡◌, refl, sym, subst, ◌∙◌, ap}
use mathlib.Core.Logic.{◌⊎◌, inl, inr, ◌↔◌}
use mathlib.Core.Bool.{Bool, true, false, ◌&&◌, ◌||◌}
use mathlib.Core.List.{List, [], ◌∷◌, Memᴰ}
use Prim.Native.Nat.{ℕ, zero, suc, ◌+◌, ◌-◌, ◌≤◌, ◌<◌, min}
use native.Mathlib.Decide.{le_ind}
use native.Mathlib.Omega.{arith}
use lib.ListN.{length, get_or}
use lib.Dec.{T, eqb, eqb→eq, eqb_refl}
use Rattle.plan.specs.Meaning.{Edge, Atom, Graph, edge, Leads, Cost, Walk, stay, hop, one_hop, measure_of, cost_of, Allows, IsTrue}
use Rattle.plan.specs.Written.{has_block, levels_of, levels}
use Rattle.plan.specs.declared.Kind.{Kind}
use Rattle.plan.specs.declared.Kind.TheVariants.{Reaches, Within, LengthAtMost}
use Rattle.plan.proofs.Bools.{tab, any_of, or_cases, or_left, or_right, and_both, and_left, and_right, any_some, some_any, tab_in, tab_out, tab_length}
use Rattle.plan.proofs.Lists.{le_or_lt}
use Rattle.plan.proofs.Walks.{its_in, hop_by, Pays, Long, pays_by, true_led}

-- one level more, on top of those so far, the newest first: a node of the newest, or the end of a good edge whose start was there as many levels
-- before as the edge costs
unfoldable pub next : Cost → ℕ → List Edge → Graph → List (List Bool) → List Bool
next c n es f h = tab n (λ w. get_or (get_or h 0 []) w false || any_of (λ e. f e && (eqb e.to w && get_or (get_or h (c e - 1) []) e.from false)) es)

abbrev pub onto : (List (List Bool) → List Bool) → List (List Bool) → List (List Bool)
onto g h = g h ∷ h

unfoldable pub up_to : Cost → ℕ → List Edge → Graph → ℕ → ℕ → List (List Bool)
up_to c n es f s zero = tab n (λ w. eqb s w) ∷ []
up_to c n es f s (suc i) = onto (next c n es f) (up_to c n es f s i)

abbrev pub reached : Cost → ℕ → List Edge → Graph → ℕ → ℕ → List Bool
reached c n es f s i = get_or (up_to c n es f s i) 0 []

-- by which level of n nodes a node is seen that does not end beyond `far`
abbrev pub last_level : ℕ → Kind → ℕ → ℕ
last_level n Reaches far = n - 1
last_level n Within far = far
last_level n LengthAtMost far = far

-- an atom's test
unfoldable pub is_true? : ℕ → List Edge → Graph → Atom → Bool
is_true? n es f A = get_or (reached (cost_of A.kind) n es f A.from (last_level n A.kind A.bound)) A.to false

-- a walk that costs at most d
abbrev pub Near : Cost → List Edge → Graph → ℕ → ℕ → ℕ → Type 0
Near c es g d s t = (k : ℕ) × (k ≤ d) × Walk c es g s t k

-- counting a list of Bools
count : List Bool → ℕ
count [] = zero
count (true ∷ l) = suc (count l)
count (false ∷ l) = count l

count_le : (l : List Bool) → count l ≤ length l
unfolding count
count_le [] = omega arith
count_le (true ∷ l) = omega (arith, count_le l)
count_le (false ∷ l) = omega (arith, count_le l)

-- a list of Bools below another is equal to it, or has fewer
grow : (l m : List Bool) → length l ≡ length m → ((w : ℕ) → T (get_or l w false) → T (get_or m w false)) → (l ≡ m) ⊎ (count l < count m)
unfolding count
grow [] [] e h = inl refl
grow [] (y ∷ m) e h = absurd (omega arith)
grow (x ∷ l) [] e h = absurd (omega arith)
grow (true ∷ l) (true ∷ m) e h = go (grow l m (omega arith) (λ w. h (suc w)))
  where
    go : (l ≡ m) ⊎ (count l < count m) → (true ∷ l ≡ true ∷ m) ⊎ (count (true ∷ l) < count (true ∷ m))
    go (inl p) = inl (ap (λ r. true ∷ r) p)
    go (inr p) = inr (omega arith)
grow (false ∷ l) (false ∷ m) e h = go (grow l m (omega arith) (λ w. h (suc w)))
  where
    go : (l ≡ m) ⊎ (count l < count m) → (false ∷ l ≡ false ∷ m) ⊎ (count (false ∷ l) < count (false ∷ m))
    go (inl p) = inl (ap (λ r. false ∷ r) p)
    go (inr p) = inr (omega arith)
grow (false ∷ l) (true ∷ m) e h = go (grow l m (omega arith) (λ w. h (suc w)))
  where
    go : (l ≡ m) ⊎ (count l < count m) → (false ∷ l ≡ true ∷ m) ⊎ (count (false ∷ l) < count (true ∷ m))
    go (inl p) = inr (omega (arith, ap count p))
    go (inr p) = inr (omega arith)
grow (true ∷ l) (false ∷ m) e h = absurd (h zero tt)

all_true : (l : List Bool) → length l ≤ count l → (w : ℕ) → w < length l → T (get_or l w false)
unfolding count
all_true [] h w k = absurd (omega arith)
all_true (true ∷ l) h zero k = tt
all_true (true ∷ l) h (suc w) k = all_true l (omega arith) w (omega arith)
all_true (false ∷ l) h w k = absurd (omega (arith, count_le l))

some_true : (l : List Bool) (w : ℕ) → T (get_or l w false) → 1 ≤ count l
unfolding count
some_true [] w t = absurd t
some_true (true ∷ l) w t = omega arith
some_true (false ∷ l) zero t = absurd t
some_true (false ∷ l) (suc w) t = some_true l w t

module _ (c : Cost) (n : ℕ) (es : List Edge) (f : Graph) where
  -- an entry of the next level, taken apart and put together
  pub record By (h : List (List Bool)) (w : ℕ) : Type 0 where
    pub last : Edge
    pub listed : Memᴰ last es
    pub present : T (f last)
    pub ends : last.to ≡ w
    pub before : T (get_or (get_or h (c last - 1) []) last.from false)

  next_out : (h : List (List Bool)) (w : ℕ) → T (get_or (next c n es f h) w false) → T (get_or (get_or h 0 []) w false) ⊎ By h w
  unfolding next
  next_out h w t = go (or_cases (get_or (get_or h 0 []) w false) _ (tab_out n _ w t).1)
    where
      test : Edge → Bool
      test e = f e && (eqb e.to w && get_or (get_or h (c e - 1) []) e.from false)

      found : (e : Edge) × Memᴰ e es × T (test e) → By h w
      found q =
          let e = q.0 in
          let r = and_right (f e) _ q.2 in
          record {
            last = e;
            listed = q.1;
            present = and_left (f e) _ q.2;
            ends = eqb→eq e.to w (and_left (eqb e.to w) _ r);
            before = and_right (eqb e.to w) _ r;
          }

      go : T (get_or (get_or h 0 []) w false) ⊎ T (any_of test es) → T (get_or (get_or h 0 []) w false) ⊎ By h w
      go (inl p) = inl p
      go (inr p) = inr (found (any_some test es p))

  next_keep : (h : List (List Bool)) (w : ℕ) → w < n → T (get_or (get_or h 0 []) w false) → T (get_or (next c n es f h) w false)
  unfolding next
  next_keep h w l t = tab_in n _ w l (or_left (get_or (get_or h 0 []) w false) _ t)

  next_in : (h : List (List Bool)) (w : ℕ) → w < n → By h w → T (get_or (next c n es f h) w false)
  unfolding next
  next_in h w l q =
      tab_in n _ w l
      (or_right (get_or (get_or h 0 []) w false) _
      (some_any (λ e. f e && (eqb e.to w && get_or (get_or h (c e - 1) []) e.from false)) es q.last q.listed
      (and_both (f q.last) _ q.present
      (and_both (eqb q.last.to w) _ (subst (λ x. T (eqb q.last.to x)) q.ends (eqb_refl q.last.to))
      q.before))))

  -- by the edge that leads there
  by_lead : (h : List (List Bool)) (u w : ℕ) (d : Leads es f u w) → T (get_or (get_or h (c (edge es d.number) - 1) []) u false) → By h w
  by_lead h u w d t =
      record {
        last = edge es d.number;
        listed = its_in d;
        present = d.present;
        ends = d.ends;
        before = subst (λ x. T (get_or (get_or h (c (edge es d.number) - 1) []) x false)) (sym d.starts) t;
      }

module _ (c : Cost) (n : ℕ) (es : List Edge) (f : Graph) (s : ℕ) where
  -- the level j before the newest
  back_to : (i j : ℕ) → j ≤ i → get_or (up_to c n es f s i) j [] ≡ reached c n es f s (i - j)
  unfolding up_to
  back_to i zero h = let e : i ≡ i - zero = omega arith in ap (λ k. reached c n es f s k) e
  back_to zero (suc j) h = absurd (omega arith)
  back_to (suc i) (suc j) h = let e : i - j ≡ suc i - suc j = omega arith in back_to i j (omega arith) ∙ ap (λ k. reached c n es f s k) e

  none_before : (i j : ℕ) → i < j → get_or (up_to c n es f s i) j [] ≡ []
  unfolding up_to
  none_before i zero h = absurd (omega arith)
  none_before zero (suc j) h = refl
  none_before (suc i) (suc j) h = none_before i j (omega arith)

  pub reached_length : (i : ℕ) → length (reached c n es f s i) ≡ n
  unfolding up_to next
  reached_length zero = tab_length n _
  reached_length (suc i) = tab_length n _

  reached_small : (i w : ℕ) → T (get_or (reached c n es f s i) w false) → w < n
  unfolding up_to next
  reached_small zero w t = (tab_out n _ w t).0
  reached_small (suc i) w t = (tab_out n _ w t).0

  keep : (i w : ℕ) → T (get_or (reached c n es f s i) w false) → T (get_or (reached c n es f s (suc i)) w false)
  unfolding up_to
  keep i w t = next_keep c n es f (up_to c n es f s i) w (reached_small i w t) t

  pub keeps : (i j : ℕ) → i ≤ j → (w : ℕ) → T (get_or (reached c n es f s i) w false) → T (get_or (reached c n es f s j) w false)
  keeps i j h w t = le_ind (λ m. T (get_or (reached c n es f s m) w false)) t (λ m k r. keep m w r) j h

  module _ (pays : Pays c es) where
    -- what the computed levels say is so
    abbrev Sound : ℕ → Type 0
    Sound i = (m w : ℕ) → m ≤ i → T (get_or (reached c n es f s m) w false) → Near c es f m s w

    sound_first : (w : ℕ) → T (get_or (reached c n es f s zero) w false) → Near c es f zero s w
    unfolding up_to
    sound_first w t =
        let q = tab_out n (λ w. eqb s w) w t in
        (zero, omega arith, subst (λ x. Walk c es f s x zero) (eqb→eq s w q.1) stay)

    sound_next : (i : ℕ) → Sound i → Sound (suc i)
    unfolding up_to
    sound_next i r zero w h t = sound_first w t
    sound_next i r (suc m) w h t = go (next_out c n es f (up_to c n es f s m) w t)
      where
        by : (q : By c n es f (up_to c n es f s m) w) → (c q.last - 1 ≤ m) ⊎ (m < c q.last - 1) → Near c es f (suc m) s w
        by q (inl l) =
            let e = q.last in
            let b = c e - 1 in
            let z = r (m - b) e.from (omega arith) (subst (λ x. T (get_or x e.from false)) (back_to m b l) q.before) in
            (z.0 + c e, omega (arith, z.1, pays e q.listed), subst (λ x. Walk c es f s x (z.0 + c e)) q.ends (hop_by e q.listed q.present z.2 refl))
        by q (inr l) = absurd (subst (λ x. T (get_or x q.last.from false)) (none_before m (c q.last - 1) l) q.before)

        go : T (get_or (reached c n es f s m) w false) ⊎ By c n es f (up_to c n es f s m) w → Near c es f (suc m) s w
        go (inl p) = let q = r m w (omega arith) p in (q.0, omega (arith, q.1), q.2)
        go (inr q) = by q (le_or_lt (c q.last - 1) m)

    sound_to : (i : ℕ) → Sound i
    sound_to zero = λ m w h t. go m w (omega arith) t
      where
        go : (m w : ℕ) → m ≡ zero → T (get_or (reached c n es f s m) w false) → Near c es f m s w
        go m w e t = subst (λ k. Near c es f k s w) (sym e) (sound_first w (subst (λ k. T (get_or (reached c n es f s k) w false)) e t))
    sound_to (suc i) = sound_next i (sound_to i)

    pub sound : (i w : ℕ) → T (get_or (reached c n es f s i) w false) → Near c es f i s w
    sound i w t = sound_to i i w (omega arith) t

  module _ (inside : (e : Edge) → Memᴰ e es → e.to < n) (start : s < n) where
    walk_small : (w k : ℕ) → Walk c es f s w k → w < n
    walk_small w k stay = start
    walk_small w k (hop r d e) = subst (λ x. x < n) d.ends (inside (edge es d.number) (its_in d))

    first : T (get_or (reached c n es f s zero) s false)
    unfolding up_to
    first = tab_in n _ s start (eqb_refl s)

    module _ (pays : Pays c es) where
      pub complete : (w k : ℕ) → Walk c es f s w k → T (get_or (reached c n es f s k) w false)
      unfolding up_to
      complete w k stay = first
      complete w k (hop {u = u} {j = j} r d e) =
          let b = c (edge es d.number) - 1 in
          let p : k ≡ suc (j + b) = omega (arith, pays (edge es d.number) (its_in d)) in
          let z : j + b - b ≡ j = omega arith in
          subst (λ m. T (get_or (reached c n es f s m) w false)) (sym p)
          (up (j + b) (by_lead c n es f (up_to c n es f s (j + b)) u w d (subst (λ x. T (get_or x u false)) (sym (back_to (j + b) b (omega arith) ∙ ap (λ m. reached c n es f s m) z)) (complete u j r))))
        where
          up : (m : ℕ) → By c n es f (up_to c n es f s m) w → T (get_or (reached c n es f s (suc m)) w false)
          up m q = next_in c n es f (up_to c n es f s m) w (walk_small w k (hop r d e)) q

-- hops alone: n - 1 levels are enough
module _ (n : ℕ) (es : List Edge) (f : Graph) (s : ℕ) (inside : (e : Edge) → Memᴰ e es → e.to < n) (start : s < n) where
  abbrev R : ℕ → List Bool
  R i = reached one_hop n es f s i

  abbrev further : List Bool → List Bool
  further l = next one_hop n es f (l ∷ [])

  further_is : (i : ℕ) → R (suc i) ≡ further (R i)
  unfolding up_to next
  further_is i = refl

  -- a level that stays as it is has every node that a walk leads to
  settled : (l : List Bool) → further l ≡ l → T (get_or l s false) → (w k : ℕ) → Walk one_hop es f s w k → T (get_or l w false)
  settled l e t w k stay = t
  settled l e t w k (hop {u = x} {j = j} r d p) =
      subst (λ m. T (get_or m w false)) e (next_in one_hop n es f (l ∷ []) w (walk_small one_hop n es f s inside start w k (hop r d p)) (by_lead one_hop n es f (l ∷ []) x w d (settled l e t x j r)))

  -- level i has i + 1 nodes, or is the last that is new
  fills : (i : ℕ) → (suc i ≤ count (R i)) ⊎ (further (R i) ≡ R i)
  fills zero = inl (some_true (R zero) s (first one_hop n es f s inside start))
  fills (suc i) = go (fills i)
    where
      more : suc i ≤ count (R i) → (R i ≡ R (suc i)) ⊎ (count (R i) < count (R (suc i))) → (suc (suc i) ≤ count (R (suc i))) ⊎ (further (R (suc i)) ≡ R (suc i))
      more h (inl e) = inr (sym (ap further e) ∙ sym (further_is i))
      more h (inr p) = inl (omega arith)

      go : (suc i ≤ count (R i)) ⊎ (further (R i) ≡ R i) → (suc (suc i) ≤ count (R (suc i))) ⊎ (further (R (suc i)) ≡ R (suc i))
      go (inl h) = more h (grow (R i) (R (suc i)) (reached_length one_hop n es f s i ∙ sym (reached_length one_hop n es f s (suc i))) (λ w. keep one_hop n es f s i w))
      go (inr e) = inr (ap further (further_is i ∙ e) ∙ sym (further_is i))

  pub enough : (w k : ℕ) → Walk one_hop es f s w k → T (get_or (R (n - 1)) w false)
  enough w k r = go (fills (n - 1))
    where
      go : (suc (n - 1) ≤ count (R (n - 1))) ⊎ (further (R (n - 1)) ≡ R (n - 1)) → T (get_or (R (n - 1)) w false)
      go (inl h) = all_true (R (n - 1)) (omega (arith, reached_length one_hop n es f s (n - 1))) w (omega (arith, reached_length one_hop n es f s (n - 1), walk_small one_hop n es f s inside start w k r))
      go (inr e) = settled (R (n - 1)) e (keeps one_hop n es f s zero (n - 1) (omega arith) s (first one_hop n es f s inside start)) w k r

  -- a walk of k hops is seen at level k and later, and at level n - 1 whatever k is
  by_level : (w k l : ℕ) → Walk one_hop es f s w k → min k (n - 1) ≤ l → T (get_or (R l) w false)
  by_level w k l r h = go (le_or_lt k (n - 1))
    where
      go : (k ≤ n - 1) ⊎ (n - 1 < k) → T (get_or (R l) w false)
      go (inl a) = keeps one_hop n es f s k l (omega arith) w (complete one_hop n es f s inside start (λ e m. omega arith) w k r)
      go (inr b) = keeps one_hop n es f s (n - 1) l (omega arith) w (enough w k r)

  -- the kinds that have a block, at its last level
  by_block : (kind : Kind) (d t : ℕ) → T (has_block kind) → T (get_or (R (levels_of n kind d)) t false) ↔ ((k : ℕ) × Walk (cost_of kind) es f s t k × Allows kind d k)
  by_block Reaches d t b = (
    (λ x. let q = sound one_hop n es f s (λ e m. omega arith) (n - 1) t x in (q.0, q.2, tt)),
    (λ q. by_level t q.0 (n - 1) q.1 (omega arith)),
  )
  by_block Within d t b = (
    (λ x. let q = sound one_hop n es f s (λ e m. omega arith) (min d (n - 1)) t x in (q.0, q.2, omega (arith, q.1))),
    (λ q. by_level t q.0 (min d (n - 1)) q.1 (omega (arith, q.2))),
  )
  by_block LengthAtMost d t b = absurd b

  -- the kinds: what the last level has is what no distance is beyond
  module _ (long : Long es) where
    pub seen : (kind : Kind) (far k w : ℕ) → Walk (cost_of kind) es f s w k → Allows kind far k → T (get_or (reached (cost_of kind) n es f s (last_level n kind far)) w false)
    seen Reaches far k w r a = enough w k r
    seen Within far k w r a = keeps one_hop n es f s k far a w (complete one_hop n es f s inside start (pays_by (measure_of Within) es long) w k r)
    seen LengthAtMost far k w r a = keeps (cost_of LengthAtMost) n es f s k far a w (complete (cost_of LengthAtMost) n es f s inside start (pays_by (measure_of LengthAtMost) es long) w k r)

level_allows : (kind : Kind) (n d k : ℕ) → k ≤ last_level n kind d → Allows kind d k
level_allows Reaches n d k h = tt
level_allows Within n d k h = h
level_allows LengthAtMost n d k h = h

-- an atom holds over the edges that pass the test f exactly if antt computes that it does
module _ (n : ℕ) (es : List Edge) (f : Graph) (A : Atom) (long : Long es) (inside : (e : Edge) → Memᴰ e es → e.to < n) (start : A.from < n) where
  pub true_iff : T (is_true? n es f A) ↔ IsTrue es f A
  unfolding is_true?
  true_iff = (
    (λ t.
        let q = sound (cost_of A.kind) n es f A.from (pays_by (measure_of A.kind) es long) (last_level n A.kind A.bound) A.to t in
        (true_led es long f A).1 (q.0, q.2, level_allows A.kind n A.bound q.0 q.1)),
    (λ h. seen n es f A.from inside start long A.kind A.bound h.0 A.to h.1.walk h.2),
  )

  -- and, for an atom that has a block, at the level that the written clauses stop at
  pub block_iff : T (has_block A.kind) → T (get_or (reached one_hop n es f A.from (levels n A)) A.to false) ↔ IsTrue es f A
  unfolding levels
  block_iff b =
      let q = by_block n es f A.from inside start A.kind A.bound A.to b in
      let l = true_led es long f A in
      ((λ t. l.1 (q.0 t)), (λ h. q.1 (l.0 h)))
