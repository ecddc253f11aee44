-- The search tree is one, its outcome is right, and its count is below 2 to the open variables.
-- Assumes nothing.
use mathlib.Core.Path.{◌≡◌, refl, sym, subst, ◌∙◌, ap, ap₂}
use mathlib.Core.Logic.{◌⊎◌, inl, inr, ◌≢◌}
use mathlib.Core.List.{List}
use Prim.Native.Nat.{ℕ, zero, suc, ◌+◌, ◌*◌, ◌-◌, ◌^◌, ◌≤◌, ◌<◌}
use native.Mathlib.Nat.{pow-succ'}
use native.Mathlib.Omega.{arith}
use lib.ListN.{length, get_or}
use lib.Seq.{ext_get_or}
use lib.IntN.{ℤ, pos, negsuc, neg_ℤ, nat_abs}
use lib.Dec.{T}
use lib.Pow.{pow_pos, pow_mono}
use Rattle.plan.specs.Meaning.{PlanFile, is_on, is_off, value, ◌⊆◌, true_in, add, Full, IsPlan}
use Rattle.plan.specs.Ranged.{Ranged}
use Rattle.plan.specs.Closing.{Closing, Clashes}
use Rattle.plan.specs.Places.{First}
use Rattle.plan.specs.Search.{Assigned, opens, Closes, Lowest, tried_first, tried_then, Outcome, nothing, found, Tree, clashed, full, first_found, first_nothing, Before, FirstPlan, Right}
use Rattle.plan.proofs.Closing.{closing_unique, not_both, plan_above, no_plan, closed_plan, one_of}
use Rattle.plan.proofs.Places.{first_one}
use Rattle.plan.proofs.Signs.{nat_abs_neg}
use Rattle.plan.proofs.Add.{IsValue, on_one, off_one, same_set, add_below, add_above, add_has, add_shape, add_opens, opens_sub}

-- a set of literals above an assignment agrees with it where that is not open
agrees : (c q : List ℤ) → true_in c ⊆ true_in q → (j : ℕ) → IsValue (get_or c j (pos 0)) → get_or c j (pos 0) ≢ pos 0 → get_or c j (pos 0) ≡ get_or q j (pos 0)
unfolding true_in value add
agrees c q h j (inl e) n = e ∙ sym (on_one (get_or q j (pos 0)) (h (pos (suc j)) (rw e tt)))
agrees c q h j (inr (inl e)) n = e ∙ sym (off_one (get_or q j (pos 0)) (h (negsuc j) (rw e tt)))
agrees c q h j (inr (inr e)) n = absurd (n e)

-- closing is one assignment, the lowest open variable is one
pub closes_unique : (φ : PlanFile) (a a' c c' : List ℤ) → a ≡ a' → Closes φ a c → Closes φ a' c' → c ≡ c'
closes_unique φ a a' c c' e x y =
    same_set φ.variables c c' x.shape y.shape
    (closing_unique φ (true_in a) (true_in c) (true_in c') x.closed.closing (subst (λ z. Closing φ (true_in z) (true_in c')) (sym e) y.closed.closing))

pub lowest_first : {c : List ℤ} {i : ℕ} → Lowest c i → First (λ j. get_or c j (pos 0) ≡ pos 0) 0 (length c) i
lowest_first l = record { after = omega arith; inside = omega (arith, l.inside); before = λ j a b. l.below j b; here = λ h. l.is_open }

lowest_unique : (c c' : List ℤ) (i i' : ℕ) → c ≡ c' → Lowest c i → Lowest c' i' → i ≡ i'
lowest_unique c c' i i' e x y = first_one (λ j. get_or c j (pos 0) ≡ pos 0) (lowest_first x) (lowest_first (subst (λ z. Lowest z i') (sym e) y))

not_full : (n : ℕ) (c : List ℤ) (i : ℕ) → Full n c → Lowest c i → ⊥
not_full n c i f x = go (f.each i (omega (arith, f.long, x.inside)))
  where
    go : (get_or c i (pos 0) ≡ pos 1) ⊎ (get_or c i (pos 0) ≡ negsuc 0) → ⊥
    go (inl e) = subst (λ z. T (is_on z)) (sym e ∙ x.is_open) tt
    go (inr e) = subst (λ z. T (is_off z)) (sym e ∙ x.is_open) tt

abbrev IsFound : Outcome → Type 0
IsFound nothing = ⊥
IsFound (found p) = Unit {0}

module _ (φ : PlanFile) where
  child : (a a' c c' : List ℤ) (i i' : ℕ) (f : ℕ → ℤ) → a ≡ a' → Closes φ a c → Closes φ a' c' → Lowest c i → Lowest c' i' → add c (f i) ≡ add c' (f i')
  child a a' c c' i i' f e k k' l l' = let p = closes_unique φ a a' c c' e k k' in ap₂ (λ z j. add z (f j)) p (lowest_unique c c' i i' p l l')

  no_mix : (a a' c : List ℤ) → a ≡ a' → Closes φ a c → Clashes φ (true_in a') → ⊥
  no_mix a a' c e k f = not_both φ (true_in a) (true_in c) k.closed (subst (λ z. Clashes φ (true_in z)) (sym e) f)

  no_rest : (a a' c c' : List ℤ) (i : ℕ) → a ≡ a' → Closes φ a c → Closes φ a' c' → Full φ.variables c → Lowest c' i → ⊥
  no_rest a a' c c' i e k k' f l = not_full φ.variables c i f (subst (λ z. Lowest z i) (sym (closes_unique φ a a' c c' e k k')) l)

  -- the search has one outcome and one count
  tree_unique : {a a' : List ℤ} {o o' : Outcome} {b b' : ℕ} → a ≡ a' → Tree φ a o b → Tree φ a' o' b' → (o ≡ o') × (b ≡ b')
  tree_unique e (clashed f) (clashed f') = (refl, refl)
  tree_unique e (clashed f) (full k' g') = absurd (no_mix _ _ _ (sym e) k' f)
  tree_unique e (clashed f) (first_found k' l' t') = absurd (no_mix _ _ _ (sym e) k' f)
  tree_unique e (clashed f) (first_nothing k' l' t' u') = absurd (no_mix _ _ _ (sym e) k' f)
  tree_unique e (full k g) (clashed f') = absurd (no_mix _ _ _ e k f')
  tree_unique e (full k g) (full k' g') = (ap found (closes_unique φ _ _ _ _ e k k'), refl)
  tree_unique e (full k g) (first_found k' l' t') = absurd (no_rest _ _ _ _ _ e k k' g l')
  tree_unique e (full k g) (first_nothing k' l' t' u') = absurd (no_rest _ _ _ _ _ e k k' g l')
  tree_unique e (first_found k l t) (clashed f') = absurd (no_mix _ _ _ e k f')
  tree_unique e (first_found k l t) (full k' g') = absurd (no_rest _ _ _ _ _ (sym e) k' k g' l)
  tree_unique e (first_found k l t) (first_found k' l' t') = let q = tree_unique (child _ _ _ _ _ _ (λ i. tried_first φ (suc i)) e k k' l l') t t' in (q.0, ap suc q.1)
  tree_unique e (first_found k l t) (first_nothing k' l' t' u') = absurd (subst IsFound (tree_unique (child _ _ _ _ _ _ (λ i. tried_first φ (suc i)) e k k' l l') t t').0 tt)
  tree_unique e (first_nothing k l t u) (clashed f') = absurd (no_mix _ _ _ e k f')
  tree_unique e (first_nothing k l t u) (full k' g') = absurd (no_rest _ _ _ _ _ (sym e) k' k g' l)
  tree_unique e (first_nothing k l t u) (first_found k' l' t') = absurd (subst IsFound (sym (tree_unique (child _ _ _ _ _ _ (λ i. tried_first φ (suc i)) e k k' l l') t t').0) tt)
  tree_unique e (first_nothing k l t u) (first_nothing k' l' t' u') =
      let q = tree_unique (child _ _ _ _ _ _ (λ i. tried_first φ (suc i)) e k k' l l') t t' in
      let r = tree_unique (child _ _ _ _ _ _ (λ i. tried_then φ (suc i)) e k k' l l') u u' in
      (r.0, omega (arith, q.1, r.1))

-- a literal of an open variable is not true
open_none : (c : List ℤ) (i : ℕ) → get_or c i (pos 0) ≡ pos 0 → (x : ℤ) → nat_abs x ≡ suc i → T (true_in c x) → ⊥
unfolding true_in value
open_none c i z (pos zero) e t = absurd (omega arith)
open_none c i z (pos (suc j)) e t = let q : j ≡ i = omega arith in subst (λ y. T (is_on y)) (ap (λ k. get_or c k (pos 0)) q ∙ z) t
open_none c i z (negsuc j) e t = let q : j ≡ i = omega arith in subst (λ y. T (is_off y)) (ap (λ k. get_or c k (pos 0)) q ∙ z) t

-- the lowest open variable, and a literal of it that is tried
module _ (n : ℕ) (c : List ℤ) (i : ℕ) (s : Assigned n c) (l : Lowest c i) where
  pub low_n : suc i ≤ n
  low_n = omega (arith, s.long, l.inside)

  module _ (x : ℤ) (e : nat_abs x ≡ suc i) where
    tried_in : nat_abs x ≤ length c
    tried_in = omega (arith, l.inside)

    pub tried_open : T (true_in c x) → ⊥
    tried_open = open_none c i l.is_open x e

    pub other_open : T (true_in c (neg_ℤ x)) → ⊥
    other_open = open_none c i l.is_open (neg_ℤ x) (nat_abs_neg x ∙ e)

    pub tried_shape : Assigned n (add c x)
    tried_shape = add_shape n c x tried_in s

    pub tried_opens : suc (opens (add c x)) ≡ opens c
    tried_opens = add_opens n c x s (omega arith) (omega (arith, low_n)) tried_open other_open

-- both literals that are tried are the variable's
pub first_of : (φ : PlanFile) (v : ℕ) → nat_abs (tried_first φ v) ≡ v
first_of φ v = nat_abs_neg (pos v)

pub then_of : (φ : PlanFile) (v : ℕ) → nat_abs (tried_then φ v) ≡ v
then_of φ v = nat_abs_neg (tried_first φ v) ∙ first_of φ v

module _ (φ : PlanFile) (ok : Ranged φ) where
  -- a full closing is the only plan that contains what it came from
  full_right : (a c : List ℤ) → Closes φ a c → Full φ.variables c → FirstPlan φ a c
  unfolding true_in value add
  full_right a c k f = record { plan = closed_plan φ ok c (true_in a) f k.closed; above = k.closed.closing.given; first = λ q p h. inl (same q p h) }
    where
      shown : (q : List ℤ) → true_in c ⊆ true_in q → (j : ℕ) → (get_or c j (pos 0) ≡ pos 1) ⊎ (get_or c j (pos 0) ≡ negsuc 0) → get_or c j (pos 0) ≡ get_or q j (pos 0)
      shown q h j (inl e) = e ∙ sym (on_one (get_or q j (pos 0)) (h (pos (suc j)) (rw e tt)))
      shown q h j (inr e) = e ∙ sym (off_one (get_or q j (pos 0)) (h (negsuc j) (rw e tt)))

      same : (q : List ℤ) → IsPlan φ q → true_in a ⊆ true_in q → c ≡ q
      same q p h =
          ext_get_or (pos 0) c q (f.long ∙ sym p.full.long)
          (λ j m. shown q (plan_above φ ok q p (true_in a) (true_in c) k.closed.closing h) j (f.each j (omega (arith, f.long))))

  -- the branching step
  module _ (a c : List ℤ) (i : ℕ) (k : Closes φ a c) (l : Lowest c i) where
    up : (q : List ℤ) → IsPlan φ q → true_in a ⊆ true_in q → true_in c ⊆ true_in q
    up q p h = plan_above φ ok q p (true_in a) (true_in c) k.closed.closing h

    abbrev first : ℤ
    first = tried_first φ (suc i)

    abbrev then : ℤ
    then = tried_then φ (suc i)

    side : (q : List ℤ) → IsPlan φ q → T (true_in q first) ⊎ T (true_in q then)
    side q p = one_of φ.variables q p.full first (omega (arith, first_of φ (suc i))) (omega (arith, first_of φ (suc i), low_n φ.variables c i k.shape l))

    -- a plan above a, with the literal x, is above c with x; and what is above that is above a
    module _ (x : ℤ) (e : nat_abs x ≡ suc i) where
      into : (q : List ℤ) → IsPlan φ q → true_in a ⊆ true_in q → T (true_in q x) → true_in (add c x) ⊆ true_in q
      into q p h t = add_below c (true_in q) x (omega (arith, l.inside)) (up q p h) t

      down : (p : List ℤ) → true_in (add c x) ⊆ true_in p → true_in a ⊆ true_in p
      down p h m t = h m (add_above c x (omega (arith, l.inside)) (other_open φ.variables c i k.shape l x e) m (k.closed.closing.given m t))

    first_right : (p : List ℤ) → FirstPlan φ (add c first) p → FirstPlan φ a p
    first_right p r = record { plan = r.plan; above = over; first = λ q s h. go q s h (side q s) }
      where
        over : true_in a ⊆ true_in p
        over = down first (first_of φ (suc i)) p r.above

        fixed : (q : List ℤ) → true_in c ⊆ true_in q → (j : ℕ) → j < i → get_or c j (pos 0) ≡ get_or q j (pos 0)
        fixed q h j m = agrees c q h j (k.shape.each j (omega (arith, k.shape.long, l.inside))) (l.below j m)

        go : (q : List ℤ) → IsPlan φ q → true_in a ⊆ true_in q → T (true_in q first) ⊎ T (true_in q then) → (p ≡ q) ⊎ Before φ p q
        go q s h (inl e) = r.first q s (into first (first_of φ (suc i)) q s h e)
        go q s h (inr e) = inr (record {
          at = i;
          same = λ j m. sym (fixed p (up p r.plan over) j m) ∙ fixed q (up q s h) j m;
          first = r.above first (add_has c first (omega (arith, first_of φ (suc i))) (omega (arith, first_of φ (suc i), l.inside)));
          then = e;
        })

    then_right : (o : Outcome) → Right φ (add c first) nothing → Right φ (add c then) o → Right φ a o
    then_right nothing n r = λ q s h. go q s h (side q s)
      where
        go : (q : List ℤ) → IsPlan φ q → true_in a ⊆ true_in q → T (true_in q first) ⊎ T (true_in q then) → ⊥
        go q s h (inl e) = n q s (into first (first_of φ (suc i)) q s h e)
        go q s h (inr e) = r q s (into then (then_of φ (suc i)) q s h e)
    then_right (found p) n r = record { plan = r.plan; above = down then (then_of φ (suc i)) p r.above; first = λ q s h. go q s h (side q s) }
      where
        go : (q : List ℤ) → IsPlan φ q → true_in a ⊆ true_in q → T (true_in q first) ⊎ T (true_in q then) → (p ≡ q) ⊎ Before φ p q
        go q s h (inl e) = absurd (n q s (into first (first_of φ (suc i)) q s h e))
        go q s h (inr e) = r.first q s (into then (then_of φ (suc i)) q s h e)

  -- the search's outcome is right
  pub tree_right : {a : List ℤ} {o : Outcome} {b : ℕ} → Tree φ a o b → Right φ a o
  tree_right (clashed {a = a} f) = λ q p h. no_plan φ ok q p (true_in a) f h
  tree_right (full k f) = full_right _ _ k f
  tree_right (first_found k l t) = first_right _ _ _ k l _ (tree_right t)
  tree_right (first_nothing {o = r} k l t u) = then_right _ _ _ k l r (tree_right t) (tree_right u)

-- the count
module _ (φ : PlanFile) where
  fewer : (a c : List ℤ) → Assigned φ.variables a → Closes φ a c → 2 ^ opens c ≤ 2 ^ opens a
  fewer a c s k = pow_mono (opens_sub φ.variables a c s k.shape k.closed.closing.given)

  -- each side has one open variable less
  module _ (c : List ℤ) (i : ℕ) (s : Assigned φ.variables c) (l : Lowest c i) where
    abbrev first_side : List ℤ
    first_side = add c (tried_first φ (suc i))

    abbrev then_side : List ℤ
    then_side = add c (tried_then φ (suc i))

    pub first_shape : Assigned φ.variables first_side
    first_shape = tried_shape φ.variables c i s l (tried_first φ (suc i)) (first_of φ (suc i))

    pub then_shape : Assigned φ.variables then_side
    then_shape = tried_shape φ.variables c i s l (tried_then φ (suc i)) (then_of φ (suc i))

    double : (x : ℤ) → nat_abs x ≡ suc i → 2 ^ opens c ≡ 2 * 2 ^ opens (add c x)
    double x e = ap (λ k. 2 ^ k) (sym (tried_opens φ.variables c i s l x e)) ∙ pow-succ' 2 (opens (add c x))

    one_below : {b : ℕ} → suc b ≤ 2 ^ opens first_side → suc (suc b) ≤ 2 ^ opens c
    one_below h = omega (arith, double (tried_first φ (suc i)) (first_of φ (suc i)), pow_pos (opens first_side))

    both_below : {b b' : ℕ} → suc b ≤ 2 ^ opens first_side → suc b' ≤ 2 ^ opens then_side → suc (suc (b + b')) ≤ 2 ^ opens c
    both_below h g = omega (arith, double (tried_first φ (suc i)) (first_of φ (suc i)), double (tried_then φ (suc i)) (then_of φ (suc i)))

  tree_below : {a : List ℤ} {o : Outcome} {b : ℕ} → Assigned φ.variables a → Tree φ a o b → suc b ≤ 2 ^ opens a
  tree_below {a} s (clashed f) = pow_pos (opens a)
  tree_below {a} s (full k f) = pow_pos (opens a)
  tree_below {a} s (first_found {c = c} {i = i} k l t) = omega (arith, fewer a c s k, one_below c i k.shape l (tree_below (first_shape c i k.shape l) t))
  tree_below {a} s (first_nothing {c = c} {i = i} k l t u) =
      omega (arith, fewer a c s k, both_below c i k.shape l (tree_below (first_shape c i k.shape l) t) (tree_below (then_shape c i k.shape l) u))

  -- with k variables open after the first closing the count is at most 2 to the k, less 1
  pub count_below : {a c : List ℤ} {o : Outcome} {b : ℕ} → Closes φ a c → Tree φ a o b → b ≤ 2 ^ opens c - 1
  count_below k (clashed f) = omega arith
  count_below k (full k' f) = omega arith
  count_below {a} {c} k (first_found {c = c'} {i = i} k' l t) =
      omega (arith, ap (λ z. 2 ^ opens z) (closes_unique φ a a c c' refl k k'), one_below c' i k'.shape l (tree_below (first_shape c' i k'.shape l) t))
  count_below {a} {c} k (first_nothing {c = c'} {i = i} k' l t u) =
      omega (
        arith,
        ap (λ z. 2 ^ opens z) (closes_unique φ a a c c' refl k k'),
        both_below c' i k'.shape l (tree_below (first_shape c' i k'.shape l) t) (tree_below (then_shape c' i k'.shape l) u),
      )

  pub one_search : {a : List ℤ} {o o' : Outcome} {b b' : ℕ} → Tree φ a o b → Tree φ a o' b' → (o ≡ o') × (b ≡ b')
  one_search t t' = tree_unique φ refl t t'
