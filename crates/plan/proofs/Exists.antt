-- Every assignment has its closing and its search tree: the computed ones are right.
-- Assumes nothing.
use mathlib.Core.Path.{◌≡◌, refl, sym, subst, ap}
use mathlib.Core.Logic.{◌⊎◌, inl, inr, ◌≢◌, ◌↔◌}
use mathlib.Core.Bool.{Bool, true, false, cond, ◌||◌}
use mathlib.Core.List.Memᴰ
use mathlib.Core.List.{List, [], ◌∷◌, Memᴰ}
use mathlib.Core.Option.{Option, none, some}
use Prim.Native.Nat.{ℕ, zero, suc, ◌≤◌, ◌<◌}
use native.Mathlib.Omega.{arith}
use lib.ListN.{length, get_or}
use lib.IntN.{ℤ, pos, negsuc, neg_ℤ, nat_abs, ℤ_discrete}
use lib.Dec.{T, eqb→eq, eqb_refl}
use Rattle.plan.specs.Meaning.{Atom, PlanFile, on, off, literal_of, Literals, ◌⊆◌, true_in, add, Full}
use Rattle.plan.specs.Ranged.{Ranged}
use Rattle.plan.specs.Closing.{Settles, Gives, unit, settled, Obeys, Clash, both, all_false, Clashes}
use Rattle.plan.specs.Search.{Assigned, opens, Closes, CloseIs, Lowest, Outcome, nothing, found, Tree, clashed, full, first_found, first_nothing}
use Rattle.plan.proofs.Bools.{any_of, each, those, or_cases, or_left, or_right, any_some, some_any, all_each, each_all}
use Rattle.plan.proofs.Closing.{settles?, settles_iff, gives_mono, clash_mono, never_both}
use Rattle.plan.proofs.Add.{IsValue, add_below, add_above, add_shape, add_opens, opens_sub}
use Rattle.plan.proofs.Search.{first_shape, then_shape, tried_opens}
use Rattle.plan.proofs.Compute.{eqℤ, by_clause, by_verdict, by_atom, gives, first_new, are_all_false, meet, close_step, close, Counted, later, first_open, after_off, at_open, after_close, search}

-- lists
pub eqℤ→eq : (m l : ℤ) → T (eqℤ m l) → m ≡ l
eqℤ→eq (pos m) (pos n) t = ap pos (eqb→eq m n t)
eqℤ→eq (pos m) (negsuc n) t = absurd t
eqℤ→eq (negsuc m) (pos n) t = absurd t
eqℤ→eq (negsuc m) (negsuc n) t = ap negsuc (eqb→eq m n t)

pub eqℤ_refl : (m : ℤ) → T (eqℤ m m)
eqℤ_refl (pos m) = eqb_refl m
eqℤ_refl (negsuc m) = eqb_refl m

module _ {A : Type 0} where
  keep_tail : {x : A} (y : A) {zs : List A} (b : Bool) → Memᴰ x zs → Memᴰ x (cond b (y ∷ zs) zs)
  keep_tail y true m = Memᴰ.tail m
  keep_tail y false m = m

  keep_head : {x y : A} (zs : List A) (b : Bool) → T b → x ≡ y → Memᴰ x (cond b (y ∷ zs) zs)
  keep_head zs true t e = Memᴰ.head e
  keep_head zs false t e = absurd t

  keep_out : {x y : A} {zs : List A} (b : Bool) → Memᴰ x (cond b (y ∷ zs) zs) → ((x ≡ y) × T b) ⊎ Memᴰ x zs
  keep_out {x} {y} {zs} true m = go (Memᴰ.cases_cons m)
    where
      go : (x ≡ y) ⊎ Memᴰ x zs → ((x ≡ y) × T true) ⊎ Memᴰ x zs
      go (inl e) = inl (e, tt)
      go (inr k) = inr k
  keep_out false m = inr m

  pub those_in : (f : A → Bool) (xs : List A) (x : A) → Memᴰ x xs → T (f x) → Memᴰ x (those f xs)
  those_in f [] x m t = absurd (Memᴰ.not-nil m)
  those_in f (y ∷ ys) x m t = go (those_in f ys x) (Memᴰ.cases_cons m)
    where
      go : (Memᴰ x ys → T (f x) → Memᴰ x (those f ys)) → (x ≡ y) ⊎ Memᴰ x ys → Memᴰ x (those f (y ∷ ys))
      go r (inl e) = keep_head (those f ys) (f y) (subst (λ z. T (f z)) e t) e
      go r (inr k) = keep_tail y (f y) (r k t)

  pub those_out : (f : A → Bool) (xs : List A) (x : A) → Memᴰ x (those f xs) → Memᴰ x xs × T (f x)
  those_out f [] x m = absurd (Memᴰ.not-nil m)
  those_out f (y ∷ ys) x m = go (those_out f ys x) (keep_out (f y) m)
    where
      go : (Memᴰ x (those f ys) → Memᴰ x ys × T (f x)) → ((x ≡ y) × T (f y)) ⊎ Memᴰ x (those f ys) → Memᴰ x (y ∷ ys) × T (f x)
      go r (inl q) = (Memᴰ.head q.0, subst (λ z. T (f z)) (sym q.0) q.1)
      go r (inr k) = let q = r k in (Memᴰ.tail q.0, q.1)

  pub each_in : {B : Type 0} (f : A → List B) (xs : List A) (x : A) (y : B) → Memᴰ x xs → Memᴰ y (f x) → Memᴰ y (each f xs)
  each_in f [] x y m k = absurd (Memᴰ.not-nil m)
  each_in f (z ∷ zs) x y m k = go (each_in f zs x y) (Memᴰ.cases_cons m)
    where
      go : (Memᴰ x zs → Memᴰ y (f x) → Memᴰ y (each f zs)) → (x ≡ z) ⊎ Memᴰ x zs → Memᴰ y (each f (z ∷ zs))
      go r (inl e) = Memᴰ.append_left (each f zs) (subst (λ w. Memᴰ y (f w)) e k)
      go r (inr h) = Memᴰ.append_right (f z) (r h k)

  pub each_out : {B : Type 0} (f : A → List B) (xs : List A) (y : B) → Memᴰ y (each f xs) → (x : A) × Memᴰ x xs × Memᴰ y (f x)
  each_out f [] y m = absurd (Memᴰ.not-nil m)
  each_out {B} f (z ∷ zs) y m = go (each_out f zs y) (Memᴰ.append_cases (f z) m)
    where
      go : (Memᴰ y (each f zs) → (x : A) × Memᴰ x zs × Memᴰ y (f x)) → Memᴰ y (f z) ⊎ Memᴰ y (each f zs)
          → (x : A) × Memᴰ x (z ∷ zs) × Memᴰ y (f x)
      go r (inl h) = (z, Memᴰ.head refl, h)
      go r (inr h) = let q = r h in (q.0, Memᴰ.tail q.1, q.2)

-- the computed literals are those that the rules give
module _ (φ : PlanFile) (ok : Ranged φ) (a : List ℤ) where
  settled_iff : (A : Atom) → Memᴰ A φ.atoms → (b : Bool) → T (settles? φ (true_in a) A b) ↔ Settles φ (true_in a) A b
  settled_iff A m b = settles_iff φ ok (true_in a) A (ok.atom A m).from_in b

  by_atom_out : (A : Atom) → Memᴰ A φ.atoms → (l : ℤ) → Memᴰ l (by_atom φ a A) → Gives φ (true_in a) l
  by_atom_out A m l k = let q = each_out (by_verdict φ a A) (true ∷ false ∷ []) l k in go q.0 (settles? φ (true_in a) A q.0) (settled_iff A m q.0).0 q.2
    where
      go : (b t : Bool) → (T t → Settles φ (true_in a) A b) → Memᴰ l (cond t (literal_of b A.variable ∷ []) []) → Gives φ (true_in a) l
      go b true g h = subst (λ z. Gives φ (true_in a) z) (sym (Memᴰ.eq_of_singleton h)) (settled A m b (g tt))
      go b false g h = absurd (Memᴰ.not-nil h)

  by_clause_out : (C : List ℤ) → Memᴰ C φ.clauses → (l : ℤ) → Memᴰ l (by_clause a C) → Gives φ (true_in a) l
  by_clause_out C m l k = let q = those_out _ C l k in unit C m l q.0 (λ x i n. go x n (or_cases (eqℤ x l) (true_in a (neg_ℤ x)) (all_each _ C q.1 x i)))
    where
      go : (x : ℤ) → x ≢ l → T (eqℤ x l) ⊎ T (true_in a (neg_ℤ x)) → T (true_in a (neg_ℤ x))
      go x n (inl t) = absurd (n (eqℤ→eq x l t))
      go x n (inr t) = t

  gives_out : (l : ℤ) → Memᴰ l (gives φ a) → Gives φ (true_in a) l
  gives_out l m = go (Memᴰ.append_cases (each (by_clause a) φ.clauses) m)
    where
      go : Memᴰ l (each (by_clause a) φ.clauses) ⊎ Memᴰ l (each (by_atom φ a) φ.atoms) → Gives φ (true_in a) l
      go (inl h) = let q = each_out (by_clause a) φ.clauses l h in by_clause_out q.0 q.1 l q.2
      go (inr h) = let q = each_out (by_atom φ a) φ.atoms l h in by_atom_out q.0 q.1 l q.2

  gives_in : (l : ℤ) → Gives φ (true_in a) l → Memᴰ l (gives φ a)
  gives_in l (unit C m z i others) =
      Memᴰ.append_left (each (by_atom φ a) φ.atoms)
      (each_in (by_clause a) φ.clauses C l m (those_in _ C l i (each_all _ C (λ x k. go x k (ℤ_discrete x l)))))
    where
      go : (x : ℤ) → Memᴰ x C → Dec (x ≡ l) → T (eqℤ x l || true_in a (neg_ℤ x))
      go x k (yes e) = or_left (eqℤ x l) _ (subst (λ w. T (eqℤ x w)) e (eqℤ_refl x))
      go x k (no n) = or_right (eqℤ x l) _ (others x k n)
  gives_in l (settled A m b x) =
      Memᴰ.append_right (each (by_clause a) φ.clauses)
      (each_in (by_atom φ a) φ.atoms A (literal_of b A.variable) m
      (each_in (by_verdict φ a A) (true ∷ false ∷ []) b (literal_of b A.variable) (either b) (go (settles? φ (true_in a) A b) ((settled_iff A m b).1 x))))
    where
      either : (c : Bool) → Memᴰ c (true ∷ false ∷ [])
      either true = Memᴰ.head refl
      either false = Memᴰ.tail (Memᴰ.head refl)

      go : (t : Bool) → T t → Memᴰ (literal_of b A.variable) (cond t (literal_of b A.variable ∷ []) [])
      go true t = Memᴰ.head refl
      go false t = absurd t

-- the first literal that is new, with what it says
data New (a : List ℤ) (ls : List ℤ) : Option ℤ → Type 0 where
  all_in : ((l : ℤ) → Memᴰ l ls → T (true_in a l)) → New a ls none
  new : (l : ℤ) → Memᴰ l ls → (T (true_in a l) → ⊥) → New a ls (some l)

new_view : (a ls : List ℤ) → New a ls (first_new a ls)
new_view a [] = all_in (λ l m. absurd (Memᴰ.not-nil m))
new_view a (x ∷ xs) = go (true_in a x) (λ t. t) (λ h t. h t) (first_new a xs) (new_view a xs)
  where
    more : {o : Option ℤ} → T (true_in a x) → New a xs o → New a (x ∷ xs) o
    more t (all_in h) = all_in (λ l m. pick l (Memᴰ.cases_cons m))
      where
        pick : (l : ℤ) → (l ≡ x) ⊎ Memᴰ l xs → T (true_in a l)
        pick l (inl e) = subst (λ z. T (true_in a z)) (sym e) t
        pick l (inr k) = h l k
    more t (new l m n) = new l (Memᴰ.tail m) n

    go : (b : Bool) → (T b → T (true_in a x)) → ((T b → ⊥) → T (true_in a x) → ⊥) → (o : Option ℤ) → New a xs o → New a (x ∷ xs) (cond b o (some x))
    go true y n o v = more (y tt) v
    go false y n o v = new x (Memᴰ.head refl) (n (λ t. t))

pub literal_size : (b : Bool) (v : ℕ) → nat_abs (literal_of b v) ≡ v
literal_size true v = refl
literal_size false zero = refl
literal_size false (suc i) = refl

-- one application of a rule: the laws that a closing loop uses
module _ (φ : PlanFile) (ok : Ranged φ) where
  pub gives_range : (S : Literals) (l : ℤ) → Gives φ S l → (zero < nat_abs l) × (nat_abs l ≤ φ.variables)
  gives_range S l (unit C m z i others) = ((ok.literal C m z i).low, (ok.literal C m z i).high)
  gives_range S l (settled A m b x) = (omega (arith, literal_size b A.variable, (ok.atom A m).low), omega (arith, literal_size b A.variable, (ok.atom A m).high))

  -- a set that contains a and obeys has what a gives
  given_in : (a R : Literals) (l : ℤ) → Gives φ a l → a ⊆ R → Obeys φ R → T (R l)
  given_in a R l g h o = o l (gives_mono φ ok a R h l g)

  sign : (R : Literals) (l : ℤ) → T (R l) → T (R (neg_ℤ l)) → Clash φ R
  sign R (pos v) p q = both v p q
  sign R (negsuc i) p q = both (suc i) q p

  -- a literal that is given and whose opposite is there: a clash
  pub step_clash : (a : Literals) (l : ℤ) → Gives φ a l → T (a (neg_ℤ l)) → Clashes φ a
  step_clash a l g t = λ R h o. sign R l (given_in a R l g h o) (h (neg_ℤ l) t)

  -- a literal that is given may be added: closing the result is closing
  pub step_add : (a : List ℤ) (l : ℤ) → length a ≡ φ.variables → Gives φ (true_in a) l → (T (true_in a (neg_ℤ l)) → ⊥)
      → (o : Outcome) → CloseIs φ (add a l) o → CloseIs φ a o
  step_add a l n g f nothing r = λ R h o. r R (add_below a R l (omega (arith, gives_range (true_in a) l g)) h (given_in (true_in a) R l g h o)) o
  step_add a l n g f (found c) r = record {
    shape = r.shape;
    closed = record {
      closing = record {
        given = λ m t. r.closed.closing.given m (add_above a l (omega (arith, gives_range (true_in a) l g)) f m t);
        obeys = r.closed.closing.obeys;
        least = λ R h o. r.closed.closing.least R (add_below a R l (omega (arith, gives_range (true_in a) l g)) h (given_in (true_in a) R l g h o)) o;
      };
      free = r.closed.free;
    };
  }

  -- where all that is given is there, closing is done
  pub step_done : (a : List ℤ) → Assigned φ.variables a → Obeys φ (true_in a)
      → ((C : List ℤ) → Memᴰ C φ.clauses → ((l : ℤ) → Memᴰ l C → T (true_in a (neg_ℤ l))) → ⊥) → Closes φ a a
  step_done a s o n = record {
    shape = s;
    closed = record { closing = record { given = λ l t. t; obeys = o; least = λ R h p. h }; free = free };
  }
    where
      free : Clash φ (true_in a) → ⊥
      free (both v x y) = never_both a (on v) x y
      free (all_false C m h) = n C m h

  -- the computed closing is right
  close_step_right : (a : List ℤ) → Assigned φ.variables a → (r : ℤ → Outcome)
      → ((l : ℤ) → Gives φ (true_in a) l → (T (true_in a l) → ⊥) → (T (true_in a (neg_ℤ l)) → ⊥) → CloseIs φ (add a l) (r l))
      → {o : Option ℤ} → New a (gives φ a) o → CloseIs φ a (close_step φ a r o)
  close_step_right a s r h (all_in k) = go (any_of (are_all_false a) φ.clauses) (λ t. any_some (are_all_false a) φ.clauses t) (λ n C m f. n (some_any (are_all_false a) φ.clauses C m (each_all _ C f)))
    where
      obeys : Obeys φ (true_in a)
      obeys l g = k l (gives_in φ ok a l g)

      go : (b : Bool) → (T b → (C : List ℤ) × Memᴰ C φ.clauses × T (are_all_false a C))
          → ((T b → ⊥) → (C : List ℤ) → Memᴰ C φ.clauses → ((l : ℤ) → Memᴰ l C → T (true_in a (neg_ℤ l))) → ⊥)
          → CloseIs φ a (cond b nothing (found a))
      go true y n = let q = y tt in λ R h o. clash_mono φ (true_in a) R h (all_false q.0 q.1 (all_each _ q.0 q.2))
      go false y n = step_done a s obeys (n (λ t. t))
  close_step_right a s r h (new l m n) = go (true_in a (neg_ℤ l)) (λ t. t) (λ f t. f t)
    where
      g : Gives φ (true_in a) l
      g = gives_out φ ok a l m

      go : (b : Bool) → (T b → T (true_in a (neg_ℤ l))) → ((T b → ⊥) → T (true_in a (neg_ℤ l)) → ⊥) → CloseIs φ a (meet r l b)
      go true y f = step_clash (true_in a) l g (y tt)
      go false y f = step_add a l s.long g (f (λ t. t)) (r l) (h l g n (f (λ t. t)))

  pub close_right : (k : ℕ) (a : List ℤ) → Assigned φ.variables a → opens a < k → CloseIs φ a (close k φ a)
  unfolding close
  close_right zero a s e = absurd (omega arith)
  close_right (suc k) a s e =
      close_step_right a s (λ l. close k φ (add a l)) (λ l g n f. again l (gives_range (true_in a) l g) n f (close_right k (add a l))) (new_view a (gives φ a))
    where
      again : (l : ℤ) → (zero < nat_abs l) × (nat_abs l ≤ φ.variables) → (T (true_in a l) → ⊥) → (T (true_in a (neg_ℤ l)) → ⊥)
          → (Assigned φ.variables (add a l) → opens (add a l) < k → CloseIs φ (add a l) (close k φ (add a l))) → CloseIs φ (add a l) (close k φ (add a l))
      again l p n f r = r (add_shape φ.variables a l (omega (arith, s.long)) s) (omega (arith, add_opens φ.variables a l s p.0 p.1 n f))

-- the lowest open variable
data Low (c : List ℤ) : Option ℕ → Type 0 where
  no_open : ((i : ℕ) → i < length c → get_or c i (pos 0) ≢ pos 0) → Low c none
  low : (i : ℕ) → Lowest c i → Low c (some i)

low_later : (x : ℤ) (c : List ℤ) → x ≢ pos 0 → {o : Option ℕ} → Low c o → Low (x ∷ c) (later o)
low_later x c n (no_open h) = no_open each
  where
    each : (i : ℕ) → i < length (x ∷ c) → get_or (x ∷ c) i (pos 0) ≢ pos 0
    each zero k = n
    each (suc i) k = h i (omega arith)
low_later x c n (low i l) = low (suc i) (record { inside = omega (arith, l.inside); is_open = l.is_open; below = below })
  where
    below : (j : ℕ) → j < suc i → get_or (x ∷ c) j (pos 0) ≢ pos 0
    below zero k = n
    below (suc j) k = l.below j (omega arith)

low_view : (c : List ℤ) → Low c (first_open c)
low_view [] = no_open (λ i k. absurd (omega arith))
low_view (pos zero ∷ c) = low zero (record { inside = omega arith; is_open = refl; below = λ j k. absurd (omega arith) })
low_view (pos (suc n) ∷ c) = low_later (pos (suc n)) c (λ e. omega (arith, ap nat_abs e)) (low_view c)
low_view (negsuc n ∷ c) = low_later (negsuc n) c (λ e. omega (arith, ap nat_abs e)) (low_view c)

pub opens_le : (c : List ℤ) → opens c ≤ length c
unfolding opens
opens_le [] = omega arith
opens_le (pos zero ∷ c) = omega (arith, opens_le c)
opens_le (pos (suc n) ∷ c) = omega (arith, opens_le c)
opens_le (negsuc n ∷ c) = omega (arith, opens_le c)

shut : (n : ℕ) (c : List ℤ) → Assigned n c → ((i : ℕ) → i < length c → get_or c i (pos 0) ≢ pos 0) → Full n c
shut n c s h = record { long = s.long; each = λ i k. go i k (s.each i k) }
  where
    go : (i : ℕ) → i < n → IsValue (get_or c i (pos 0)) → (get_or c i (pos 0) ≡ pos 1) ⊎ (get_or c i (pos 0) ≡ negsuc 0)
    go i k (inl e) = inl e
    go i k (inr (inl e)) = inr e
    go i k (inr (inr e)) = absurd (h i (omega (arith, s.long)) e)

module _ (φ : PlanFile) (ok : Ranged φ) where
  -- the closing of every assignment, computed
  pub closing_is : (a : List ℤ) → Assigned φ.variables a → CloseIs φ a (close (suc φ.variables) φ a)
  closing_is a s = close_right φ ok (suc φ.variables) a s (omega (arith, opens_le a, s.long))

  module _ (a : List ℤ) (s : Assigned φ.variables a) where
    after_off_tree : (c : List ℤ) (k : Closes φ a c) (i : ℕ) (l : Lowest c i) (r : ℤ → Counted)
        → Tree φ (add c (on (suc i))) (r (on (suc i))).outcome (r (on (suc i))).count
        → (o : Outcome) (b : ℕ) → Tree φ (add c (off (suc i))) o b
        → Tree φ a (after_off r i o b).outcome (after_off r i o b).count
    after_off_tree c k i l r u nothing b t = first_nothing k l t u
    after_off_tree c k i l r u (found p) b t = first_found k l t

    at_open_tree : (c : List ℤ) (k : Closes φ a c) (r : ℤ → Counted)
        → ((l : ℤ) → Assigned φ.variables (add c l) → opens (add c l) < opens c → Tree φ (add c l) (r l).outcome (r l).count)
        → {o : Option ℕ} → Low c o → Tree φ a (at_open r c o).outcome (at_open r c o).count
    at_open_tree c k r h (no_open n) = full k (shut φ.variables c k.shape n)
    at_open_tree c k r h (low i l) =
        after_off_tree c k i l r
        (h (on (suc i)) (then_shape φ c i k.shape l) (omega (arith, tried_opens φ.variables c i k.shape l (on (suc i)) refl)))
        (r (off (suc i))).outcome (r (off (suc i))).count
        (h (off (suc i)) (first_shape φ c i k.shape l) (omega (arith, tried_opens φ.variables c i k.shape l (off (suc i)) refl)))

    after_close_tree : (r : List ℤ → ℤ → Counted)
        → ((c : List ℤ) (l : ℤ) → Assigned φ.variables (add c l) → opens (add c l) < opens a → Tree φ (add c l) (r c l).outcome (r c l).count)
        → (o : Outcome) → CloseIs φ a o → Tree φ a (after_close r o).outcome (after_close r o).count
    after_close_tree r h nothing f = clashed f
    after_close_tree r h (found c) k =
        at_open_tree c k (r c) (λ l s' m. h c l s' (omega (arith, opens_sub φ.variables a c s k.shape k.closed.closing.given))) (low_view c)

  search_tree : (k : ℕ) (a : List ℤ) → Assigned φ.variables a → opens a < k → Tree φ a (search k φ a).outcome (search k φ a).count
  unfolding search
  search_tree zero a s h = absurd (omega arith)
  search_tree (suc k) a s h =
      after_close_tree a s (λ c l. search k φ (add c l)) (λ c l s' m. search_tree k (add c l) s' (omega arith)) (close (suc φ.variables) φ a) (closing_is a s)

  -- every assignment has its search tree, computed
  pub searching_is : (a : List ℤ) → Assigned φ.variables a → Tree φ a (search (suc φ.variables) φ a).outcome (search (suc φ.variables) φ a).count
  searching_is a s = search_tree (suc φ.variables) a s (omega (arith, opens_le a, s.long))
