-- Assignments and their sets of literals: one literal more, and how many variables are open.
-- Assumes nothing.
use mathlib.Core.Path.{◌≡◌, refl, sym, subst, ◌∙◌, ap, ap₂}
use mathlib.Core.Logic.{◌⊎◌, inl, inr, ◌≢◌}
use mathlib.Core.Bool.{Bool, true, false}
use mathlib.Core.List.{List, [], ◌∷◌}
use Prim.Native.Nat.{ℕ, zero, suc, ◌≤◌, ◌<◌}
use native.Mathlib.Decide.{ℕ_discrete}
use native.Mathlib.Omega.{arith}
use lib.ListN.{length, get_or, set, length-set, get_or-eq_default}
use lib.Seq.{ext_get_or, get_or-set_same, get_or-set_other}
use lib.IntN.{ℤ, pos, negsuc, neg_ℤ, nat_abs}
use lib.Dec.{T, ltb, ltb→lt, nltb→le, not_T}
use Rattle.plan.specs.Meaning.{is_on, is_off, value, Literals, ◌⊆◌, true_in, add}
use Rattle.plan.specs.Search.{Assigned, opens}
use Rattle.plan.proofs.Bools.{T?}

pub ltb? : (m n : ℕ) → (m < n) ⊎ (n ≤ m)
ltb? m n = go (T? (ltb m n))
  where
    go : T (ltb m n) ⊎ (T (ltb m n) → ⊥) → (m < n) ⊎ (n ≤ m)
    go (inl t) = inl (ltb→lt m n t)
    go (inr h) = inr (nltb→le m n (not_T (ltb m n) h))

-- values
abbrev pub IsValue : ℤ → Type 0
IsValue x = (x ≡ pos 1) ⊎ (x ≡ negsuc 0) ⊎ (x ≡ pos 0)

read : Bool → Bool → ℤ
read true b = pos 1
read false true = negsuc 0
read false false = pos 0

read_value : (x : ℤ) → IsValue x → x ≡ read (is_on x) (is_off x)
unfolding read
read_value x (inl e) = rw e
read_value x (inr (inl e)) = rw e
read_value x (inr (inr e)) = rw e

pub on_one : (x : ℤ) → T (is_on x) → x ≡ pos 1
on_one (pos zero) t = absurd t
on_one (pos (suc zero)) t = refl
on_one (pos (suc (suc n))) t = absurd t
on_one (negsuc n) t = absurd t

pub off_one : (x : ℤ) → T (is_off x) → x ≡ negsuc 0
off_one (pos n) t = absurd t
off_one (negsuc zero) t = refl
off_one (negsuc (suc n)) t = absurd t

-- two assignments with one set of literals are equal
pub same_set : (n : ℕ) (a c : List ℤ) → Assigned n a → Assigned n c → ((l : ℤ) → true_in a l ≡ true_in c l) → a ≡ c
unfolding true_in value add
same_set n a c x y h = ext_get_or (pos 0) a c (x.long ∙ sym y.long) each
  where
    each : (i : ℕ) → i < length a → get_or a i (pos 0) ≡ get_or c i (pos 0)
    each i k =
        read_value (get_or a i (pos 0)) (x.each i (omega (arith, x.long)))
        ∙ ap₂ read (h (pos (suc i))) (h (negsuc i))
        ∙ sym (read_value (get_or c i (pos 0)) (y.each i (omega (arith, x.long))))

-- a place set
At : List ℤ → ℕ → ℤ → ℕ → Type 0
At c i x j = ((j ≡ i) × (get_or (set c i x) j (pos 0) ≡ x)) ⊎ (get_or (set c i x) j (pos 0) ≡ get_or c j (pos 0))

module _ (c : List ℤ) (i : ℕ) (x : ℤ) (inside : i < length c) where
  at_set : (j : ℕ) → At c i x j
  unfolding At
  at_set j = go (ℕ_discrete j i)
    where
      go : Dec (j ≡ i) → ((j ≡ i) × (get_or (set c i x) j (pos 0) ≡ x)) ⊎ (get_or (set c i x) j (pos 0) ≡ get_or c j (pos 0))
      go (yes e) = inl (e, rw e (get_or-set_same c i x (pos 0) inside))
      go (no n) = inr (get_or-set_other c i j x (pos 0) n)

  set_below : (R : Literals) → (T (is_on x) → T (R (pos (suc i)))) → (T (is_off x) → T (R (negsuc i))) → true_in c ⊆ R → true_in (set c i x) ⊆ R
  unfolding At true_in value add
  set_below R p n h (pos zero) t = absurd t
  set_below R p n h (pos (suc j)) t = go (at_set j)
    where
      go : At c i x j → T (R (pos (suc j)))
      go (inl q) = subst (λ k. T (R (pos (suc k)))) (sym q.0) (p (subst (λ z. T (is_on z)) q.1 t))
      go (inr q) = h (pos (suc j)) (subst (λ z. T (is_on z)) q t)
  set_below R p n h (negsuc j) t = go (at_set j)
    where
      go : At c i x j → T (R (negsuc j))
      go (inl q) = subst (λ k. T (R (negsuc k))) (sym q.0) (n (subst (λ z. T (is_off z)) q.1 t))
      go (inr q) = h (negsuc j) (subst (λ z. T (is_off z)) q t)

  set_above : (T (is_on (get_or c i (pos 0))) → T (is_on x)) → (T (is_off (get_or c i (pos 0))) → T (is_off x)) → true_in c ⊆ true_in (set c i x)
  unfolding At true_in value add
  set_above p n (pos zero) t = absurd t
  set_above p n (pos (suc j)) t = go (at_set j)
    where
      go : At c i x j → T (is_on (get_or (set c i x) j (pos 0)))
      go (inl q) = subst (λ z. T (is_on z)) (sym q.1) (p (subst (λ k. T (is_on (get_or c k (pos 0)))) q.0 t))
      go (inr q) = subst (λ z. T (is_on z)) (sym q) t
  set_above p n (negsuc j) t = go (at_set j)
    where
      go : At c i x j → T (is_off (get_or (set c i x) j (pos 0)))
      go (inl q) = subst (λ z. T (is_off z)) (sym q.1) (n (subst (λ k. T (is_off (get_or c k (pos 0)))) q.0 t))
      go (inr q) = subst (λ z. T (is_off z)) (sym q) t

  set_shape : (n : ℕ) → Assigned n c → IsValue x → Assigned n (set c i x)
  unfolding At
  set_shape n s v = record { long = length-set c i x ∙ s.long; each = λ j k. go j k (at_set j) }
    where
      go : (j : ℕ) → j < n → At c i x j → IsValue (get_or (set c i x) j (pos 0))
      go j k (inl q) = subst (λ z. IsValue z) (sym q.1) v
      go j k (inr q) = subst (λ z. IsValue z) (sym q) (s.each j k)

-- one literal more
pub add_below : (a : List ℤ) (R : Literals) (l : ℤ) → nat_abs l ≤ length a → true_in a ⊆ R → T (R l) → true_in (add a l) ⊆ R
unfolding true_in value add
add_below a R (pos zero) k h t = h
add_below a R (pos (suc i)) k h t = set_below a i (pos 1) k R (λ u. t) (λ u. absurd u) h
add_below a R (negsuc i) k h t = set_below a i (negsuc 0) k R (λ u. absurd u) (λ u. t) h

pub add_above : (a : List ℤ) (l : ℤ) → nat_abs l ≤ length a → (T (true_in a (neg_ℤ l)) → ⊥) → true_in a ⊆ true_in (add a l)
unfolding true_in value add
add_above a (pos zero) k n = λ m t. t
add_above a (pos (suc i)) k n = set_above a i (pos 1) k (λ t. tt) (λ t. absurd (n t))
add_above a (negsuc i) k n = set_above a i (negsuc 0) k (λ t. absurd (n t)) (λ t. tt)

pub add_has : (a : List ℤ) (l : ℤ) → zero < nat_abs l → nat_abs l ≤ length a → T (true_in (add a l) l)
unfolding true_in value add
add_has a (pos zero) p k = absurd (omega arith)
add_has a (pos (suc i)) p k = rw (get_or-set_same a i (pos 1) (pos 0) k) tt
add_has a (negsuc i) p k = rw (get_or-set_same a i (negsuc 0) (pos 0) k) tt

pub add_shape : (n : ℕ) (a : List ℤ) (l : ℤ) → nat_abs l ≤ length a → Assigned n a → Assigned n (add a l)
unfolding true_in value add
add_shape n a (pos zero) k s = s
add_shape n a (pos (suc i)) k s = set_shape a i (pos 1) k n s (inl refl)
add_shape n a (negsuc i) k s = set_shape a i (negsuc 0) k n s (inr (inl refl))

-- counting what is open
opens_mono : (a c : List ℤ) → length a ≡ length c → ((j : ℕ) → get_or c j (pos 0) ≡ pos 0 → get_or a j (pos 0) ≡ pos 0) → opens c ≤ opens a
unfolding opens
opens_mono [] [] e h = omega arith
opens_mono [] (y ∷ c) e h = absurd (omega arith)
opens_mono (x ∷ a) [] e h = absurd (omega arith)
opens_mono (pos zero ∷ a) (pos zero ∷ c) e h = omega (arith, opens_mono a c (omega arith) (λ j. h (suc j)))
opens_mono (pos zero ∷ a) (pos (suc n) ∷ c) e h = omega (arith, opens_mono a c (omega arith) (λ j. h (suc j)))
opens_mono (pos zero ∷ a) (negsuc n ∷ c) e h = omega (arith, opens_mono a c (omega arith) (λ j. h (suc j)))
opens_mono (pos (suc m) ∷ a) (pos zero ∷ c) e h = absurd (omega (arith, ap nat_abs (h zero refl)))
opens_mono (pos (suc m) ∷ a) (pos (suc n) ∷ c) e h = opens_mono a c (omega arith) (λ j. h (suc j))
opens_mono (pos (suc m) ∷ a) (negsuc n ∷ c) e h = opens_mono a c (omega arith) (λ j. h (suc j))
opens_mono (negsuc m ∷ a) (pos zero ∷ c) e h = absurd (omega (arith, ap nat_abs (h zero refl)))
opens_mono (negsuc m ∷ a) (pos (suc n) ∷ c) e h = opens_mono a c (omega arith) (λ j. h (suc j))
opens_mono (negsuc m ∷ a) (negsuc n ∷ c) e h = opens_mono a c (omega arith) (λ j. h (suc j))

pub opens_set : (c : List ℤ) (i : ℕ) (x : ℤ) → i < length c → get_or c i (pos 0) ≡ pos 0 → x ≢ pos 0 → suc (opens (set c i x)) ≡ opens c
unfolding opens
opens_set [] i x h e n = absurd (omega arith)
opens_set (pos zero ∷ c) zero (pos zero) h e n = absurd (n refl)
opens_set (pos zero ∷ c) zero (pos (suc m)) h e n = refl
opens_set (pos zero ∷ c) zero (negsuc m) h e n = refl
opens_set (pos (suc k) ∷ c) zero x h e n = absurd (omega (arith, ap nat_abs e))
opens_set (negsuc k ∷ c) zero x h e n = absurd (omega (arith, ap nat_abs e))
opens_set (pos zero ∷ c) (suc i) x h e n = ap suc (opens_set c i x (omega arith) e n)
opens_set (pos (suc k) ∷ c) (suc i) x h e n = opens_set c i x (omega arith) e n
opens_set (negsuc k ∷ c) (suc i) x h e n = opens_set c i x (omega arith) e n

pub opens_sub : (n : ℕ) (a c : List ℤ) → Assigned n a → Assigned n c → true_in a ⊆ true_in c → opens c ≤ opens a
unfolding true_in value add
opens_sub n a c s r h = opens_mono a c (s.long ∙ sym r.long) (λ j e. go j e (ltb? j n))
  where
    known : (j : ℕ) → get_or c j (pos 0) ≡ pos 0 → IsValue (get_or a j (pos 0)) → get_or a j (pos 0) ≡ pos 0
    known j e (inl q) = absurd (subst (λ z. T (is_on z)) e (h (pos (suc j)) (rw q tt)))
    known j e (inr (inl q)) = absurd (subst (λ z. T (is_off z)) e (h (negsuc j) (rw q tt)))
    known j e (inr (inr q)) = q

    go : (j : ℕ) → get_or c j (pos 0) ≡ pos 0 → (j < n) ⊎ (n ≤ j) → get_or a j (pos 0) ≡ pos 0
    go j e (inl k) = known j e (s.each j k)
    go j e (inr k) = get_or-eq_default a (pos 0) (omega (arith, s.long))

one≢zero : pos 1 ≢ pos 0
one≢zero e = subst (λ z. T (is_on z)) e tt

neg≢zero : negsuc 0 ≢ pos 0
neg≢zero e = subst (λ z. T (is_off z)) e tt

still_open : (x : ℤ) → IsValue x → (T (is_on x) → ⊥) → (T (is_off x) → ⊥) → x ≡ pos 0
still_open x (inl e) n m = absurd (n (rw e tt))
still_open x (inr (inl e)) n m = absurd (m (rw e tt))
still_open x (inr (inr e)) n m = e

pub add_opens : (n : ℕ) (a : List ℤ) (l : ℤ) → Assigned n a → zero < nat_abs l → nat_abs l ≤ n
    → (T (true_in a l) → ⊥) → (T (true_in a (neg_ℤ l)) → ⊥) → suc (opens (add a l)) ≡ opens a
unfolding true_in value add
add_opens n a (pos zero) s p k x y = absurd (omega arith)
add_opens n a (pos (suc i)) s p k x y = opens_set a i (pos 1) (omega (arith, s.long)) (still_open (get_or a i (pos 0)) (s.each i k) x y) one≢zero
add_opens n a (negsuc i) s p k x y = opens_set a i (negsuc 0) (omega (arith, s.long)) (still_open (get_or a i (pos 0)) (s.each i k) y x) neg≢zero
