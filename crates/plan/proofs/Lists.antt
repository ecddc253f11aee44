-- Numbers and lists: one of two orders, members by place, the smallest number that passes a test.
-- Assumes nothing.
use mathlib.Core.Path.{◌≡◌, refl, subst}
use mathlib.Core.Logic.{◌⊎◌, inl, inr}
use mathlib.Core.Bool.{Bool}
use mathlib.Core.List.Memᴰ
use mathlib.Core.List.{List, [], ◌∷◌, Memᴰ}
use Prim.Native.Nat.{ℕ, zero, suc, ◌≤◌, ◌<◌}
use native.Mathlib.Omega.{arith}
use lib.ListN.{length, get_or}
use lib.Dec.{T, leb, leb→le, nleb→lt, not_T}
use Rattle.plan.proofs.Bools.{T?}

pub le_or_lt : (m n : ℕ) → (m ≤ n) ⊎ (n < m)
le_or_lt m n = go (T? (leb m n))
  where
    go : T (leb m n) ⊎ (T (leb m n) → ⊥) → (m ≤ n) ⊎ (n < m)
    go (inl t) = inl (leb→le m n t)
    go (inr h) = inr (nleb→lt m n (not_T (leb m n) h))

-- a member by its place
pub mem_at : {A : Type 0} (xs : List A) (d : A) (k : ℕ) → k < length xs → Memᴰ (get_or xs k d) xs
mem_at [] d k h = absurd (omega arith)
mem_at (x ∷ xs) d zero h = Memᴰ.head refl
mem_at (x ∷ xs) d (suc k) h = Memᴰ.tail (mem_at xs d k (omega arith))

pub at_mem : {A : Type 0} (xs : List A) (d x : A) → Memᴰ x xs → (k : ℕ) × (k < length xs) × (x ≡ get_or xs k d)
at_mem [] d x m = absurd (Memᴰ.not-nil m)
at_mem (y ∷ xs) d x m = go (at_mem xs d x) (Memᴰ.cases_cons m)
  where
    go : (Memᴰ x xs → (k : ℕ) × (k < length xs) × (x ≡ get_or xs k d)) → (x ≡ y) ⊎ Memᴰ x xs → (k : ℕ) × (k < length (y ∷ xs)) × (x ≡ get_or (y ∷ xs) k d)
    go r (inl e) = (zero, omega arith, e)
    go r (inr i) = let q = r i in (suc q.0, omega (arith, q.1), q.2)

-- the smallest number below n that passes the test, or none
pub smallest_below : (f : ℕ → Bool) (n : ℕ) → ((k : ℕ) × (k < n) × T (f k) × ((j : ℕ) → j < k → T (f j) → ⊥)) ⊎ ((j : ℕ) → j < n → T (f j) → ⊥)
smallest_below f zero = inr (λ j h t. omega arith)
smallest_below f (suc n) = go (smallest_below f n) (T? (f n))
  where
    go : ((k : ℕ) × (k < n) × T (f k) × ((j : ℕ) → j < k → T (f j) → ⊥)) ⊎ ((j : ℕ) → j < n → T (f j) → ⊥) → T (f n) ⊎ (T (f n) → ⊥)
        → ((k : ℕ) × (k < suc n) × T (f k) × ((j : ℕ) → j < k → T (f j) → ⊥)) ⊎ ((j : ℕ) → j < suc n → T (f j) → ⊥)
    go (inl q) r = inl (q.0, omega (arith, q.1), q.2, q.3)
    go (inr none) (inl t) = inl (n, omega arith, t, none)
    go (inr none) (inr o) = inr (λ j h t. pick j h t (le_or_lt n j))
      where
        pick : (j : ℕ) → j < suc n → T (f j) → (n ≤ j) ⊎ (j < n) → ⊥
        pick j h t (inl l) = o (subst (λ z. T (f z)) (omega arith) t)
        pick j h t (inr l) = none j l t
