-- Laws of `each` and `flat`: tests, members and lengths.
-- Assumes nothing.
use mathlib.Core.Path.{◌≡◌, refl, sym, ◌∙◌, ap, ap₂, subst}
use mathlib.Core.List.{List, [], ◌∷◌, ◌++◌, append_assoc}
use mathlib.Core.Bool.{Bool, false, ◌&&◌, ◌||◌}
use mathlib.Core.Logic.{◌↔◌, ◌⊎◌, inl, inr}
use Prim.Native.Nat.{ℕ, zero, suc, ◌+◌, ◌*◌, ◌≤◌, ◌<◌}
use native.Mathlib.Omega.{arith}
use lib.Dec.{T}
use lib.IntN.{ℤ, pos}
use lib.ListN.{length, length-append}
use Rattle.std.proofs.Math.Bool.{and_assoc, or_assoc}
use Rattle.plan.specs.Written.{each, flat}
use Rattle.plan.proofs.Bools.{any_of, all_of, or_cases, or_left, or_right, and_both, and_left, and_right}
use Rattle.plan.proofs.Lists.{le_or_lt}

pub below_zero : {i : ℕ} → i < 0 → ⊥
below_zero l = omega arith

-- what holds of each number below n, and of n, holds of each below suc n
pub below_suc {ℓ} : {P : ℕ → Type ℓ} {n : ℕ} → ((i : ℕ) → i < n → P i) → P n → (i : ℕ) → i < suc n → P i
below_suc {P = P} {n} f p i h = go (le_or_lt n i)
  where
    go : (n ≤ i) ⊎ (i < n) → P i
    go (inl l) = let e : n ≡ i = omega arith in subst P e p
    go (inr l) = f i l

pub T_and : (a b : Bool) → T (a && b) ↔ (T a × T b)
T_and a b = ((λ h. (and_left a b h, and_right a b h)), (λ h. and_both a b h.0 h.1))

-- some number below n passes
unfoldable pub some : ℕ → (ℕ → Bool) → Bool
some zero g = false
some (suc n) g = some n g || g n

pub some_same : (n : ℕ) (g h : ℕ → Bool) → ((i : ℕ) → i < n → g i ≡ h i) → some n g ≡ some n h
unfolding some
some_same zero g h e = refl
some_same (suc n) g h e = ap₂ ◌||◌ (some_same n g h (λ i l. e i (omega arith))) (e n (omega arith))

pub some_iff : (n : ℕ) (g : ℕ → Bool) → T (some n g) ↔ ((i : ℕ) × (i < n) × T (g i))
unfolding some
some_iff zero g = (λ h. absurd h, λ h. omega (arith, h.1))
some_iff (suc n) g = (found (some_iff n g).0, λ r. below_suc {P = λ i. T (g i) → T (some n g || g n)} (λ i l t. or_left (some n g) (g n) ((some_iff n g).1 (i, l, t))) (or_right (some n g) (g n)) r.0 r.1 r.2)
  where
    found : (T (some n g) → (i : ℕ) × (i < n) × T (g i)) → T (some n g || g n) → (i : ℕ) × (i < suc n) × T (g i)
    found ih h =
        elim (or_cases (some n g) (g n) h) [
          | inl a ↦ let r = ih a in (r.0, omega (arith, r.1), r.2)
          | inr b ↦ (n, omega arith, b)
        ]

module _ {A : Type 0} (f : A → Bool) where
  pub any_append : (xs ys : List A) → any_of f (xs ++ ys) ≡ (any_of f xs || any_of f ys)
  any_append [] ys = refl
  any_append (x ∷ xs) ys = rw (any_append xs ys, ← or_assoc)

  pub all_append : (xs ys : List A) → all_of f (xs ++ ys) ≡ (all_of f xs && all_of f ys)
  all_append [] ys = refl
  all_append (x ∷ xs) ys = rw (all_append xs ys, ← and_assoc)

  pub both : (xs ys : List A) → T (all_of f (xs ++ ys)) ↔ (T (all_of f xs) × T (all_of f ys))
  both xs ys = rw all_append (T_and (all_of f xs) (all_of f ys))

  pub any_each : (n : ℕ) (g : ℕ → List A) → any_of f (each n g) ≡ some n (λ i. any_of f (g i))
  unfolding each some
  any_each zero g = refl
  any_each (suc n) g = rw (any_append, any_each n g)

  pub all_each : (n : ℕ) (g : ℕ → List A) → T (all_of f (each n g)) ↔ ((i : ℕ) → i < n → T (all_of f (g i)))
  unfolding each
  all_each zero g = (λ h i l. absurd (below_zero l), λ h. tt)
  all_each (suc n) g = (
    λ h. let p = (both (each n g) (g n)).0 h in below_suc {P = λ i. T (all_of f (g i))} ((all_each n g).0 p.0) p.1,
    λ h. (both (each n g) (g n)).1 ((all_each n g).1 (λ i l. h i (omega arith)), h n (omega arith)),
  )

pub flat_append : (Cs Ds : List (List ℤ)) → flat (Cs ++ Ds) ≡ flat Cs ++ flat Ds
unfolding flat
flat_append [] Ds = refl
flat_append (C ∷ Cs) Ds = ap (λ l. C ++ (pos 0 ∷ l)) (flat_append Cs Ds) ∙ sym (append_assoc C (pos 0 ∷ flat Cs) (flat Ds))

pub flat_each : (n : ℕ) (f : ℕ → List (List ℤ)) → flat (each n f) ≡ each n (λ i. flat (f i))
unfolding each flat
flat_each zero f = refl
flat_each (suc n) f = flat_append (each n f) (f n) ∙ ap (λ l. l ++ flat (f n)) (flat_each n f)

-- g 0 + g 1 + .. + g (n - 1)
unfoldable pub sum : ℕ → (ℕ → ℕ) → ℕ
sum zero g = 0
sum (suc n) g = sum n g + g n

pub sum_same : (n : ℕ) (g h : ℕ → ℕ) → ((i : ℕ) → i < n → g i ≡ h i) → sum n g ≡ sum n h
unfolding sum
sum_same zero g h e = refl
sum_same (suc n) g h e = ap₂ ◌+◌ (sum_same n g h (λ i l. e i (omega arith))) (e n (omega arith))

pub sum_const : (n c : ℕ) → sum n (λ i. c) ≡ n * c
unfolding sum
sum_const zero c = omega arith
sum_const (suc n) c = omega (arith, sum_const n c)

pub sum_add : (n : ℕ) (g h : ℕ → ℕ) → sum n (λ i. g i + h i) ≡ sum n g + sum n h
unfolding sum
sum_add zero g h = refl
sum_add (suc n) g h = omega (arith, sum_add n g h)

pub sum_mul : (n c : ℕ) (g : ℕ → ℕ) → sum n (λ i. c * g i) ≡ c * sum n g
unfolding sum
sum_mul zero c g = omega arith
sum_mul (suc n) c g = omega (arith, sum_mul n c g)

pub sum_swap : (n m : ℕ) (g : ℕ → ℕ → ℕ) → sum n (λ i. sum m (g i)) ≡ sum m (λ j. sum n (λ i. g i j))
unfolding sum
sum_swap n zero g = sum_const n 0 ∙ omega arith
sum_swap n (suc m) g = sum_add n (λ i. sum m (g i)) (λ i. g i m) ∙ ap (λ x. x + sum n (λ i. g i m)) (sum_swap n m g)

pub length_each : {A : Type 0} (n : ℕ) (f : ℕ → List A) → length (each n f) ≡ sum n (λ i. length (f i))
unfolding each sum
length_each zero f = refl
length_each (suc n) f = length-append (each n f) (f n) ∙ ap (λ x. x + length (f n)) (length_each n f)

-- n lists of at most so many
pub each_most : {A : Type 0} (n most : ℕ) (f : ℕ → List A) → ((i : ℕ) → i < n → length (f i) ≤ most) → length (each n f) ≤ n * most
unfolding each
each_most zero most f h = omega arith
each_most (suc n) most f h = omega (arith, length-append (each n f) (f n), each_most n most f (λ i l. h i (omega arith)), h n (omega arith))
