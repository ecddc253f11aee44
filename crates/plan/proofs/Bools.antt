-- Bool tests as statements: and, or, some, all, a table's entries.
-- Assumes nothing.
use mathlib.Core.Path.{◌≡◌, refl, sym, subst, ap}
use mathlib.Core.Logic.{◌⊎◌, inl, inr}
use mathlib.Core.Bool.{Bool, true, false, cond, ◌&&◌, ◌||◌}
use mathlib.Core.List.Memᴰ
use mathlib.Core.List.{List, [], ◌∷◌, ◌++◌, Memᴰ}
use Prim.Native.Nat.{ℕ, zero, suc, ◌<◌}
use native.Mathlib.Nat.{not-suc-le-zero, le_of_suc-le-suc}
use native.Mathlib.Omega.{arith}
use lib.ListN.{length, get_or}
use lib.Dec.{T}

-- f 0, f 1, .., n of them
abbrev pub tab {ℓ} : {A : Type ℓ} → ℕ → (ℕ → A) → List A
tab zero f = []
tab (suc n) f = f zero ∷ tab n (λ k. f (suc k))

abbrev pub any_of {ℓ} : {A : Type ℓ} → (A → Bool) → List A → Bool
any_of f [] = false
any_of f (x ∷ xs) = f x || any_of f xs

abbrev pub all_of {ℓ} : {A : Type ℓ} → (A → Bool) → List A → Bool
all_of f [] = true
all_of f (x ∷ xs) = f x && all_of f xs

-- f of each element, one behind the other; the elements that pass
abbrev pub each {ℓ κ} : {A : Type ℓ} {B : Type κ} → (A → List B) → List A → List B
each f [] = []
each f (x ∷ xs) = f x ++ each f xs

abbrev pub those {ℓ} : {A : Type ℓ} → (A → Bool) → List A → List A
those f [] = []
those f (x ∷ xs) = cond (f x) (x ∷ those f xs) (those f xs)

pub or_cases : (a b : Bool) → T (a || b) → T a ⊎ T b
or_cases true b t = inl tt
or_cases false b t = inr t

pub or_left : (a b : Bool) → T a → T (a || b)
or_left true b t = tt
or_left false b t = absurd t

pub or_right : (a b : Bool) → T b → T (a || b)
or_right true b t = tt
or_right false b t = t

pub and_both : (a b : Bool) → T a → T b → T (a && b)
and_both true b t u = u
and_both false b t u = absurd t

pub and_left : (a b : Bool) → T (a && b) → T a
and_left true b t = tt
and_left false b t = absurd t

pub and_right : (a b : Bool) → T (a && b) → T b
and_right true b t = t
and_right false b t = absurd t

pub T? : (b : Bool) → T b ⊎ (T b → ⊥)
T? true = inl tt
T? false = inr (λ t. t)

pub T_same : (a b : Bool) → (T a → T b) → (T b → T a) → a ≡ b
T_same true true f g = refl
T_same true false f g = absurd (f tt)
T_same false true f g = absurd (g tt)
T_same false false f g = refl

module _ {A : Type 0} (f : A → Bool) where
  pub any_some : (xs : List A) → T (any_of f xs) → (x : A) × Memᴰ x xs × T (f x)
  any_some [] t = absurd t
  any_some (x ∷ xs) t = go (or_cases (f x) (any_of f xs) t) (any_some xs)
    where
      go : T (f x) ⊎ T (any_of f xs) → (T (any_of f xs) → (y : A) × Memᴰ y xs × T (f y)) → (y : A) × Memᴰ y (x ∷ xs) × T (f y)
      go (inl h) r = (x, Memᴰ.head refl, h)
      go (inr h) r = let q = r h in (q.0, Memᴰ.tail q.1, q.2)

  pub some_any : (xs : List A) (x : A) → Memᴰ x xs → T (f x) → T (any_of f xs)
  some_any [] x m t = absurd (Memᴰ.not-nil m)
  some_any (y ∷ ys) x m t = go (Memᴰ.cases_cons m) (some_any ys x)
    where
      go : (x ≡ y) ⊎ Memᴰ x ys → (Memᴰ x ys → T (f x) → T (any_of f ys)) → T (any_of f (y ∷ ys))
      go (inl e) r = or_left (f y) (any_of f ys) (subst (λ z. T (f z)) e t)
      go (inr k) r = or_right (f y) (any_of f ys) (r k t)

  pub all_each : (xs : List A) → T (all_of f xs) → (x : A) → Memᴰ x xs → T (f x)
  all_each [] t x m = absurd (Memᴰ.not-nil m)
  all_each (y ∷ ys) t x m = go (Memᴰ.cases_cons m) (all_each ys (and_right (f y) (all_of f ys) t) x)
    where
      go : (x ≡ y) ⊎ Memᴰ x ys → (Memᴰ x ys → T (f x)) → T (f x)
      go (inl e) r = subst (λ z. T (f z)) (sym e) (and_left (f y) (all_of f ys) t)
      go (inr k) r = r k

  pub each_all : (xs : List A) → ((x : A) → Memᴰ x xs → T (f x)) → T (all_of f xs)
  each_all [] h = tt
  each_all (y ∷ ys) h = and_both (f y) (all_of f ys) (h y (Memᴰ.head refl)) (each_all ys (λ x m. h x (Memᴰ.tail m)))

  -- either some element passes, or every one fails: excluded middle of a finite search
  pub any_or_none : (xs : List A) → ((x : A) × Memᴰ x xs × T (f x)) ⊎ ((x : A) → Memᴰ x xs → T (f x) → ⊥)
  any_or_none xs = go (T? (any_of f xs))
    where
      go : T (any_of f xs) ⊎ (T (any_of f xs) → ⊥) → ((x : A) × Memᴰ x xs × T (f x)) ⊎ ((x : A) → Memᴰ x xs → T (f x) → ⊥)
      go (inl t) = inl (any_some xs t)
      go (inr n) = inr (λ x m t. n (some_any xs x m t))

pub tab_length {ℓ} : {A : Type ℓ} (n : ℕ) (f : ℕ → A) → length (tab n f) ≡ n
tab_length zero f = refl
tab_length (suc n) f = ap suc (tab_length n (λ k. f (suc k)))

pub tab_at {ℓ} : {A : Type ℓ} (n : ℕ) (f : ℕ → A) (d : A) (i : ℕ) → i < n → get_or (tab n f) i d ≡ f i
tab_at zero f d i h = absurd (not-suc-le-zero h)
tab_at (suc n) f d zero h = refl
tab_at (suc n) f d (suc i) h = tab_at n (λ k. f (suc k)) d i (le_of_suc-le-suc h)

pub tab_in : (n : ℕ) (f : ℕ → Bool) (i : ℕ) → i < n → T (f i) → T (get_or (tab n f) i false)
tab_in n f i h t = subst (λ b. T b) (sym (tab_at n f false i h)) t

pub tab_out : (n : ℕ) (f : ℕ → Bool) (i : ℕ) → T (get_or (tab n f) i false) → (i < n) × T (f i)
tab_out zero f i t = absurd t
tab_out (suc n) f zero t = (omega arith, t)
tab_out (suc n) f (suc i) t = let q = tab_out n (λ k. f (suc k)) i t in (omega (arith, q.0), q.1)
