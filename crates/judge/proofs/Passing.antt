-- Passing over the elements of a list from the front, as long as each has a property.
-- Assumes nothing.
use mathlib.Core.Path.{◌≡◌, sym, subst}
use mathlib.Core.Logic.{⊎_elim}
use mathlib.Core.List.Memᴰ
use mathlib.Core.List.{List, [], ◌∷◌, Memᴰ}
use Prim.Native.Nat.{ℕ, zero, suc, ◌+◌}
use native.Mathlib.Omega.{arith}
use Rattle.plan.specs.Judging.{FirstWithout, here, later}

-- The first k elements of xs have the property P, and ys is what stands behind them.
pub data Passed {A : Type 0} (P : A → Type 0) (xs : List A) : ℕ → List A → Type 0 where
  start : Passed P xs zero xs
  next : {k : ℕ} {y : A} {ys : List A} → Passed P xs k (y ∷ ys) → P y → Passed P xs (suc k) ys

module _ {A : Type 0} {P : A → Type 0} {xs : List A} where
  pub passed_all : {k : ℕ} {ys : List A} → Passed P xs k ys → ((y : A) → Memᴰ y ys → P y) → (y : A) → Memᴰ y xs → P y
  passed_all start f = f
  passed_all (next {y = x} p h) f = passed_all p (λ y m. ⊎_elim (λ e. subst P (sym e) h) (λ t. f y t) (Memᴰ.cases_cons m))

  passed_first : {k n : ℕ} {ys : List A} → Passed P xs k ys → FirstWithout P ys n → FirstWithout P xs (k + n)
  passed_first {n = n} start f = subst (FirstWithout P xs) (omega arith) f
  passed_first {n = n} (next {k = k} p h) f =
      let e : k + suc n ≡ suc k + n = omega arith in
      subst (FirstWithout P xs) e (passed_first p (later h f))

  -- the end without a fault, and the first fault
  pub passed_none : {k : ℕ} {ys : List A} → Passed P xs k ys → ys ≡ [] → (y : A) → Memᴰ y xs → P y
  passed_none p e = passed_all p (λ y m. absurd (Memᴰ.not-nil (subst (λ l. Memᴰ y l) e m)))

  pub passed_here : {k : ℕ} {y : A} {ys : List A} → Passed P xs k (y ∷ ys) → (P y → ⊥) → FirstWithout P xs (k + 1)
  passed_here p n = passed_first p (here n)
