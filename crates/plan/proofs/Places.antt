-- Looking for the first place with a property: how a loop begins, goes on and ends, and that there is one such place.
-- Assumes nothing.
use mathlib.Core.Path.{◌≡◌, refl, sym, subst}
use mathlib.Core.Logic.{◌⊎◌, inl, inr}
use mathlib.Core.Bool.{Bool, true, false, cond}
use mathlib.Core.List.Memᴰ
use mathlib.Core.List.{List, [], ◌∷◌, Memᴰ}
use Prim.Native.Nat.{ℕ, zero, suc, ◌+◌, ◌-◌, ◌≤◌, ◌<◌}
use native.Mathlib.Decide.{dec_lt, ℕ_discrete}
use native.Mathlib.Omega.{arith}
use lib.ListN.{length}
use lib.Dec.{T}
use Rattle.plan.specs.Places.{Without, First, Found, first_not}

module _ (P : ℕ → Type 0) where
  pub without_none : (from : ℕ) → Without P from from
  without_none from k a b p = omega arith

  pub without_more : {from at : ℕ} → Without P from at → (P at → ⊥) → Without P from (at + 1)
  without_more {from} {at} w n k a b p = elim (dec_lt k at) [
    | yes y ↦ w k a y p
    | no o ↦ n (let e : k ≡ at = omega arith in subst P e p)
  ]

  pub first_found : {from at end : ℕ} → from ≤ at → at ≤ end → Without P from at → P at → First P from end at
  first_found a b w p = record { after = a; inside = b; before = w; here = λ l. p }

  pub first_end : {from at end : ℕ} → from ≤ at → at ≡ end → Without P from at → First P from end at
  first_end a e w = record { after = a; inside = omega arith; before = w; here = λ l. absurd (omega arith) }

  pub first_one : {from end r s : ℕ} → First P from end r → First P from end s → r ≡ s
  first_one {from} {end} {r} {s} x y = elim (dec_lt r s) [
    | yes l ↦ absurd (y.before r x.after l (x.here (omega (arith, y.inside))))
    | no m ↦ elim (dec_lt s r) [
      | yes l ↦ absurd (x.before s y.after l (y.here (omega (arith, x.inside))))
      | no n ↦ omega arith
    ]
  ]

  -- the same from an earlier place on, and from a later one
  pub without_back : {from at : ℕ} → Without P from at → (P (from - 1) → ⊥) → Without P (from - 1) at
  without_back {from} {at} w n k a b p = elim (ℕ_discrete k (from - 1)) [
    | yes e ↦ n (subst P e p)
    | no d ↦ w k (omega arith) b p
  ]

  pub without_join : {from at end : ℕ} → Without P from at → Without P at end → Without P from end
  without_join {from} {at} v w k a b p = elim (dec_lt k at) [
    | yes l ↦ v k a l p
    | no o ↦ w k (omega arith) b p
  ]

  pub first_back : {from at end r : ℕ} → from ≤ at → Without P from at → First P at end r → First P from end r
  first_back a w f = record { after = omega (arith, f.after); inside = f.inside; before = without_join w f.before; here = f.here }

  pub found_back : {from at end r : ℕ} → from ≤ at → Without P from at → Found P at end r → Found P from end r
  found_back a w f = record { after = omega (arith, f.after); inside = f.inside; before = without_join w f.before; here = f.here }

  pub found_on : {from at end r : ℕ} → Found P from end r → from ≤ at → at ≤ r → Found P at end r
  found_on f a b = record { after = b; inside = f.inside; before = λ k x y. f.before k (omega arith) y; here = f.here }

  pub found_one : {from end r s : ℕ} → Found P from end r → Found P from end s → r ≡ s
  found_one f g = first_one (first f) (first g)
    where
      first : {from end r : ℕ} → Found P from end r → First P from end r
      first f = record { after = f.after; inside = omega (arith, f.inside); before = f.before; here = λ l. f.here }

  -- a place that has it lies ahead, so there is a first one
  module _ (p? : (k : ℕ) → Dec (P k)) (last end : ℕ) (h : last < end) (is : P last) where
    pub found_ahead : (n from : ℕ) → from + n ≡ last → (r : ℕ) × (r ≤ last) × Found P from end r
    found_ahead zero from e = (last, omega arith, record { after = omega arith; inside = h; before = λ k a b. absurd (omega arith); here = is })
    found_ahead (suc n) from e = go (p? from) (found_ahead n (from + 1) (omega arith))
      where
        go : Dec (P from) → (r : ℕ) × (r ≤ last) × Found P (from + 1) end r → (r : ℕ) × (r ≤ last) × Found P from end r
        go (yes y) q = (from, omega arith, record { after = omega arith; inside = omega arith; before = without_none from; here = y })
        go (no n) q = (q.0, q.1, found_back (omega arith) (without_more (without_none from) n) q.2)

pub first_le : {A : Type 0} (ok : A → Bool) (xs : List A) → first_not ok xs ≤ length xs
unfolding first_not
first_le ok [] = omega arith
first_le ok (x ∷ xs) = go (ok x) (first_le ok xs)
  where
    go : (b : Bool) → first_not ok xs ≤ length xs → cond b (suc (first_not ok xs)) zero ≤ suc (length xs)
    go true h = omega arith
    go false h = omega arith

-- where it is none, every element passes
pub all_pass : {A : Type 0} (ok : A → Bool) (xs : List A) → first_not ok xs ≡ length xs → (x : A) → Memᴰ x xs → T (ok x)
unfolding first_not
all_pass ok [] e x m = absurd (Memᴰ.not-nil m)
all_pass {A} ok (y ∷ xs) e x m = go (ok y) refl e (all_pass ok xs) (Memᴰ.cases_cons m)
  where
    go : (b : Bool) → ok y ≡ b → cond b (suc (first_not ok xs)) zero ≡ suc (length xs) → (first_not ok xs ≡ length xs → (x : A) → Memᴰ x xs → T (ok x))
        → (x ≡ y) ⊎ Memᴰ x xs → T (ok x)
    go true t q r (inl p) = subst (λ z. T (ok z)) (sym p) (subst (λ b. T b) (sym t) tt)
    go true t q r (inr k) = r (omega arith) x k
    go false t q r p = absurd (omega arith)
