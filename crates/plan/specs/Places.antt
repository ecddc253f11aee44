-- The first place with a property.
-- Assumes nothing.
use Rattle.std.specs.Prelude.{Bool, cond, List, [], ◌∷◌, ℕ, zero, suc, ◌≤◌, ◌<◌}

-- No place from `from` up to `at` has the property P.
abbrev pub Without : (ℕ → Type 0) → ℕ → ℕ → Type 0
Without P from at = (k : ℕ) → from ≤ k → k < at → P k → ⊥

-- The first place from `from` on that has the property P, looked for below `end`; `end` where there is none.
pub record First (P : ℕ → Type 0) (from end r : ℕ) : Type 0 where
  pub after : from ≤ r
  pub inside : r ≤ end
  pub before : Without P from r
  pub here : r < end → P r

-- The same where there is one.
pub record Found (P : ℕ → Type 0) (from end r : ℕ) : Type 0 where
  pub after : from ≤ r
  pub inside : r < end
  pub before : Without P from r
  pub here : P r

-- The place, from 0, of the first element of a list that fails a test; the list's length where there is none.
unfoldable pub first_not : {A : Type 0} → (A → Bool) → List A → ℕ
first_not ok [] = zero
first_not ok (x ∷ xs) = cond (ok x) (suc (first_not ok xs)) zero
