-- Judging a full assignment. Document 01, "Judging and reasons", the first paragraph.
-- Assumes nothing.
use mathlib.Core.List.{List, ◌∷◌, Memᴰ}
use Rattle.std.specs.Prelude.{ℕ, zero, suc, ℤ}
use Rattle.plan.specs.Meaning.{PlanFile, HasTrue, IsRight, IsPlan}

-- The first element without the property P is number n, counted from 1.
pub data FirstWithout {A : Type 0} (P : A → Type 0) : List A → ℕ → Type 0 where
  here : {x : A} {xs : List A} → (P x → ⊥) → FirstWithout P (x ∷ xs) (suc zero)
  later : {x : A} {xs : List A} {n : ℕ} → P x → FirstWithout P xs n → FirstWithout P (x ∷ xs) (suc n)

pub data Judgement : Type 0 where
  plan : Judgement
  no_true : ℕ → Judgement
  wrong : ℕ → Judgement

-- "'plan', or the first clause without a true literal, or, if there is none, the first atom whose variable is wrong"
abbrev pub Judged : PlanFile → List ℤ → Judgement → Type 0
Judged φ a plan = IsPlan φ a
Judged φ a (no_true n) = FirstWithout (HasTrue a) φ.clauses n
Judged φ a (wrong n) = ((C : List ℤ) → Memᴰ C φ.clauses → HasTrue a C) × FirstWithout (IsRight φ a) φ.atoms n
