-- A file with a clause that has no literals: every set of literals is a clash, no search branches, nothing is a plan, and judging meets that clause.
-- Assumes nothing.
use mathlib.Core.Path.{◌≡◌, refl}
use mathlib.Core.List.Memᴰ
use mathlib.Core.List.{List, [], ◌∷◌, ◌++◌, Memᴰ}
use Prim.Native.Nat.{ℕ, suc}
use lib.IntN.{ℤ}
use lib.ListN.{length}
use Rattle.plan.specs.Meaning.{PlanFile, Literals, true_in, HasTrue, IsPlan}
use Rattle.plan.specs.Closing.{Clash, all_false}
use Rattle.plan.specs.Search.{Closes, Outcome, nothing, Tree, clashed, full, first_found, first_nothing}
use Rattle.plan.specs.Judging.{FirstWithout, here, later}

pub none_true : (a : List ℤ) → HasTrue a [] → ⊥
none_true a h = Memᴰ.not-nil h.1

module _ (φ : PlanFile) (empty : Memᴰ [] φ.clauses) where
  -- closing: what is given is a clash already, and so is all that comes of it
  pub always_clash : (S : Literals) → Clash φ S
  always_clash S = all_false [] empty (λ l m. absurd (Memᴰ.not-nil m))

  pub never_closes : {a c : List ℤ} → Closes φ a c → ⊥
  never_closes {c = c} h = h.closed.free (always_clash (true_in c))

  -- searching
  pub no_branching : {a : List ℤ} {o : Outcome} {b : ℕ} → Tree φ a o b → (o ≡ nothing) × (b ≡ 0)
  no_branching (clashed h) = (refl, refl)
  no_branching (full h f) = absurd (never_closes h)
  no_branching (first_found h l t) = absurd (never_closes h)
  no_branching (first_nothing h l t s) = absurd (never_closes h)

  pub no_plan : (a : List ℤ) → IsPlan φ a → ⊥
  no_plan a p = none_true a (p.clause [] empty)

-- judging: behind clauses that have a true literal it is the first without one
pub first_is_empty : (a : List ℤ) (Cs Ds : List (List ℤ)) → ((C : List ℤ) → Memᴰ C Cs → HasTrue a C) → FirstWithout (HasTrue a) (Cs ++ ([] ∷ Ds)) (suc (length Cs))
first_is_empty a [] Ds h = here (none_true a)
first_is_empty a (C ∷ Cs) Ds h = later (h C (Memᴰ.head refl)) (first_is_empty a Cs Ds (λ D m. h D (Memᴰ.tail m)))
