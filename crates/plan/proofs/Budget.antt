-- The search with a budget has one answer and one count, and there is one.
-- Assumes nothing.
use mathlib.Core.Path.{◌≡◌, refl, subst, ap}
use mathlib.Core.Logic.{◌⊎◌, inl, inr}
use mathlib.Core.List.{List}
use Prim.Native.Nat.{ℕ, zero, suc, ◌+◌, ◌-◌, ◌≤◌, ◌<◌}
use native.Mathlib.Omega.{arith}
use lib.IntN.{ℤ}
use Rattle.plan.specs.Meaning.{PlanFile, add, true_in, Full}
use Rattle.plan.specs.Ranged.{Ranged}
use Rattle.plan.specs.Closing.{Clashes}
use Rattle.plan.specs.Search.{Assigned, Closes, Lowest, tried_first, tried_then, Outcome, nothing, found, Tree, clashed, full, first_found, first_nothing, Answer, decided, undecided, Searched, within, beyond}
use Rattle.plan.proofs.Add.{ltb?}
use Rattle.plan.proofs.Search.{one_search, first_shape, then_shape}
use Rattle.plan.proofs.Compute.{search}
use Rattle.plan.proofs.Exists.{searching_is}

module _ (φ : PlanFile) where
  pub searched_unique : {a : List ℤ} {n b b' : ℕ} {o o' : Answer} → Searched φ a n o b → Searched φ a n o' b' → (o ≡ o') × (b ≡ b')
  searched_unique (within t h) (within u k) = let q = one_search φ t u in (ap decided q.0, q.1)
  searched_unique (within t h) (beyond u k) = absurd (omega (arith, (one_search φ t u).1))
  searched_unique (beyond t h) (within u k) = absurd (omega (arith, (one_search φ t u).1))
  searched_unique (beyond t h) (beyond u k) = (refl, refl)

  pub searched_is : Ranged φ → (a : List ℤ) → Assigned φ.variables a → (n : ℕ) → (o : Answer) × (b : ℕ) × Searched φ a n o b
  searched_is ok a s n = go (ltb? n (search (suc φ.variables) φ a).count)
    where
      go : (n < (search (suc φ.variables) φ a).count) ⊎ ((search (suc φ.variables) φ a).count ≤ n) → (o : Answer) × (b : ℕ) × Searched φ a n o b
      go (inl h) = (undecided, n, beyond (searching_is φ ok a s) h)
      go (inr h) = (decided (search (suc φ.variables) φ a).outcome, (search (suc φ.variables) φ a).count, within (searching_is φ ok a s) h)

-- the steps of a search that keeps what is left of its budget: what the branching code proves, one law for each way out
module _ (φ : PlanFile) where
  pub at_clash : (a : List ℤ) (n : ℕ) → Clashes φ (true_in a) → Searched φ a n (decided nothing) zero
  at_clash a n f = within (clashed f) (omega arith)

  pub at_plan : (a c : List ℤ) (n : ℕ) → Closes φ a c → Full φ.variables c → Searched φ a n (decided (found c)) zero
  at_plan a c n k f = within (full k f) (omega arith)

module _ (φ : PlanFile) (ok : Ranged φ) (a c : List ℤ) (i : ℕ) (k : Closes φ a c) (l : Lowest c i) where
  -- whatever the first side is, the whole has a tree, with a larger count
  grown : (o : Outcome) {b : ℕ} → Tree φ (add c (tried_first φ (suc i))) o b → (r : Outcome) × (m : ℕ) × Tree φ a r m × (b < m)
  grown nothing t = let u = searching_is φ ok (add c (tried_then φ (suc i))) (then_shape φ c i k.shape l) in (_, _, first_nothing k l t u, omega arith)
  grown (found p) t = (_, _, first_found k l t, omega arith)

  pub no_budget : Searched φ a zero undecided zero
  no_budget = let q = grown _ (searching_is φ ok (add c (tried_first φ (suc i))) (first_shape φ c i k.shape l)) in beyond q.2 (omega (arith, q.3))

  -- the first side held a plan, or used up the budget
  pub first_decides : {n b : ℕ} {r : Answer} → (r ≡ decided nothing → ⊥) → Searched φ (add c (tried_first φ (suc i))) n r b → Searched φ a (suc n) r (suc b)
  first_decides n (within {o = nothing} t h) = absurd (n refl)
  first_decides n (within {o = found p} t h) = within (first_found k l t) (omega arith)
  first_decides n (beyond {o = o} t h) = let q = grown o t in beyond q.2 (omega (arith, q.3))

  -- it held no plan, and the other was tried with what was left
  pub then_decides : {n b b' : ℕ} {r : Answer} → Searched φ (add c (tried_first φ (suc i))) n (decided nothing) b → Searched φ (add c (tried_then φ (suc i))) (n - b) r b'
      → Searched φ a (suc n) r (suc (b + b'))
  then_decides (within t h) (within u g) = within (first_nothing k l t u) (omega arith)
  then_decides {n} {b} (within t h) (beyond u g) =
      let e : suc n ≡ suc (b + (n - b)) = omega arith in
      subst (λ m. Searched φ a (suc n) undecided m) e (beyond (first_nothing k l t u) (omega arith))
