-- The search from an assignment, as a tree: what it finds, and how many branchings it counts. Document 01, "Search".
-- Assumes nothing.
use Rattle.std.specs.Prelude.{◌≡◌, ◌≢◌, ◌⊎◌, List, [], ◌∷◌, ℕ, zero, suc, ◌+◌, ◌≤◌, ◌<◌, length, get_or, ℤ, pos, negsuc, neg_ℤ, T}
use Rattle.plan.specs.Meaning.{PlanFile, off, add, true_in, ◌⊆◌, Full, IsPlan}
use Rattle.plan.specs.Closing.{Closed, Clashes}

-- An assignment of so many variables: each is on, off or open.
pub record Assigned (variables : ℕ) (a : List ℤ) : Type 0 where
  pub long : length a ≡ variables
  pub each : (i : ℕ) → i < variables → (get_or a i (pos 0) ≡ pos 1) ⊎ (get_or a i (pos 0) ≡ negsuc 0) ⊎ (get_or a i (pos 0) ≡ pos 0)

-- How many variables are open.
unfoldable pub opens : List ℤ → ℕ
opens [] = zero
opens (pos zero ∷ a) = suc (opens a)
opens (pos (suc n) ∷ a) = opens a
opens (negsuc n ∷ a) = opens a

-- Closing the literals of a gives those of c, without a clash.
pub record Closes (φ : PlanFile) (a c : List ℤ) : Type 0 where
  pub shape : Assigned φ.variables c
  pub closed : Closed φ (true_in a) (true_in c)

-- What closing or searching leads to: nothing (a clash, no plan), or an assignment.
pub data Outcome : Type 0 where
  nothing : Outcome
  found : List ℤ → Outcome

abbrev pub CloseIs : PlanFile → List ℤ → Outcome → Type 0
CloseIs φ a nothing = Clashes φ (true_in a)
CloseIs φ a (found c) = Closes φ a c

-- "the lowest open variable": that at place i, which is number i + 1.
pub record Lowest (c : List ℤ) (i : ℕ) : Type 0 where
  pub inside : i < length c
  pub is_open : get_or c i (pos 0) ≡ pos 0
  pub below : (j : ℕ) → j < i → get_or c j (pos 0) ≢ pos 0

-- "tried off, and on only if off held no plan": the order of a variable's two literals stands here alone.
abbrev pub tried_first : PlanFile → ℕ → ℤ
tried_first φ v = off v

abbrev pub tried_then : PlanFile → ℕ → ℤ
tried_then φ v = neg_ℤ (tried_first φ v)

-- The search from a has this outcome and this count of branchings. "Close. A clash ends this part. If all is assigned, that is the
-- plan. Otherwise one branching is counted .. Each closing is given the closed set before it and the literal tried."
pub data Tree (φ : PlanFile) : List ℤ → Outcome → ℕ → Type 0 where
  clashed : {a : List ℤ} → Clashes φ (true_in a) → Tree φ a nothing zero
  full : {a c : List ℤ} → Closes φ a c → Full φ.variables c → Tree φ a (found c) zero
  first_found : {a c p : List ℤ} {i b : ℕ} → Closes φ a c → Lowest c i
      → Tree φ (add c (tried_first φ (suc i))) (found p) b → Tree φ a (found p) (suc b)
  first_nothing : {a c : List ℤ} {o : Outcome} {i b b' : ℕ} → Closes φ a c → Lowest c i
      → Tree φ (add c (tried_first φ (suc i))) nothing b → Tree φ (add c (tried_then φ (suc i))) o b' → Tree φ a o (suc (b + b'))

-- p comes before q: at the first variable in which they differ, p has the literal that is tried first.
pub record Before (φ : PlanFile) (p q : List ℤ) : Type 0 where
  pub at : ℕ
  pub same : (j : ℕ) → j < at → get_or p j (pos 0) ≡ get_or q j (pos 0)
  pub first : T (true_in p (tried_first φ (suc at)))
  pub then : T (true_in q (tried_then φ (suc at)))

-- p is the first plan that contains a.
pub record FirstPlan (φ : PlanFile) (a p : List ℤ) : Type 0 where
  pub plan : IsPlan φ p
  pub above : true_in a ⊆ true_in p
  pub first : (q : List ℤ) → IsPlan φ q → true_in a ⊆ true_in q → (p ≡ q) ⊎ Before φ p q

-- Demand 2: an outcome is right if it is the first plan that contains a, or nothing and no plan contains a.
abbrev pub Right : PlanFile → List ℤ → Outcome → Type 0
Right φ a nothing = (q : List ℤ) → IsPlan φ q → true_in a ⊆ true_in q → ⊥
Right φ a (found p) = FirstPlan φ a p

-- "Let B be the count of the whole search without a budget. 'Undecided' exactly if B is above the budget; then the reported count is
-- the budget, else it is B."
pub data Answer : Type 0 where
  decided : Outcome → Answer
  undecided : Answer

pub data Searched (φ : PlanFile) (a : List ℤ) (budget : ℕ) : Answer → ℕ → Type 0 where
  within : {o : Outcome} {b : ℕ} → Tree φ a o b → b ≤ budget → Searched φ a budget (decided o) b
  beyond : {o : Outcome} {b : ℕ} → Tree φ a o b → budget < b → Searched φ a budget undecided budget
