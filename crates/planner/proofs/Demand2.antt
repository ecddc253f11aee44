-- Demand 2, as theorems about the statement of the public call `search`: plan, impossible and undecided are exactly right, the plan is
-- the first one in the document's order, and the count is exact.
-- Assumes nothing.
use mathlib.Core.Path.{◌≡◌, refl, subst, ◌∙◌, ap}
use mathlib.Core.Bool.{Bool}
use mathlib.Core.Logic.{◌⊎◌, inr}
use mathlib.Core.List.{List}
use Prim.Native.Nat.{ℕ, zero, suc, ◌-◌, ◌^◌, ◌≤◌, ◌<◌}
use native.Mathlib.Omega.{arith}
use lib.IntN.{ℤ, pos, negsuc}
use lib.Dec.{T}
use lib.ListN.{length, get_or, replicate, length-replicate}
use borrow.Author.Tests.{eq-eqb}
use Rattle.std.specs.Prelude.{Result, Ok, Err}
use Rattle.plan.specs.declared.refusal.Refusal.{Refusal}
use Rattle.plan.specs.Meaning.{PlanFile, is_on, is_off, value, true_in, ◌⊆◌, IsPlan}
use Rattle.plan.specs.Search.{Assigned, opens, Closes, Outcome, nothing, found, Tree, Before, FirstPlan, Right, decided, undecided, Searched, within, beyond}
use Rattle.plan.specs.Ranged.{Ranged}
use Rattle.plan.proofs.Exists.{searching_is}
use Rattle.plan.proofs.Search.{tree_right, count_below, one_search}
use Rattle.reader.specs.Format.{accepted, read_plan}
use Rattle.reader.proofs.Accepts.{read_ranged}
use Rattle.search.specs.declared.Found.{Found}
use Rattle.search.specs.declared.Found.TheVariants.{Plan, Impossible, Undecided}
use Rattle.planner.specs.Refusing.{require, clear}
use Rattle.planner.specs.Search.{all_open, search_checks, SearchCase, SearchedIs}
use Rattle.planner.proofs.Stating.{met, checked}

each_open : (n i : ℕ) → get_or (replicate n (pos 0)) i (pos 0) ≡ pos 0
each_open zero i = refl
each_open (suc n) zero = refl
each_open (suc n) (suc i) = each_open n i

all_open_shape : (n : ℕ) → Assigned n (replicate n (pos 0))
all_open_shape n = record { long = length-replicate n (pos 0); each = λ i h. inr (inr (each_open n i)) }

-- nothing is on or off where all is open
none_true : (n : ℕ) (a : List ℤ) → true_in (replicate n (pos 0)) ⊆ true_in a
unfolding true_in value
none_true n a (pos zero) t = absurd t
none_true n a (pos (suc i)) t = absurd (subst (λ z. T (is_on z)) (each_open n i) t)
none_true n a (negsuc i) t = absurd (subst (λ z. T (is_off z)) (each_open n i) t)

-- B is there: the search from all open has a tree
pub whole_search : (φ : PlanFile) → Ranged φ → (o : Outcome) × (B : ℕ) × Tree φ (all_open φ) o B
whole_search φ ok = (_, _, searching_is φ ok (all_open φ) (all_open_shape φ.variables))

-- an accepted file, and a result buffer of the right length
module _ (file : List ℕ) (φ : PlanFile) (reads : read_plan file ≡ accepted φ) (budget : ℕ) (before after : List ℤ) (long : length before ≡ φ.variables) where
  case_of : (r : Result Found Refusal) → SearchedIs file budget before after r → SearchCase φ budget before after r
  case_of r h = met (checked file (search_checks before) reads ∙ ap (λ (b : Bool). require b 9 φ.variables (clear φ)) (eq-eqb (length before) φ.variables long)) h

  right : (o : Outcome) (b : ℕ) → Searched φ (all_open φ) budget (decided o) b → Right φ (all_open φ) o
  right o b (within t h) = tree_right φ (read_ranged file φ reads) t

  -- a plan is a plan, and the first
  pub plan_is_first : (b : ℕ) → SearchedIs file budget before after (Ok (Plan b)) → IsPlan φ after × ((q : List ℤ) → IsPlan φ q → (after ≡ q) ⊎ Before φ after q)
  plan_is_first b h =
      let f : FirstPlan φ (all_open φ) after = right (found after) b (case_of (Ok (Plan b)) h) in
      (f.plan, λ q p. f.first q p (none_true φ.variables q))

  -- impossible is impossible
  pub impossible_is : (b : ℕ) → SearchedIs file budget before after (Ok (Impossible b)) → (q : List ℤ) → IsPlan φ q → ⊥
  impossible_is b h q p = right nothing b (case_of (Ok (Impossible b)) h).0 q p (none_true φ.variables q)

  -- B, the count of the whole search
  module _ {o : Outcome} {B : ℕ} (tree : Tree φ (all_open φ) o B) where
    counted : {o' : Outcome} {b : ℕ} → Searched φ (all_open φ) budget (decided o') b → (b ≡ B) × (B ≤ budget)
    counted (within t h) = let q = one_search φ t tree in (q.1, omega (arith, q.1))

    beyond_it : {b : ℕ} → Searched φ (all_open φ) budget undecided b → (b ≡ budget) × (budget < B)
    beyond_it (beyond t h) = let q = one_search φ t tree in (refl, omega (arith, q.1))

    pub plan_count : (b : ℕ) → SearchedIs file budget before after (Ok (Plan b)) → (b ≡ B) × (B ≤ budget)
    plan_count b h = counted (case_of (Ok (Plan b)) h)

    pub impossible_count : (b : ℕ) → SearchedIs file budget before after (Ok (Impossible b)) → (b ≡ B) × (B ≤ budget)
    impossible_count b h = counted (case_of (Ok (Impossible b)) h).0

    pub undecided_count : (b : ℕ) → SearchedIs file budget before after (Ok (Undecided b)) → (b ≡ budget) × (budget < B)
    undecided_count b h = beyond_it (case_of (Ok (Undecided b)) h).0

    -- and the other way: where there is a plan and the budget is enough, it is found; where there is none, the answer is impossible; and
    -- where the budget is not enough, undecided
    pub found_if : (r : Result Found Refusal) → SearchedIs file budget before after r → B ≤ budget → (q : List ℤ) → IsPlan φ q → r ≡ Ok (Plan B)
    found_if (Err y) h l q p = absurd (case_of (Err y) h)
    found_if (Ok (Plan b)) h l q p = ap (λ n. Ok (Plan n)) (plan_count b h).0
    found_if (Ok (Impossible b)) h l q p = absurd (impossible_is b h q p)
    found_if (Ok (Undecided b)) h l q p = absurd (omega (arith, (undecided_count b h).1))

    pub impossible_if : (r : Result Found Refusal) → SearchedIs file budget before after r → B ≤ budget → ((q : List ℤ) → IsPlan φ q → ⊥) → r ≡ Ok (Impossible B)
    impossible_if (Err y) h l n = absurd (case_of (Err y) h)
    impossible_if (Ok (Plan b)) h l n = absurd (n after (plan_is_first b h).0)
    impossible_if (Ok (Impossible b)) h l n = ap (λ n. Ok (Impossible n)) (impossible_count b h).0
    impossible_if (Ok (Undecided b)) h l n = absurd (omega (arith, (undecided_count b h).1))

    pub undecided_if : (r : Result Found Refusal) → SearchedIs file budget before after r → budget < B → r ≡ Ok (Undecided budget)
    undecided_if (Err y) h l = absurd (case_of (Err y) h)
    undecided_if (Ok (Plan b)) h l = absurd (omega (arith, (plan_count b h).1))
    undecided_if (Ok (Impossible b)) h l = absurd (omega (arith, (impossible_count b h).1))
    undecided_if (Ok (Undecided b)) h l = ap (λ n. Ok (Undecided n)) (undecided_count b h).0

    -- "With k variables open after the first closing, B is at most 2 to the k, less 1."
    pub count_at_most : (c : List ℤ) → Closes φ (all_open φ) c → B ≤ 2 ^ opens c - 1
    count_at_most c k = count_below φ k tree
