-- What the search answers.
-- Assumes nothing.
use Rattle.std.specs.Prelude.{◌≡◌, Option, Some, None, List, ℕ, ◌+◌, ◌-◌, ◌≤◌, length, take, get_or, replicate, ℤ, pos}
use Rattle.plan.specs.Meaning.{PlanFile}
use Rattle.plan.specs.Search.{Assigned, nothing, found, Answer, decided, undecided, Searched}
use Rattle.plan.specs.Places.{Without, Found}
use Rattle.plan.specs.declared.Assignment.{Assignment}
use Rattle.closing.specs.declared.prepared.Prepared.{Prepared}
use Rattle.search.specs.declared.Verdict.{Verdict}
use Rattle.search.specs.declared.Verdict.TheVariants as verdict
use Rattle.search.specs.declared.Found as answer
use Rattle.search.specs.declared.Found.TheVariants as found_as

-- The places of an assignment that the plan file's variables have.
abbrev pub front : Prepared → Assignment → List ℤ
front p a = take p.tables.plan.variables a.values

-- What a part of the search answers, of so many variables.
abbrev pub verdict_of : ℕ → Verdict → Answer
verdict_of n (verdict.Plan held) = decided (found (take n held.values))
verdict_of n verdict.Impossible = decided nothing
verdict_of n verdict.Undecided = undecided

-- A part of the search, from a, with `count` of `budget` branchings counted before it and `total` after it.
pub record Reported (φ : PlanFile) (a : List ℤ) (budget count : ℕ) (v : Verdict) (total : ℕ) : Type 0 where
  pub own : ℕ
  pub sum : total ≡ count + own
  pub most : total ≤ budget
  pub searched : Searched φ a (budget - count) (verdict_of φ.variables v) own

-- The variable at place j is open.
abbrev pub OpenAt : List ℤ → ℕ → Type 0
OpenAt a j = get_or a j (pos 0) ≡ pos 0

-- The variables at the places below `from` are assigned.
abbrev pub Filled : List ℤ → ℕ → Type 0
Filled a from = Without (OpenAt a) 0 from

-- The first open place from `from` on, or that there is none.
abbrev pub FirstOpen : List ℤ → ℕ → Option ℕ → Type 0
FirstOpen a from (Some place) = Found (OpenAt a) from (length a) place
FirstOpen a from None = Without (OpenAt a) from (length a)

-- What a part of the search begins with: an assignment of so many variables, and a budget that is not used up.
pub record Begins (variables : ℕ) (a : List ℤ) (budget count : ℕ) : Type 0 where
  pub shape : Assigned variables a
  pub left : count ≤ budget

-- The answer of the whole search and its count, with what stands in the result at the end.
abbrev pub answer_of : answer.Found → List ℤ → Answer
answer_of (found_as.Plan b) p = decided (found p)
answer_of (found_as.Impossible b) p = decided nothing
answer_of (found_as.Undecided b) p = undecided

abbrev pub count_of : answer.Found → ℕ
count_of (found_as.Plan b) = b
count_of (found_as.Impossible b) = b
count_of (found_as.Undecided b) = b

-- The result is written for a plan only.
abbrev pub Keeps : answer.Found → List ℤ → List ℤ → Type 0
Keeps (found_as.Plan b) before after = length after ≡ length before
Keeps (found_as.Impossible b) before after = after ≡ before
Keeps (found_as.Undecided b) before after = after ≡ before

-- "From all open."
pub record Finds (φ : PlanFile) (budget : ℕ) (before after : List ℤ) (r : answer.Found) : Type 0 where
  pub searched : Searched φ (replicate φ.variables (pos 0)) budget (answer_of r after) (count_of r)
  pub keeps : Keeps r before after
