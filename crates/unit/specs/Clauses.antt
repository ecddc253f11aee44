-- One clause of the flat table: what it says of an assignment.
-- Assumes nothing.
use Rattle.std.specs.Prelude.{◌≡◌, ◌≢◌, ◌⊎◌, Option, Some, None, Result, Ok, Err, ⊤, ℕ, ◌≤◌, length, get_or, ℤ, pos, neg_ℤ, T}
use mathlib.Core.List.{List, Memᴰ}
use Rattle.plan.specs.Meaning.{PlanFile, Literals, true_in}
use Rattle.plan.specs.Ranged.{max_variables, Ranged, LiteralFits}
use Rattle.plan.specs.Places.{Found}
use Rattle.plan.specs.ClauseTable.{Table, End, part}
use Rattle.plan.specs.Closing.{Clashes}
use Rattle.plan.specs.Search.{Assigned}
use Rattle.plan.specs.Tables.{clauses_of}
use Rattle.unit.specs.Onward.{Onward}
use Rattle.unit.specs.declared.Clash.{Clash}

-- A table and an assignment of its variables.
pub record Ready (cs a : List ℤ) : Type 0 where
  pub shape : Assigned (length a) a
  pub small : length a ≤ max_variables
  pub table : Table (length a) cs

-- The look at a clause stops at this number of the table: at the 0, and at a literal that is neither false nor the one passed over.
abbrev pub Stops : List ℤ → ℤ → ℤ → Type 0
Stops a passed l = (l ≡ pos 0) ⊎ ((l ≢ passed) × (T (true_in a (neg_ℤ l)) → ⊥))

-- The first place from `from` on at which it stops.
abbrev pub Stop : List ℤ → List ℤ → ℕ → ℤ → ℕ → Type 0
Stop cs a from passed r = Found (λ k. Stops a passed (get_or cs k (pos 0))) from (length cs) r

abbrev pub AllFalse : Literals → List ℤ → Type 0
AllFalse S C = (l : ℤ) → Memᴰ l C → T (S (neg_ℤ l))

abbrev pub OthersFalse : Literals → List ℤ → ℤ → Type 0
OthersFalse S C l = (m : ℤ) → Memᴰ m C → m ≢ l → T (S (neg_ℤ m))

-- The clause gives l, which is open.
pub record Unit (S : Literals) (C : List ℤ) (l : ℤ) : Type 0 where
  pub among : Memᴰ l C
  pub others : OthersFalse S C l
  pub not_true : T (S l) → ⊥
  pub not_false : T (S (neg_ℤ l)) → ⊥

-- The clause gives nothing new, and not all of it is false.
pub record Quiet (S : Literals) (C : List ℤ) : Type 0 where
  pub there : (l : ℤ) → Memᴰ l C → OthersFalse S C l → T (S l)
  pub free : AllFalse S C → ⊥

abbrev pub AllQuiet : Literals → List (List ℤ) → Type 0
AllQuiet S Cs = (C : List ℤ) → Memᴰ C Cs → Quiet S C

-- What the clause C says of the assignment v: a clash, a literal, or nothing.
abbrev pub Says : List ℤ → List ℤ → Result (Option ℤ) Clash → Type 0
Says v C (Err c) = AllFalse (true_in v) C
Says v C (Ok (Some l)) = LiteralFits (length v) l × Unit (true_in v) C l
Says v C (Ok None) = Quiet (true_in v) C

-- What the clause says that begins at `at`.
abbrev pub SaysAt : List ℤ → ℕ → List ℤ → Result (Option ℤ) Clash → Type 0
SaysAt cs at v said = (e : ℕ) → End cs at e → Says v (part cs at e) said

-- The plan files that have these clauses and so many variables.
pub record HasClauses (variables : ℕ) (cs : List ℤ) (φ : PlanFile) : Type 0 where
  pub ranged : Ranged φ
  pub size : φ.variables ≡ variables
  pub clauses : φ.clauses ≡ clauses_of cs

-- From v to w by what these clauses give.
pub record ByClauses (cs v w : List ℤ) : Type 0 where
  pub shape : Assigned (length v) w
  pub onward : (φ : PlanFile) → HasClauses (length v) cs φ → Onward φ v w

-- All plan files with these clauses have a clash at v.
abbrev pub ClauseClash : List ℤ → List ℤ → Type 0
ClauseClash cs v = (φ : PlanFile) → HasClauses (length v) cs φ → Clashes φ (true_in v)

-- All that the clauses give, and what they give then, up to the end: a clash, or every clause is quiet.
abbrev pub Ends : List ℤ → List ℤ → List ℤ → Result ⊤ Clash → Type 0
Ends cs v w (Err c) = ClauseClash cs v
Ends cs v w (Ok u) = AllQuiet (true_in w) (clauses_of cs)

pub record Propagated (cs v w : List ℤ) (r : Result ⊤ Clash) : Type 0 where
  pub steps : ByClauses cs v w
  pub ends : Ends cs v w r
