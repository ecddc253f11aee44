-- The queue of the literals that were set and whose clauses are still to be looked at.
-- Assumes nothing.
use Rattle.std.specs.Prelude.{◌≡◌, ◌≢◌, ◌⊎◌, Option, Some, None, Result, Ok, Err, ⊤, ℕ, ◌+◌, ◌<◌, ◌≤◌, length, get_or, set, ℤ, pos, neg_ℤ, T}
use mathlib.Core.List.{List, Memᴰ}
use Rattle.std.specs.Int.Signed.{lt_z}
use Rattle.plan.specs.Meaning.{◌⊆◌, true_in, add, literal_of}
use Rattle.plan.specs.Ranged.{max_variables, LiteralFits}
use Rattle.plan.specs.Search.{Assigned, opens}
use Rattle.plan.specs.Tables.{clauses_of, BeginsWith}
use Rattle.unit.specs.Clauses.{SaysAt, Quiet, AllQuiet, ByClauses, ClauseClash}
use Rattle.unit.specs.declared.Clash.{Clash}

-- What is done with what a clause says: from the assignment v and the queue q, of which `end` places are used, to w and p, of which `next` are.
abbrev pub Does : List ℤ → List ℤ → List ℤ → List ℤ → ℕ → ℕ → Result (Option ℤ) Clash → Result ⊤ Clash → Type 0
Does v w q p end next (Err c) r = (r ≡ Err c) × (w ≡ v)
Does v w q p end next (Ok (Some l)) r = (r ≡ Ok tt) × (next ≡ end + 1) × (w ≡ add v l) × (p ≡ set q end l)
Does v w q p end next (Ok None) r = (r ≡ Ok tt) × (next ≡ end) × (w ≡ v) × (p ≡ q)

-- A look at the clause that begins at `at`.
pub record Applied (cs : List ℤ) (at : ℕ) (v w q p : List ℤ) (end next : ℕ) (r : Result ⊤ Clash) : Type 0 where
  pub said : Result (Option ℤ) Clash
  pub says : SaysAt cs at v said
  pub does : Does v w q p end next said r

-- A literal of the clause became false by one that waits in the queue, at a place from `head` up to `end`.
pub record Waits (q : List ℤ) (head end : ℕ) (C : List ℤ) : Type 0 where
  pub place : ℕ
  pub from : head ≤ place
  pub upto : place < end
  pub among : Memᴰ (neg_ℤ (get_or q place (pos 0))) C

-- The first `end` places of the queue hold literals, and there is room for each variable that is open.
pub record Used (v q : List ℤ) (end : ℕ) : Type 0 where
  pub long : length q ≡ max_variables
  pub room : end + opens v ≤ max_variables
  pub fits : (k : ℕ) → k < end → LiteralFits (length v) (get_or q k (pos 0))

-- Every clause is quiet, or is left to be looked at, or one of its literals waits.
pub record Pending (cs : List ℤ) (Left : List ℤ → Type 0) (v q : List ℤ) (head end : ℕ) : Type 0 where
  pub queue : Used v q end
  pub calm : (C : List ℤ) → Memᴰ C (clauses_of cs) → Left C ⊎ (Quiet (true_in v) C ⊎ Waits q head end C)

-- No clause is left.
abbrev pub NoClause : List ℤ → Type 0
NoClause C = ⊥

-- A clash, or no clause is left but for what waits from `head` on.
abbrev pub Leads : List ℤ → List ℤ → List ℤ → List ℤ → ℕ → ℕ → Result ⊤ Clash → Type 0
Leads cs v w p head end (Err c) = ClauseClash cs v
Leads cs v w p head end (Ok u) = Pending cs NoClause w p head end

-- From v to w by what clauses give, up to there.
pub record Follows (cs v w p : List ℤ) (head end : ℕ) (r : Result ⊤ Clash) : Type 0 where
  pub steps : ByClauses cs v w
  pub leads : Leads cs v w p head end r

-- "Each closing is given the closed set before it and the literal tried": v is an assignment in which every clause is quiet, and the literal l.
pub record Tried (cs v : List ℤ) (l : ℤ) : Type 0 where
  pub before : List ℤ
  pub shape : Assigned (length v) before
  pub fits : LiteralFits (length v) l
  pub not_true : T (true_in before l) → ⊥
  pub not_false : T (true_in before (neg_ℤ l)) → ⊥
  pub is : v ≡ add before l
  pub quiet : AllQuiet (true_in before) (clauses_of cs)

-- What is known of v: nothing where no literal was tried.
abbrev pub Known : List ℤ → List ℤ → Option ℤ → Type 0
Known cs v None = ⊤
Known cs v (Some l) = Tried cs v l

-- b begins with an assignment of which v has lost nothing.
pub record Above (b v : List ℤ) : Type 0 where
  pub before : List ℤ
  pub begins : BeginsWith b before
  pub shape : Assigned (length v) before
  pub above : true_in before ⊆ true_in v

-- Every clause was quiet then.
pub record Since (cs b v : List ℤ) : Type 0 where
  pub kept : Above b v
  pub quiet : AllQuiet (true_in kept.before) (clauses_of cs)

-- The literal of the variable at place i that has the value x.
abbrev pub literal_at : ℕ → ℤ → ℤ
literal_at i x = literal_of (lt_z (pos 0) x) (i + 1)

-- The literals that v has and b has not are in the queue.
pub record Queued (b v p : List ℤ) (end : ℕ) : Type 0 where
  pub queue : Used v p end
  pub there : (i : ℕ) → i < length v → get_or b i (pos 0) ≢ get_or v i (pos 0) → (k : ℕ) × (k < end) × (get_or p k (pos 0) ≡ literal_at i (get_or v i (pos 0)))
