-- Where the clauses stand in the flat table: docs/LAYOUT.md, "Tables of a plan file".
-- Assumes nothing.
use Rattle.std.specs.Prelude.{◌≡◌, List, ℕ, ◌+◌, ◌-◌, ◌≤◌, ◌<◌, length, get_or, take, drop, ℤ, pos}
use Rattle.plan.specs.Ranged.{max_clauses, max_literals, LiteralFits}
use Rattle.plan.specs.Places.{Without, Found}

-- "the clause's literals, then one 0": the 0 of a clause is at place k.
abbrev pub EndsAt : List ℤ → ℕ → Type 0
EndsAt cs k = get_or cs k (pos 0) ≡ pos 0

-- The last clause has its 0.
abbrev pub Ended : List ℤ → Type 0
Ended cs = EndsAt cs (length cs - 1)

-- The room of a clause table: docs/LAYOUT.md.
abbrev pub max_table : ℕ
max_table = max_literals + max_clauses

-- A clause table: a 0 ends it, and what is not 0 is a literal.
pub record Table (variables : ℕ) (cs : List ℤ) : Type 0 where
  pub ended : Ended cs
  pub fits : (k : ℕ) → k < length cs → (EndsAt cs k → ⊥) → LiteralFits variables (get_or cs k (pos 0))

-- The place of the 0 of the clause around `place`: the first 0 from there on.
abbrev pub End : List ℤ → ℕ → ℕ → Type 0
End cs place r = Found (EndsAt cs) place (length cs) r

-- A clause begins at place r: at the table's beginning, or behind a 0.
abbrev pub BeginsAt : List ℤ → ℕ → Type 0
BeginsAt cs r = 0 < r → EndsAt cs (r - 1)

-- The place at which the clause around `place` begins.
pub record Begin (cs : List ℤ) (place r : ℕ) : Type 0 where
  pub before : r ≤ place
  pub within : Without (EndsAt cs) r place
  pub behind : BeginsAt cs r

-- The literals from the place `start` up to the place `stop`.
abbrev pub part : List ℤ → ℕ → ℕ → List ℤ
part cs start stop = take (stop - start) (drop start cs)

-- The clause C begins at place `start`, and its 0 is at place `stop`.
pub record Stands (cs C : List ℤ) (start stop : ℕ) : Type 0 where
  pub begins : BeginsAt cs start
  pub ends : End cs start stop
  pub is : C ≡ part cs start stop

-- C is the clause around place k: one of its literals stands there, or its 0.
pub record Around (cs : List ℤ) (k : ℕ) (C : List ℤ) : Type 0 where
  pub start : ℕ
  pub stop : ℕ
  pub stands : Stands cs C start stop
  pub from : start ≤ k
  pub upto : k ≤ stop
