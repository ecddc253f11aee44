-- Where the numbers of a clause table stand: docs/LAYOUT.md, "The index of the clauses".
-- Assumes nothing.
use Rattle.std.specs.Prelude.{◌≡◌, List, ℕ, suc, ◌+◌, ◌*◌, ◌<◌, ◌≤◌, length, get_or, ℤ, pos, negsuc, nat_abs}
use Rattle.plan.specs.Ranged.{max_variables}
use Rattle.plan.specs.Places.{First}
use Rattle.plan.specs.ClauseTable.{max_table}

-- The first place from `from` on that holds the number l; the table's length if there is none.
abbrev pub Place : List ℤ → ℤ → ℕ → ℕ → Type 0
Place cs l from r = First (λ k. get_or cs k (pos 0) ≡ l) from (length cs) r

-- Where an index keeps a number's first place: 0, then the literals "on", then the literals "off".
abbrev pub slot : ℤ → ℕ
slot (pos v) = v
slot (negsuc v) = max_variables + suc v

abbrev pub firsts : ℕ
firsts = 2 * max_variables + 1

-- Where it keeps, behind these, the next place that holds the same number as place k.
abbrev pub slot_behind : ℕ → ℕ
slot_behind k = firsts + k

-- A table that an index has room for: its numbers are 0 and literals.
pub record Indexable (cs : List ℤ) : Type 0 where
  pub short : length cs ≤ max_table
  pub small : (k : ℕ) → k < length cs → nat_abs (get_or cs k (pos 0)) ≤ max_variables

-- The index of a table: each number's first place and, for each place, the next one that holds the same number.
pub record Indexed (cs : List ℤ) (index : List ℕ) : Type 0 where
  pub short : length cs ≤ max_table
  pub first : (l : ℤ) → nat_abs l ≤ max_variables → Place cs l 0 (get_or index (slot l) 0)
  pub next : (k : ℕ) → k < length cs → Place cs (get_or cs k (pos 0)) (k + 1) (get_or index (slot_behind k) 0)
