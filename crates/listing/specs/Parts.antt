-- What the printers ask, and what they answer.
-- Assumes nothing.
use Rattle.std.specs.Prelude.{◌≡◌, List, ℕ, ◌+◌, ◌*◌, ◌≤◌, ◌<◌, length, ℤ, Result, Ok, Err}
use Rattle.plan.specs.Buffers.{Kept, Wrote}
use Rattle.plan.specs.Meaning.{Edge, PlanFile, edge}
use Rattle.plan.specs.Ranged.{max_nodes}
use Rattle.clauses.specs.Rows.{Low, level_row}
use Rattle.clauses.specs.declared.block.Level.{Level}
use Rattle.dimacs.specs.Printing.{Near}
use Rattle.listing.specs.Text.{text}
use Rattle.plan.specs.declared.refusal.Short.{Short}

-- A place from which on a part can be counted, and all the parts behind it.
abbrev pub Soon : ℕ → Type 0
Soon at = at ≤ 1073741824

-- From this place on the text of so many numbers can be counted: a number takes at most 12 bytes.
abbrev pub Ahead : ℕ → List ℤ → Type 0
Ahead at row = Near (at + 12 * length row)

-- The numbers of a level are low and few enough for the table in which they are made.
pub record LevelFits (es : List Edge) (n : ℕ) (v : Level) : Type 0 where
  pub low : Low es v
  pub nodes : n ≤ max_nodes
  pub few : length (level_row es n v) ≤ 3968

-- Every edge runs into a node, so that a level has 14 numbers for each edge and 6 for each node.
abbrev pub EndsIn : List Edge → ℕ → Type 0
EndsIn es n = (k : ℕ) → k < length es → (edge es k).to < n

-- The text is printed, or the buffer is too short for it.
pub record PrintedOut (φ : PlanFile) (before after : List ℕ) (bytes : ℕ) : Type 0 where
  pub count : bytes ≡ length (text φ)
  pub room : length (text φ) ≤ length before
  pub is : Wrote (text φ) before after

pub record TooShort (φ : PlanFile) (before after : List ℕ) (needed : ℕ) : Type 0 where
  pub count : needed ≡ length (text φ)
  pub room : length before < needed
  pub kept : Kept before after

abbrev pub Prints : PlanFile → List ℕ → List ℕ → Result ℕ Short → Type 0
Prints φ before after (Ok bytes) = PrintedOut φ before after bytes
Prints φ before after (Err short) = TooShort φ before after short.0
