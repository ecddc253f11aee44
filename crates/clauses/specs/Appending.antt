-- What a writer of numbers asks, and what it leaves.
-- Assumes nothing.
use Rattle.std.specs.Prelude.{◌≡◌, List, ℤ, length}
use Rattle.plan.specs.Front.{Room, Put}
use Rattle.clauses.specs.declared.writer.Writer.{Writer}

-- There is room for ws behind what is written.
abbrev pub RoomFor : List ℤ → Writer → Type 0
RoomFor ws w = Room ws w.at w.out.now

-- ws is written from the writer's place on, every other place keeps its value, and the writer's place is the one behind. The
-- table is still the one that was lent, of the same length.
pub record Appends (ws : List ℤ) (old new : Writer) : Type 0 where
  pub put : Put ws old.at old.out.now new.out.now new.at
  pub same_length : length new.out.now ≡ length old.out.now
  pub same_reference : new.out.ghost_name ≡ old.out.ghost_name
