-- What a printer leaves.
-- Assumes nothing.
use Rattle.std.specs.Prelude.{◌≡◌, List, ℕ}
use Rattle.plan.specs.Front.{Laid}
use Rattle.dimacs.specs.declared.printing.Printer.{Printer}

-- As far as there is room, the row is printed from the printer's place on, every other place keeps its value, and the printer's place is the one
-- behind. The buffer is still the one that was lent, of the same length.
pub record Lays (row : List ℕ) (old new : Printer) : Type 0 where
  pub laid : Laid row old.at old.out.now new.out.now new.at
  pub same_reference : new.out.ghost_name ≡ old.out.ghost_name
