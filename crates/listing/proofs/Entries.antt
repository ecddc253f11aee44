-- Rows of numbers, printed one behind the other.
-- Assumes nothing.
use mathlib.Core.Path.{sym}
use mathlib.Core.List.{List, ◌++◌}
use lib.IntN.{ℤ}
use Rattle.dimacs.specs.Printing.{entries}
use Rattle.dimacs.specs.Printers.{Lays}
use Rattle.dimacs.specs.declared.printing.Printer.{Printer}
use Rattle.dimacs.proofs.Digits.{entries_append}
use Rattle.dimacs.proofs.Printers.{lays_as, lays_then}

module _ (ws vs : List ℤ) where
  pub entries_then : {old mid new : Printer} → Lays (entries ws) old mid → Lays (entries vs) mid new → Lays (entries (ws ++ vs)) old new
  entries_then h k = lays_as (sym (entries_append ws vs)) (lays_then h k)
