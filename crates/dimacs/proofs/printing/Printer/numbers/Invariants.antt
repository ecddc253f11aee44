-- The entries one by one: those of the list's beginning are printed.
use lib.ListN.{take}
use Rattle.dimacs.specs.Printers.{Lays}
use Rattle.dimacs.specs.Printing.{entries}
use Rattle.dimacs.proofs.printing.Printer.numbers.Given as goal

abbrev pub invariant-loop-number : goal.invariant-loop-number
invariant-loop-number g l = Lays (entries (take l.number-index (g.T.Entry.numbers l.numbers))) l.initial.printer l.printer
