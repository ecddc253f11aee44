-- The bytes of the literals passed are printed.
use lib.ListN.{take}
use Rattle.dimacs.specs.Printers.{Lays}
use Rattle.dimacs.specs.Records.{literal_bytes}
use Rattle.dimacs.proofs.printing.Printer.literals.Given as goal

abbrev pub invariant-loop-literal : goal.invariant-loop-literal
invariant-loop-literal l = Lays (literal_bytes (take l.literal-index l.clause)) l.initial.self l.self
