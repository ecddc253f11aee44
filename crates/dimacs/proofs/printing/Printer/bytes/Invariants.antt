-- The bytes one by one: those of the beginning are printed.
use lib.ListN.{take}
use Rattle.dimacs.specs.Printers.{Lays}
use Rattle.dimacs.proofs.printing.Printer.bytes.Given as goal

abbrev pub invariant-loop-byte : goal.invariant-loop-byte
invariant-loop-byte l = Lays (take l.byte-index l.bytes) l.initial.self l.self
