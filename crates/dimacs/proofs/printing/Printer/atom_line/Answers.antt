-- The pieces of the line, one behind the other.
use native.Mathlib.Omega.{arith}
use Rattle.dimacs.specs.Printing.{atom_line}
use Rattle.dimacs.proofs.Digits.{digits_most}
use Rattle.dimacs.proofs.Printers.{lays_then}
use Rattle.dimacs.proofs.printing.Printer.atom_line.Goals as goal

pub byte-requires : goal.byte-requires
byte-requires c = omega (arith, c.bytes.ensures.laid.count, c.number.ensures.laid.count, digits_most 10 c.args.atom)

pub returns : goal.returns
unfolding atom_line
returns c = lays_then c.bytes.ensures (lays_then c.number.ensures c.byte.ensures)
