-- The pieces of the line, one behind the other.
use native.Mathlib.Omega.{arith}
use Rattle.dimacs.specs.Printing.{head_line}
use Rattle.dimacs.proofs.Digits.{digits_most}
use Rattle.dimacs.proofs.Printers.{lays_then}
use Rattle.dimacs.proofs.printing.Printer.head.Goals as goal

pub byte-requires : goal.byte-requires
byte-requires c = omega (arith, c.bytes.ensures.laid.count, c.number.ensures.laid.count, digits_most 10 c.args.variables)

pub number-requires-2 : goal.number-requires-2
number-requires-2 c = omega (arith, c.bytes.ensures.laid.count, c.number.ensures.laid.count, digits_most 10 c.args.variables, c.byte.ensures.laid.count)

pub byte-requires-2 : goal.byte-requires-2
byte-requires-2 c =
    omega (
      arith,
      c.bytes.ensures.laid.count,
      c.number.ensures.laid.count,
      digits_most 10 c.args.variables,
      c.byte.ensures.laid.count,
      c.number-2.ensures.laid.count,
      digits_most 10 c.args.clauses,
    )

pub returns : goal.returns
unfolding head_line
returns c = lays_then c.bytes.ensures (lays_then c.number.ensures (lays_then c.byte.ensures (lays_then c.number-2.ensures c.byte-2.ensures)))
