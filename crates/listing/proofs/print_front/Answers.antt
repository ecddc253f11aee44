-- The `p cnf` line, and the table behind it.
use native.Mathlib.Omega.{arith}
use Rattle.plan.specs.File.{file_of}
use Rattle.plan.proofs.ClauseTable.{lent_length}
use Rattle.encoding.proofs.Sizes.{small}
use Rattle.dimacs.proofs.Digits.{head_length}
use Rattle.dimacs.proofs.Printers.{lays_as, lays_then}
use Rattle.listing.proofs.Parts.{front_is}
use Rattle.listing.proofs.print_front.Goals as goal

pub overflow_cast-counts : goal.overflow_cast-counts
overflow_cast-counts c =
    let t = c.args.tables.now in
    record { fits = omega (arith, c.counts_of-counts.ensures.variables, (small (file_of t) t.lent.ranged).variables) }

pub overflow_cast-counts-2 : goal.overflow_cast-counts-2
overflow_cast-counts-2 c =
    let t = c.args.tables.now in
    record { fits = omega (arith, c.counts_of-counts.ensures.clauses, (small (file_of t) t.lent.ranged).clauses) }

pub numbers-requires : goal.numbers-requires
numbers-requires c =
    let lent = c.args.tables.now.lent in
    omega (
      arith,
      c.head.ensures.laid.count,
      head_length c.counts_of-counts.result.variables c.counts_of-counts.result.clauses,
      lent_length lent,
      lent.ranged.clauses,
      lent.ranged.literals,
    )

pub returns : goal.returns
returns c = lays_as (front_is c.args.tables.now.lent c.counts_of-counts.ensures) (lays_then c.head.ensures c.numbers.ensures)
