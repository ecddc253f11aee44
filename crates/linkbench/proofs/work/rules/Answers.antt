-- A file has few clauses, so that the place behind the head is near.
use Rattle.std.proofs.Common.{arith}
use Rattle.plan.proofs.ClauseTable.{lent_length}
use Rattle.dimacs.proofs.Digits.{head_length}
use Rattle.linkbench.proofs.work.rules.Goals as goal

pub numbers-requires : goal.numbers-requires
numbers-requires c =
    let t = c.args.tables.now in
    omega (arith, c.head.ensures.laid.count, head_length c.from.result t.plan.clauses, lent_length t.lent, t.lent.ranged.clauses, t.lent.ranged.literals)
