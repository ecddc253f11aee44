-- `judge::judge`: what the reader guarantees of the clauses is what they are walked by.
use Rattle.judge.proofs.Lending.{lent_clauses}
use Rattle.judge.proofs.judge.Goals as goal

pub first_untrue-requires-clause-table : goal.first_untrue-requires-clause-table
first_untrue-requires-clause-table c = lent_clauses c.args.tables.now.lent _ c.requires.long
