-- In the loop, the records of the clauses before `start` stand.
use native.Mathlib.Omega.{arith}
use borrow.Author.Rules.{rules}
use Rattle.dimacs.proofs.Printers.{lays_put}
use Rattle.dimacs.proofs.Recording.{recorded_none, recorded_all, clause_room, recorded_more}
use Rattle.dimacs.proofs.records.put_records.Goals as goal

pub loop-start-init : goal.loop-start-init
loop-start-init c = (omega arith, recorded_none _ _)

pub record-requires-clause-room : goal.record-requires-clause-room
record-requires-clause-room c =
    clause_room c.args.clauses.now c.loop-start.invariant.1 c.end_of-stop.ensures c.requires.room

pub loop-start-preserved : goal.loop-start-preserved
loop-start-preserved c =
    (omega (arith, c.end_of-stop.ensures.inside), recorded_more _ c.loop-start.invariant.1 c.end_of-stop.ensures c.record.ensures)

pub returns : goal.returns
returns c = lays_put c.requires.room (recorded_all c.args.clauses.now c.loop-start.invariant.1 (omega arith)) (search rules)
