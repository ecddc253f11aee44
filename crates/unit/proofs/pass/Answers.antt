-- Clause after clause: those from the place reached on are left.
use Rattle.std.proofs.Common.{refl, rules}
use Rattle.std.proofs.lemmas.Result.{err_from_is_err_and}
use Rattle.plan.proofs.ClauseTable.{end_some}
use Rattle.unit.proofs.Following.{passing_start, pass_clash, pass_more, pass_ends}
use Rattle.unit.proofs.pass.Goals as goal

pub loop-at-init : goal.loop-at-init
loop-at-init c = rw c.requires.queue_empty (passing_start c.requires.ready (search rules))

pub returns-in_err-apply : goal.returns-in_err-apply
returns-in_err-apply c =
    let p = err_from_is_err_and c.from_residual.result c.from_residual.ensures.1 in
    let e = end_some c.args.clauses.now c.loop-at.at c.requires.ready.table.ended c.loop-at-test.true in
    rw p.1 (pass_clash c.loop-at.invariant e.1 c.in_err-apply.ensures refl)

pub loop-at-preserved : goal.loop-at-preserved
loop-at-preserved c = pass_more c.loop-at.invariant c.end_of-at.ensures c.in_ok-apply.ensures refl

pub returns : goal.returns
returns c = pass_ends c.loop-at.invariant c.loop-at-test.false
