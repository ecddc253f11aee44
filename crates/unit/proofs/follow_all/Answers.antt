-- The literals of the queue, one after the other: what they lead to, up to a clash or the queue's end.
use Rattle.std.proofs.lemmas.Result.{err_from_is_err_and}
use Rattle.unit.proofs.Following.{leads_clash, propagated_then}
use Rattle.unit.proofs.follow_all.Goals as goal

pub returns-in_err-follow : goal.returns-in_err-follow
returns-in_err-follow c =
    let p = err_from_is_err_and c.from_residual.result c.from_residual.ensures.1 in
    rw p.1 (propagated_then c.loop-head.invariant (leads_clash c.in_err-follow.ensures))
