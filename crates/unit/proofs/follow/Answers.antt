-- The clauses that hold the opposite of one literal, place after place: those from the next place on are left.
use Rattle.std.proofs.Common.{refl, sym}
use Rattle.std.proofs.lemmas.Result.{err_from_is_err_and}
use Rattle.unit.proofs.Following.{first_opposite, following_start, follow_clash, follow_more, follow_ends}
use Rattle.unit.proofs.follow.Goals as goal

pub loop-place-init : goal.loop-place-init
loop-place-init c =
    let r = c.requires in
    following_start r.ready r.head_lt_end r.pending (first_opposite r.ready c.args.clauses.now.indexed r.head_lt_end r.pending.queue c.opposite.ensures c.first_place-place.ensures)

pub returns-in_err-apply : goal.returns-in_err-apply
returns-in_err-apply c =
    let p = err_from_is_err_and c.from_residual.result c.from_residual.ensures.1 in
    rw p.1 (follow_clash c.loop-place.invariant c.requires.ready.table.ended c.loop-place-test.true c.start_of-at.ensures c.in_err-apply.ensures refl)

pub loop-place-preserved : goal.loop-place-preserved
loop-place-preserved c =
    let next = rw (sym c.next_place-place.ensures) at (c.args.clauses.now.indexed.next c.loop-place.place c.loop-place-test.true) in
    follow_more c.loop-place.invariant c.requires.ready.table.ended c.loop-place-test.true c.start_of-at.ensures c.in_ok-apply.ensures next refl

pub returns : goal.returns
returns c = follow_ends c.loop-place.invariant c.loop-place-test.false
