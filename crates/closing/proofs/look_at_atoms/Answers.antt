-- `closing::look_at_atoms`: the atoms that count lengths behind those that count hops, where there are any.
use Rattle.std.specs.Prelude.{Ok, Err}
use Rattle.std.proofs.lemmas.Result.{err_from_is_err_and}
use Rattle.closing.proofs.Lending.{lent_tables}
use Rattle.closing.proofs.Looking.{looks_clash, looks_all, looks_none}
use Rattle.closing.proofs.look_at_atoms.Goals as goal

pub returns-in_err-first : goal.returns-in_err-first
returns-in_err-first c = rw (err_from_is_err_and c.from_residual.result c.from_residual.ensures.1).1 (λ φ f. looks_clash (c.in_err-first.ensures φ f))

pub returns-then-prepared-eq0 : goal.returns-then-prepared-eq0
returns-then-prepared-eq0 c =
    looks_none c.args.prepared.now.lengths c.args.values.now c.look_both.new.values (Ok c.in_ok-first.first) c.if-prepared-eq0.true c.in_ok-first.ensures

pub look_both-requires-2 : goal.look_both-requires-2
look_both-requires-2 c = (c.in_ok-first.ensures _ (lent_tables c.args.prepared.now.tables.lent c.requires)).onward.shape

pub returns-in_err-second : goal.returns-in_err-second
returns-in_err-second c =
    let a = c.args in
    rw (err_from_is_err_and c.from_residual-in_err-second.result c.from_residual-in_err-second.ensures.1).1
    (λ φ f. looks_clash
    (looks_all a.prepared.now.lengths a.values.now c.look_both.new.values c.look_both-2.new.values c.in_ok-first.first (Err c.in_err-second.field-0.0) c.in_ok-first.ensures c.in_err-second.ensures φ f))

pub returns : goal.returns
returns c =
    let a = c.args in
    rw c.or.ensures (looks_all a.prepared.now.lengths a.values.now c.look_both.new.values c.look_both-2.new.values c.in_ok-first.first (Ok c.in_ok-second.second) c.in_ok-first.ensures c.in_ok-second.ensures)
