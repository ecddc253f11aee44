-- `closing::look_both`: one verdict behind the other.
use Rattle.std.specs.Prelude.{Ok, Err}
use Rattle.std.proofs.lemmas.Result.{err_from_is_err_and}
use Rattle.closing.specs.Atoms.{Counting}
use Rattle.closing.proofs.Lending.{lent_tables}
use Rattle.closing.proofs.Looking.{looks_clash, looks_both}
use Rattle.closing.proofs.look_both.Goals as goal

pub returns-in_err-first : goal.returns-in_err-first
returns-in_err-first c = rw (err_from_is_err_and c.from_residual.result c.from_residual.ensures.1).1 (λ φ f. looks_clash (c.in_err-first.ensures φ f))

pub look_by-requires-2 : goal.look_by-requires-2
look_by-requires-2 c = (c.in_ok-first.ensures _ (lent_tables c.args.prepared.now.tables.lent c.requires)).onward.shape

pub returns-in_err-second : goal.returns-in_err-second
returns-in_err-second c =
    let a = c.args in
    rw (err_from_is_err_and c.from_residual-in_err-second.result c.from_residual-in_err-second.ensures.1).1
    (λ φ f. looks_clash
    (looks_both (Counting a.measure a.prepared.now.lengths) a.values.now c.look_by.new.values c.look_by-2.new.values c.in_ok-first.first (Err c.in_err-second.field-0.0) c.in_ok-first.ensures c.in_err-second.ensures φ f))

pub returns : goal.returns
returns c =
    let a = c.args in
    rw c.or.ensures (looks_both (Counting a.measure a.prepared.now.lengths) a.values.now c.look_by.new.values c.look_by-2.new.values c.in_ok-first.first (Ok c.in_ok-second.second) c.in_ok-first.ensures c.in_ok-second.ensures)
