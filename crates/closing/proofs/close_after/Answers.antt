-- `closing::close_after`: what the clauses give at first, then rounds, each with fewer open variables, until one is still.
use mathlib.Core.Path.{subst}
use Rattle.std.specs.Prelude.{Ok}
use Rattle.std.proofs.lemmas.Result.{err_from_is_err_and}
use Rattle.plan.specs.Search.{nothing, found}
use Rattle.unit.proofs.Steps.{onward_then}
use Rattle.closing.proofs.Lending.{lent_ready, passed_on, passed_clash}
use Rattle.plan.specs.File.{file_of}
use Rattle.closing.specs.Rounds.{Round}
use Rattle.closing.specs.declared.Step.TheVariants.{Still}
use Rattle.closing.proofs.Rounds.{all_quiet}
use Rattle.closing.proofs.close_after.Goals as goal

pub propagate-requires-clause-ready : goal.propagate-requires-clause-ready
propagate-requires-clause-ready c = lent_ready c.args.prepared.now.tables.lent c.requires.assigned

pub returns-in_err-propagate-clause-close_is : goal.returns-in_err-propagate-clause-close_is
returns-in_err-propagate-clause-close_is c =
    rw (err_from_is_err_and c.from_residual.result c.from_residual.ensures.1).1 (passed_clash c.args.prepared.now.tables.lent c.requires.assigned c.in_err-propagate.ensures)

-- after a round: what the rounds before it did is behind what the clauses gave at first
pub returns-in_err-round-clause-close_is : goal.returns-in_err-round-clause-close_is
returns-in_err-round-clause-close_is c =
    let o = passed_on c.args.prepared.now.tables.lent c.requires.assigned c.propagate.ensures in
    let r = c.in_err-round.ensures in
    rw (err_from_is_err_and c.from_residual-in_err-round.result c.from_residual-in_err-round.ensures.1).1
    ((onward_then _ c.args.values.now c.propagate.new.values c.loop.values o c.loop.invariant.0).back nothing r.tells)

pub returns-in-Still-clause-close_is : goal.returns-in-Still-clause-close_is
returns-in-Still-clause-close_is c =
    let t = c.args.prepared.now.tables in
    let o = passed_on t.lent c.requires.assigned c.propagate.ensures in
    let w = c.round.new.values in
    let r : Round (file_of t) c.loop.values w (Ok Still) = subst (λ r. Round (file_of t) c.loop.values w (Ok r)) c.in-Still.is c.in_ok-round.ensures in
    (onward_then _ c.args.values.now c.propagate.new.values c.loop.values o c.loop.invariant.0).back (found w)
    (r.onward.back (found w) (all_quiet (file_of t) t.lent.ranged w r.onward.shape r.tells.0 r.tells.1))
