-- `require_values`: the first place whose value is not taken is refused, and there is none exactly if all are taken.
use mathlib.Core.Path.{sym}
use Rattle.planner.specs.Refusing.{taken}
use Rattle.planner.proofs.Stating.{place_some, place_none, values_fail, values_hold}
use Rattle.planner.proofs.checks.require_values.Goals as goal

pub returns-in-Some-clause-passes : goal.returns-in-Some-clause-passes
returns-in-Some-clause-passes c =
    let q = place_some (taken c.args.partial) c.args.values.now (sym c.in-Some.ensures) in
    λ m. values_fail (taken c.args.partial) c.args.values.now m q.0 q.1

pub returns-in-None-clause-passes : goal.returns-in-None-clause-passes
returns-in-None-clause-passes c = λ m. values_hold (taken c.args.partial) c.args.values.now m (place_none (taken c.args.partial) c.args.values.now (sym c.in-None.ensures))

pub returns-in-None-clause-holds : goal.returns-in-None-clause-holds
returns-in-None-clause-holds c = place_none (taken c.args.partial) c.args.values.now (sym c.in-None.ensures)
