-- Clause after clause has a true literal, up to the first that has none.
use mathlib.Core.Path.{refl}
use mathlib.Core.List.{◌∷◌}
use Prim.Native.Nat.{◌+◌}
use native.Mathlib.Numerals.{add-one}
use native.Mathlib.Omega.{arith}
use lib.ListN.{drop}
use Rattle.plan.specs.Meaning.{HasTrue}
use Rattle.plan.specs.Tables.{clauses_of}
use Rattle.plan.specs.ClauseTable.{part}
use Rattle.plan.proofs.ClauseTable.{part_fits, first_clause, no_more}
use Rattle.walk.proofs.Truths.{so, not_so}
use Rattle.judge.proofs.Passing.{Passed, start, next, passed_none, passed_here}
use Rattle.judge.proofs.first_untrue.Goals as goal
use Rattle.judge.proofs.first_untrue.Goals.{After-end_of-end}

pub loop-at-init : goal.loop-at-init
loop-at-init c = record { inside = omega arith; fewer = omega arith; passed = start }

pub has_true-requires-clause-literals_fit : goal.has_true-requires-clause-literals_fit
has_true-requires-clause-literals_fit c = part_fits c.args.clauses.now c.loop-at.at c.end_of-end.result c.end_of-end.ensures c.requires.table

-- the clause that begins here
passed : (c : After-end_of-end) → Passed (HasTrue c.args.assignment.now) (clauses_of c.args.clauses.now) c.loop-at.number
    (part c.args.clauses.now c.loop-at.at c.end_of-end.result ∷ clauses_of (drop (c.end_of-end.result + 1) c.args.clauses.now))
passed c = rw (first_clause c.args.clauses.now c.loop-at.at c.end_of-end.result c.end_of-end.ensures) at c.loop-at.invariant.passed

pub returns-then-not-has_true : goal.returns-then-not-has_true
returns-then-not-has_true c =
    passed_here (passed (goal.at.returns-then-not-has_true c).After-end_of-end) (λ h. not_so {r = c.has_true.result} refl c.if-not-has_true.true (c.has_true.ensures.1 h))

pub loop-at-preserved : goal.loop-at-preserved
loop-at-preserved c = record {
  inside = omega (arith, c.end_of-end.ensures.inside);
  fewer = omega (arith, c.end_of-end.ensures.after);
  passed = rw (add-one c.loop-at.number) (next (passed (goal.at.loop-at-preserved c).After-end_of-end) (c.has_true.ensures.0 (so {r = c.has_true.result} refl c.if-not-has_true.false)));
}

pub returns : goal.returns
returns c = passed_none c.loop-at.invariant.passed (no_more c.args.clauses.now c.loop-at.at c.loop-at-test.false)
