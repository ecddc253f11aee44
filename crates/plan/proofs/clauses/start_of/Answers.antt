-- The beginning of the clause around a place: no 0 stands from the place reached up to that place.
use mathlib.Core.Path.{ap}
use Prim.Native.Nat.{◌-◌}
use native.Mathlib.Omega.{arith}
use borrow.Author.Rules.{rules}
use lib.IntN.{pos}
use lib.ListN.{get_or}
use mir.Syntax.{w16}
use mir.Val.{SFits, of_z}
use Rattle.plan.proofs.Signs.{bits_eq}
use Rattle.plan.proofs.Places.{without_none, without_back}
use Rattle.plan.proofs.clauses.start_of.Goals as goal

pub loop-at-init : goal.loop-at-init
loop-at-init c = without_none _ _

pub returns-then-clauses-at-eq0 : goal.returns-then-clauses-at-eq0
returns-then-clauses-at-eq0 c =
    let f : SFits w16 (get_or c.args.clauses.now (c.loop-at.at - 1) (pos 0)) = search rules in
    record { before = c.loop-at.auto.at; within = c.loop-at.invariant; behind = λ h. bits_eq w16 _ 0 f c.if-clauses-at-eq0.true }

pub loop-at-preserved : goal.loop-at-preserved
loop-at-preserved c = without_back _ c.loop-at.invariant (λ e. c.if-clauses-at-eq0.false (ap (of_z w16) e))

pub returns : goal.returns
returns c = record { before = omega arith; within = λ k a b. c.loop-at.invariant k (omega (arith, c.loop-at-test.false)) b; behind = λ h. absurd (omega arith) }
