-- The first 0 from a place on: no 0 stands between that place and the one reached, and the last number is a 0.
use mathlib.Core.Path.{ap}
use Prim.Native.Nat.{◌-◌}
use native.Mathlib.Omega.{arith}
use borrow.Author.Rules.{rules}
use lib.IntN.{pos}
use lib.ListN.{length, get_or}
use mir.Syntax.{w16}
use mir.Val.{SFits, of_z}
use Rattle.plan.proofs.Signs.{bits_eq}
use Rattle.plan.proofs.Places.{without_none, without_more}
use Rattle.plan.proofs.clauses.end_of.Goals as goal

pub loop-at-init : goal.loop-at-init
loop-at-init c = without_none _ _

pub loop-at-preserved : goal.loop-at-preserved
loop-at-preserved c = without_more _ c.loop-at.invariant (λ e. c.if-clauses-at-eq0.false (ap (of_z w16) e))

pub returns-then-clauses-at-eq0 : goal.returns-then-clauses-at-eq0
returns-then-clauses-at-eq0 c =
    let f : SFits w16 (get_or c.args.clauses.now c.loop-at.at (pos 0)) = search rules in
    record { after = c.loop-at.auto.at; inside = c.loop-at-test.true; before = c.loop-at.invariant; here = bits_eq w16 _ 0 f c.if-clauses-at-eq0.true }

pub unreachable-requires : goal.unreachable-requires
unreachable-requires c = c.loop-at.invariant (length c.args.clauses.now - 1) (omega (arith, c.requires.place_in_bounds)) (omega (arith, c.requires.place_in_bounds, c.loop-at-test.false)) c.requires.ended
