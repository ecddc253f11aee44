-- The first stop from a place on: none stands between that place and the one reached, and the look stops at the last number, a 0.
use Rattle.std.proofs.Common.{rules}
use mir.Facts.{to_z-of_z}
use Rattle.plan.proofs.Places.{without_more}
use Rattle.unit.proofs.Scan.{next_inside, goes_passed, goes_false, stops_here}
use Rattle.unit.proofs.stop_of.Goals as goal
use Rattle.unit.proofs.stop_of.Goals.{else-literal-passed-via-then-literal-passed+else-value_of, else-literal-passed-via-else-literal-passed}

pub returns-then-value_of : goal.returns-then-value_of
returns-then-value_of c =
    record {
      after = c.loop-at.auto.at;
      inside = c.loop-at.invariant.0;
      before = rw (to_z-of_z c.ranges.passed) at c.loop-at.invariant.1;
      here = stops_here c.requires.ready c.loop-at.invariant.0 (search rules) c.if-literal-eq0.false c.value_of.ensures c.if-literal-passed.true c.if-value_of.true;
    }

pub loop-at-preserved : goal.loop-at-preserved
loop-at-preserved c =
    let r = c.requires.ready in
    let h = c.loop-at.invariant.0 in
    let n = c.if-literal-eq0.false in
    let before = rw (to_z-of_z c.ranges.passed) at c.loop-at.invariant.1 in
    rw (to_z-of_z c.ranges.passed) (
      next_inside r h (search rules) n,
      without_more _ before
          (elim c.else-literal-passed.branch [
            | else-literal-passed-via-then-literal-passed+else-value_of w ↦ goes_false r h (search rules) n w.value_of.ensures w.if-value_of.false
            | else-literal-passed-via-else-literal-passed w ↦ goes_passed r h (search rules) n c.ranges.passed w.if-literal-passed.false
          ]),
    )
