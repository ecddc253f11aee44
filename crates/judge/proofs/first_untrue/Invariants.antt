use Prim.Native.Nat.{◌-◌, ◌≤◌}
use lib.ListN.{length, drop}
use Rattle.plan.specs.Meaning.{HasTrue}
use Rattle.plan.specs.Tables.{clauses_of}
use Rattle.judge.proofs.Passing.{Passed}
use Rattle.judge.proofs.first_untrue.Given as goal

abbrev pub invariant-loop-at : goal.invariant-loop-at
invariant-loop-at l = record {
  inside : l.at ≤ length l.clauses;
  fewer : l.number ≤ l.at;
  passed : Passed (HasTrue l.assignment) (clauses_of l.clauses) l.number (clauses_of (drop l.at l.clauses));
}

abbrev pub decreases-loop-at : goal.decreases-loop-at
decreases-loop-at l = length l.clauses - l.at
