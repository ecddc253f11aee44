use Prim.Native.Nat.{◌-◌, ◌≤◌}
use lib.ListN.{length}
use Rattle.dimacs.proofs.Recording.{Recorded}
use Rattle.dimacs.proofs.records.put_records.Given as goal

abbrev pub invariant-loop-start : goal.invariant-loop-start
invariant-loop-start l = (l.start ≤ length l.clauses) × Recorded l.clauses l.start l.initial.printer l.printer

abbrev pub decreases-loop-start : goal.decreases-loop-start
decreases-loop-start l = length l.clauses - l.start
