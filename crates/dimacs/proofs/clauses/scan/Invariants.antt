use mathlib.Core.Path.{◌≡◌}
use Prim.Native.Nat.{◌+◌, ◌-◌, ◌≤◌}
use mathlib.Core.Bool.{false}
use mathlib.Core.List.{[]}
use lib.ListN.{length}
use Rattle.dimacs.specs.Words.{between}
use Rattle.dimacs.specs.Reading.{clauses, nothing}
use Rattle.dimacs.specs.Scanning.{left}
use Rattle.dimacs.proofs.Scans.{Underway}
use Rattle.dimacs.proofs.clauses.scan.Given as goal

abbrev pub invariant-loop-word : goal.invariant-loop-word
invariant-loop-word l =
    (l.at ≤ length l.text)
    × (l.tally.literals + l.tally.clauses + l.tally.unended ≤ l.at)
    × (length l.table ≡ length l.initial.table)
    × Underway l.own.clauses l.own.literals l.text l.head.at l.head.variables l.head.count
    (clauses (length l.text) l.head.at l.head.variables l.head.count [] nothing (left (between false) l.text l.head.end)) l.initial.table l.table l.tally l.at

abbrev pub decreases-loop-word : goal.decreases-loop-word
decreases-loop-word l = length l.text - l.at
