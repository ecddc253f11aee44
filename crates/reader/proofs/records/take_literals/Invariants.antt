use Rattle.reader.proofs.Kit.{◌≡◌, true, ◌+◌}
use Rattle.plan.specs.Front.{Laid}
use Rattle.reader.specs.Format.{literals_ok, literals_in}
use Rattle.reader.proofs.records.take_literals.Given as goal

-- the literals passed are in range, and stand in the table
abbrev pub invariant-loop-i : goal.invariant-loop-i
invariant-loop-i l = record {
  ok : literals_ok l.source.counts.variables (literals_in l.source.file.now (l.source.at + 3) l.i) ≡ true;
  laid : Laid (literals_in l.source.file.now (l.source.at + 3) l.i) l.to l.initial.table l.table (l.to + l.i);
}
