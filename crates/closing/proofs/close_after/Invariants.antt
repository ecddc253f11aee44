use Rattle.plan.specs.File.{file_of}
use Rattle.plan.specs.Search.{opens}
use Rattle.unit.specs.Onward.{Onward}
use Rattle.closing.specs.Rounds.{ClausesQuiet}
use Rattle.closing.proofs.close_after.Given as goal

abbrev pub invariant-loop : goal.invariant-loop
invariant-loop l = let φ = file_of l.prepared.tables in Onward φ l.initial.values l.values × ClausesQuiet φ l.values

abbrev pub decreases-loop : goal.decreases-loop
decreases-loop l = opens l.values
