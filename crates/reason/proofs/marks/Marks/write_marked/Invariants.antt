use mathlib.Core.List.{map}
use Rattle.plan.specs.Meaning.{literal_of}
use Rattle.reason.specs.Marks.{premises, Appends}
use Rattle.reason.proofs.marks.Marks.write_marked.Given as goal

abbrev pub invariant-loop-v : goal.invariant-loop-v
invariant-loop-v l = Appends l.at (map (literal_of l.sign) (premises l.self.marked l.v)) l.initial.out l.out l.end
