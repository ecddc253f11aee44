use Rattle.reader.proofs.Loop.{left, Reached}
use Rattle.reader.proofs.read_into.Given as goal

abbrev pub invariant-loop-step : goal.invariant-loop-step
invariant-loop-step l = Reached l.file l.step l.buffers

abbrev pub decreases-loop-step : goal.decreases-loop-step
decreases-loop-step l = left l.file l.step
