-- What has been taken so far is held behind what was held before. The measure is what is left of the bytes.
use Rattle.std.proofs.Common.{◌-◌, ◌≤◌, length, take}
use Rattle.std.specs.Io.KnownBytes.{Appends}
use Rattle.text.specs.Out.{held}
use Rattle.text.proofs.print.OutWrite.write_all.Given as goal

abbrev pub invariant-loop-done : goal.invariant-loop-done
invariant-loop-done g l = (l.done ≤ length l.buf) × Appends (held l.initial.self) (held l.self) (take l.done l.buf)

abbrev pub decreases-loop-done : goal.decreases-loop-done
decreases-loop-done g l = length l.buf - l.done
