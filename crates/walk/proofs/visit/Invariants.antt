-- `walk::visit`: whatever the visits of what is left do behind this point, the visits of all do from the start on.
use mathlib.Core.List.{List}
use Prim.Native.Nat.{ℕ, ◌+◌, ◌≤◌}
use Rattle.walk.specs.Front.{size, Visited}
use Rattle.walk.proofs.visit.Given as goal

abbrev pub invariant-loop-node : goal.invariant-loop-node
invariant-loop-node l =
    (l.end + size l.node-iterator.0 ≤ 64)
    × ((e : ℕ) (C Q : List ℕ) → Visited l.node-iterator.0 l.count l.end l.far l.queue e C Q → Visited l.new l.count l.tail l.initial.far l.initial.queue e C Q)
