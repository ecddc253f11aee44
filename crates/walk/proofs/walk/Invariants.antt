-- `walk::walk`: what holds before each node is taken from the queue, of the nodes that are not left.
use Prim.Native.Nat.{◌-◌, ◌^◌, ◌≤◌}
use Rattle.walk.proofs.Breadth.{Bfs}
use Rattle.walk.proofs.walk.Given as goal

abbrev pub invariant-loop-head : goal.invariant-loop-head
invariant-loop-head l = (l.head ≤ l.tail) × Bfs l.neighbours l.source (2 ^ 64 - 1 - l.left) l.distances.far l.queue l.tail l.head

abbrev pub decreases-loop-head : goal.decreases-loop-head
decreases-loop-head l = 64 - l.head
