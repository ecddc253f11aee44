use Prim.Native.Nat.{ℕ, suc}
use mathlib.Core.Logic.{◌↔◌}
use mathlib.Core.Bool.{false}
use lib.ListN.{get_or}
use lib.Dec.{T}
use Rattle.plan.specs.Tables.{edges_of, atom_of}
use Rattle.reason.specs.Answers.{Over}
use Rattle.reason.specs.Marks.{CutBelow}
use Rattle.reason.proofs.cut.Cut.marks.Given as goal

abbrev pub invariant-loop-edge : goal.invariant-loop-edge
invariant-loop-edge l =
    let q = l.self.question in
    Over (edges_of q.edges.now) (λ φ. (i : ℕ) → T (get_or l.marks.marked i false) ↔ CutBelow l.edge-index φ q.assignment.now (atom_of q.atom) (suc i))
