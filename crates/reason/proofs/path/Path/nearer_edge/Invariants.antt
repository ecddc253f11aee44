use Prim.Native.Nat.{ℕ, ◌<◌}
use Rattle.plan.specs.Meaning.{cost_of}
use Rattle.plan.specs.Reason.{Nearer}
use Rattle.plan.specs.Tables.{edges_of, atom_of}
use Rattle.reason.specs.Marks.{holding}
use Rattle.reason.proofs.path.Path.nearer_edge.Given as goal

abbrev pub invariant-loop-edge : goal.invariant-loop-edge
invariant-loop-edge l =
    let q = l.self.question in
    (i : ℕ) → i < l.edge-index → Nearer (cost_of q.atom.kind) (edges_of q.edges.now) (holding q.assignment.now (atom_of q.atom)) q.atom.from l.node l.count i → ⊥
