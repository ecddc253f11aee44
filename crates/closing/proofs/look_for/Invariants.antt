use Rattle.walk.specs.Walking.{Walked}
use Rattle.std.specs.Prelude.{Ok}
use Rattle.closing.specs.Atoms.{Outside}
use Rattle.closing.proofs.Looking.{Sweeps}
use Rattle.closing.proofs.look_for.Given as goal

abbrev pub invariant-loop-number : goal.invariant-loop-number
invariant-loop-number l =
    Walked l.sets l.source l.distances × Sweeps (Outside l.prepared.lengths) l.tables.edges.now l.tables.atoms.now l.holds l.initial.values l.values l.number (Ok l.step)
