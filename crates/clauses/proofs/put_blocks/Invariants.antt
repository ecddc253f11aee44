use mathlib.Core.Path.{◌≡◌}
use lib.ListN.{length}
use Rattle.plan.specs.File.{file_of}
use Rattle.plan.proofs.Filling.{Filling}
use Rattle.clauses.proofs.Stepping.{before, piece}
use Rattle.clauses.proofs.put_blocks.Given as goal

abbrev pub invariant-loop-atom : goal.invariant-loop-atom
invariant-loop-atom l =
    let φ = file_of l.tables in
    Filling (piece φ.nodes φ.edges φ.variables φ.atoms) (length φ.atoms) l.at l.initial.out l.out l.end l.atom-index
    × (l.last ≡ before φ.nodes φ.edges φ.variables φ.atoms l.atom-index)
