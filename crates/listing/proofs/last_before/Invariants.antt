use mathlib.Core.Path.{◌≡◌}
use Rattle.plan.specs.File.{file_of}
use Rattle.clauses.proofs.Stepping.{before}
use Rattle.listing.proofs.last_before.Given as goal

abbrev pub invariant-loop-atom : goal.invariant-loop-atom
invariant-loop-atom l = let φ = file_of l.tables in l.last ≡ before φ.nodes φ.edges φ.variables φ.atoms l.atom-index
