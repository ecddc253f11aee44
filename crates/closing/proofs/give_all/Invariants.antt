use Rattle.std.specs.Prelude.{Ok}
use Rattle.plan.specs.Search.{Assigned}
use Rattle.closing.specs.Atoms.{In}
use Rattle.closing.proofs.Giving.{GivenTo}
use Prim.Native.Nat.{ℕ}
use Rattle.closing.proofs.give_all.Given as goal

abbrev pub invariant-loop-number : goal.invariant-loop-number
invariant-loop-number l =
    ((k : ℕ) → In l.number-iterator.0 k → In l.set k) × Assigned l.tables.plan.variables l.values
    × GivenTo l.tables.edges.now l.tables.atoms.now l.set l.number-iterator.0 l.holds l.initial.values l.values (Ok l.step)
