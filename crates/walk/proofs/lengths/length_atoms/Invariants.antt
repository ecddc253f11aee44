-- `walk::lengths::length_atoms`: of the atoms before the one at hand, those that count lengths are in the set, and no others.
use mathlib.Core.Path.{◌≡◌}
use mathlib.Core.Logic.{◌↔◌}
use Prim.Native.Nat.{ℕ, ◌<◌}
use lib.Dec.{T}
use Rattle.plan.specs.Meaning.{atom, measure_of}
use Rattle.plan.specs.Tables.{atoms_of}
use Rattle.plan.specs.declared.Measure.TheVariants.{Lengths}
use Rattle.walk.specs.Walking.{bit}
use Rattle.walk.proofs.lengths.length_atoms.Given as goal

abbrev pub invariant-loop-k : goal.invariant-loop-k
invariant-loop-k l = (j : ℕ) → T (bit j l.those) ↔ ((j < l.k) × (measure_of (atom (atoms_of l.atoms) j).kind ≡ Lengths))
