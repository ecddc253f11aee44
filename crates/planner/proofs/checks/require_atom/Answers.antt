-- `require_atom`: 0 and a number above the count are refused, and no other.
use Rattle.plan.specs.File.{file_of}
use Rattle.planner.proofs.Stating.{atom_zero, atom_beyond, atom_holds}
use Rattle.plan.proofs.ByPlace.{atoms_length}
use native.Mathlib.Omega.{arith}
use mathlib.Core.Logic.{⊎_elim}
use Rattle.planner.proofs.checks.require_atom.Goals as goal

pub returns-then-atom-eq0-clause-passes : goal.returns-then-atom-eq0-clause-passes
returns-then-atom-eq0-clause-passes c =
    λ m. ⊎_elim
    (λ e. atom_zero (file_of c.args.tables.now) c.args.atom m (atoms_length c.args.tables.now.atoms.now) e)
    (λ e. atom_beyond (file_of c.args.tables.now) c.args.atom m (atoms_length c.args.tables.now.atoms.now) e.1)
    c.then-atom-eq0.either

pub returns-clause-passes : goal.returns-clause-passes
returns-clause-passes c =
    λ m. atom_holds (file_of c.args.tables.now) c.args.atom m (atoms_length c.args.tables.now.atoms.now) (omega (arith, c.if-atom-eq0.false)) c.if-atom-count.false
