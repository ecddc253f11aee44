-- What the reader guarantees of the tables, as judging needs it.
-- Assumes nothing.
use mathlib.Core.Path.{◌≡◌}
use mathlib.Core.List.{List}
use Prim.Native.Nat.{ℕ}
use native.Mathlib.Omega.{arith}
use lib.IntN.{ℤ}
use Rattle.plan.specs.Tables.{atoms_of, Lent}
use Rattle.plan.specs.ClauseTable.{Table}
use Rattle.plan.specs.declared.Plan.{Plan}
use Rattle.plan.specs.declared.Edge.{Edge}
use Rattle.plan.specs.declared.Atom.{Atom}
use Rattle.plan.proofs.ClauseTable.{lent_table}
use Rattle.walk.proofs.Lending.{atom_from, atom_to}
use Rattle.judge.specs.Judgements.{AtomsFit}

module _ {p : Plan} {es : List Edge} {bs : List Atom} {cs : List ℤ} (l : Lent p es bs cs) (n : ℕ) (h : n ≡ p.variables) where
  pub lent_clauses : Table n cs
  lent_clauses = rw h (lent_table l)

  pub lent_atoms : AtomsFit n (atoms_of bs)
  lent_atoms A m = (atom_from l A m, atom_to l A m, (l.ranged.atom A m).low, omega (arith, (l.ranged.atom A m).high))
