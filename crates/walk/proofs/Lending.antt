-- What the reader guarantees of the tables, as the walk needs it.
-- Assumes nothing.
use mathlib.Core.Path.{◌≡◌}
use mathlib.Core.List.{List, Memᴰ}
use Prim.Native.Nat.{ℕ, ◌≤◌, ◌<◌}
use native.Mathlib.Omega.{arith}
use lib.IntN.{ℤ}
use lib.ListN.{length}
use Rattle.plan.specs.Meaning.{Atom}
use Rattle.plan.specs.Tables.{edges_of, atoms_of, Lent}
use Rattle.plan.specs.Ranged.{max_atoms, max_edges}
use Rattle.plan.specs.declared.Plan.{Plan}
use Rattle.plan.specs.declared.Edge as struct-of-edge
use Rattle.plan.specs.declared.Atom as struct-of-atom
use Rattle.plan.proofs.ByPlace.{atoms_length}
use Rattle.walk.specs.Walking.{Inside, Placed}

module _ {p : Plan} {es : List struct-of-edge.Edge} {bs : List struct-of-atom.Atom} {cs : List ℤ} (l : Lent p es bs cs) where
  pub lent_inside : Inside (edges_of es)
  lent_inside e m =
      let f = l.ranged.edge e m in
      (omega (arith, f.from_in, l.ranged.nodes), omega (arith, f.to_in, l.ranged.nodes))

  pub lent_placed : (n : ℕ) → n ≡ p.variables → Placed (edges_of es) n
  lent_placed n h e m =
      let f = l.ranged.edge e m in
      (f.low, omega (arith, f.high))

  -- an atom's ends are nodes below 64
  pub atom_from : (A : Atom) → Memᴰ A (atoms_of bs) → A.from < 64
  atom_from A m = omega (arith, (l.ranged.atom A m).from_in, l.ranged.nodes)

  pub atom_to : (A : Atom) → Memᴰ A (atoms_of bs) → A.to < 64
  atom_to A m = omega (arith, (l.ranged.atom A m).to_in, l.ranged.nodes)

  -- and there are at most 64 of them
  pub lent_few : p.atoms ≤ max_atoms
  lent_few = omega (arith, atoms_length bs, l.atoms, l.ranged.atoms)

  -- and so many edges as a file may have
  pub edges_few : length (edges_of es) ≤ max_edges
  edges_few = l.ranged.edges
