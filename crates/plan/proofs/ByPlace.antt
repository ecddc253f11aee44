-- Reading the tables of edges and of atoms by place.
-- Assumes nothing.
use mathlib.Core.Path.{◌≡◌, refl, ap}
use mathlib.Core.List.{List, [], ◌∷◌, Memᴰ}
use Prim.Native.Nat.{ℕ, zero, suc, ◌<◌}
use native.Mathlib.Omega.{arith}
use lib.ListN.{length, get_or}
use Rattle.plan.specs.Meaning.{edge, atom, no_edge, no_atom}
use Rattle.plan.specs.Tables.{edge_of, atom_of, edges_of, atoms_of}
use Rattle.plan.proofs.Lists.{mem_at}
use Rattle.plan.specs.declared.Edge as struct-of-edge
use Rattle.plan.specs.declared.Atom as struct-of-atom
use Rattle.plan.specs.declared.Kind.TheVariants.{Reaches}

-- The values that stand for an element behind a table's end.
abbrev pub blank_edge : struct-of-edge.Edge
blank_edge = record { from = 0; to = 0; length = 0; variable = 0 }

abbrev pub blank_atom : struct-of-atom.Atom
blank_atom = record { kind = Reaches; from = 0; to = 0; bound = 0; variable = 0 }

pub edges_length : (l : List struct-of-edge.Edge) → length (edges_of l) ≡ length l
unfolding edges_of
edges_length [] = refl
edges_length (e ∷ r) = ap suc (edges_length r)

pub atoms_length : (l : List struct-of-atom.Atom) → length (atoms_of l) ≡ length l
unfolding atoms_of
atoms_length [] = refl
atoms_length (A ∷ r) = ap suc (atoms_length r)

pub edges_at : (l : List struct-of-edge.Edge) (k : ℕ) → edge_of (get_or l k blank_edge) ≡ edge (edges_of l) k
unfolding edges_of
edges_at [] k = refl
edges_at (e ∷ r) zero = refl
edges_at (e ∷ r) (suc k) = edges_at r k

pub atoms_at : (l : List struct-of-atom.Atom) (k : ℕ) → atom_of (get_or l k blank_atom) ≡ atom (atoms_of l) k
unfolding atoms_of
atoms_at [] k = refl
atoms_at (A ∷ r) zero = refl
atoms_at (A ∷ r) (suc k) = atoms_at r k

-- An element read from a table is one of the list.
pub edge_listed : (l : List struct-of-edge.Edge) (k : ℕ) → k < length l → Memᴰ (edge (edges_of l) k) (edges_of l)
edge_listed l k h = mem_at (edges_of l) no_edge k (omega (arith, edges_length l))

pub atom_listed : (l : List struct-of-atom.Atom) (k : ℕ) → k < length l → Memᴰ (atom (atoms_of l) k) (atoms_of l)
atom_listed l k h = mem_at (atoms_of l) no_atom k (omega (arith, atoms_length l))
