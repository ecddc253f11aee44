-- An edge that is read from a table: its ends are nodes, and its variable has a place in the assignment.
-- Assumes nothing.
use mathlib.Core.Path.{◌≡◌}
use mathlib.Core.List.{List, Memᴰ}
use Prim.Native.Nat.{ℕ, ◌<◌, ◌≤◌}
use lib.ListN.{length}
use Rattle.plan.specs.Meaning.{edge}
use Rattle.plan.specs.Tables.{edge_of, edges_of}
use Rattle.plan.specs.declared.Edge as struct-of-edge
use Rattle.plan.proofs.ByPlace.{edge_listed}
use Rattle.walk.specs.Walking.{Inside, Placed}

module _ (l : List struct-of-edge.Edge) (k : ℕ) (e : struct-of-edge.Edge) (here : edge_of e ≡ edge (edges_of l) k) (h : k < length l) where
  pub its_listed : Memᴰ (edge_of e) (edges_of l)
  its_listed = rw here (edge_listed l k h)

  pub ends_in : Inside (edges_of l) → (e.from < 64) × (e.to < 64)
  ends_in i = i _ its_listed

  pub variable_in : {n : ℕ} → Placed (edges_of l) n → (1 ≤ e.variable) × (e.variable ≤ n)
  variable_in p = p _ its_listed
