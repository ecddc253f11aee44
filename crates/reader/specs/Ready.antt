-- What taking a record asks.
-- Assumes nothing.
use Rattle.std.specs.Prelude.{List, ℕ, ◌≤◌, length}
use Rattle.std.proofs.Props.{props}
use Rattle.plan.specs.Ranged.{max_nodes, max_variables, max_edges, max_atoms, max_clauses, max_literals}
use Rattle.plan.specs.declared.Plan as counted
use Rattle.reader.specs.Format.{after}

-- the limits, of the counts
pub record Room (c : counted.Plan) : Type 0 where
  pub nodes : c.nodes ≤ max_nodes
  pub variables : c.variables ≤ max_variables
  pub edges : c.edges ≤ max_edges
  pub atoms : c.atoms ≤ max_atoms
  pub clauses : c.clauses ≤ max_clauses
  pub literals : c.literals ≤ max_literals

-- the record at the offset ends in the file, and the counts are within the limits
pub record Ready (f : List ℕ) (at : ℕ) (c : counted.Plan) : Type 0 where
  pub within : after f at ≤ length f
  pub room : Room c

-- That has one proof at the most, which a field of a struct needs.
pub ready_once : (f : List ℕ) (at : ℕ) (c : counted.Plan) → IsProp (Ready f at c)
ready_once f at c = Prim.hlevel props
