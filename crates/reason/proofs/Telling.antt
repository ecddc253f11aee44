-- A struct keeps only that its distances are those of a graph; the levels of walks tell each again.
-- Assumes nothing.
use mathlib.Core.Path.{◌≡◌, subst}
use mathlib.Core.List.{List, Memᴰ}
use Prim.Native.Nat.{ℕ, ◌≤◌, ◌<◌}
use native.Mathlib.Omega.{arith}
use lib.Dec.{T, T_prop}
use Rattle.std.proofs.Props.{props}
use Rattle.std.proofs.Math.Bridge.{le_prop}
use Rattle.std.proofs.Math.Logic.{∥∥₁_elim, ∥∥₁_map}
use mathlib.Core.Bool.{Bool, true, false}
use Rattle.plan.specs.Meaning.{Edge, Graph, Cost, Distance, Walk, measure_of}
use Rattle.plan.specs.Tables.{edges_of, atom_of}
use Rattle.plan.proofs.Levels.{sound, complete}
use Rattle.plan.proofs.Walks.{Pays, pays_by}
use Rattle.walk.specs.declared.distances.Distances.{Distances}
use Rattle.walk.specs.Walking.{reached_in, distance_in, DistanceTable, Settling}
use Rattle.reason.specs.declared.question.Question.{Question}
use Rattle.reason.specs.declared.path.Path.{Path}
use Rattle.reason.specs.declared.cut.Cut as struct-of-cut

module _ {c : Cost} {es : List Edge} {g : Graph} {s : ℕ} {d : Distances} (pays : Pays c es) (inside : (e : Edge) → Memᴰ e es → e.to < 64) (start : s < 64) (h : ∥ DistanceTable c es g s d ∥₁) where
  there : (w k : ℕ) → T (reached_in d w) × (distance_in d w ≡ k) → Distance c es g s w k
  there w k q =
      let y : ∥ Distance c es g s w k ∥₁ = ∥∥₁_map h (λ t. (t.number w k).0 q) in
      let fewest : (j : ℕ) → Walk c es g s w j → k ≤ j = λ j r. ∥∥₁_elim y le_prop (λ x. x.fewest j r) in
      let near = sound c 64 es g s pays k w (∥∥₁_elim y (T_prop _) (λ x. complete c 64 es g s inside start pays w k x.walk)) in
      record { walk = subst (λ j. Walk c es g s w j) (omega (arith, near.1, fewest near.0 near.2)) near.2; fewest = fewest }

  pub table_of : DistanceTable c es g s d
  table_of = record { number = λ w k. (there w k, λ x. ∥∥₁_elim h (hlevel (T_prop, props)) (λ t. (t.number w k).1 x)) }

told : (q : Question) (b : Bool) (d : Distances) → ∥ Settling (edges_of q.edges.now) q.assignment.now (atom_of q.atom) b d ∥₁ → Settling (edges_of q.edges.now) q.assignment.now (atom_of q.atom) b d
told q b d h = table_of (pays_by (measure_of q.atom.kind) (edges_of q.edges.now) q.fits.long) (λ e m. (q.fits.inside e m).1) q.ends.from_in h

pub path_table : (p : Path) → Settling (edges_of p.question.edges.now) p.question.assignment.now (atom_of p.question.atom) true p.distances.now
path_table p = told p.question true p.distances.now p.table

pub cut_table : (p : struct-of-cut.Cut) → Settling (edges_of p.question.edges.now) p.question.assignment.now (atom_of p.question.atom) false p.distances.now
cut_table p = told p.question false p.distances.now p.table
