-- What an accepted file leaves in the tables is what the library lends on: the plan file itself, in range.
-- Assumes nothing.
use mathlib.Core.Logic.{◌≢◌}
use Rattle.std.specs.Prelude.{Ok}
use Rattle.reader.proofs.Kit.{◌≡◌, sym, ap, ◌∙◌, subst, List, List-as-Memᴰ, ℕ, ◌+◌, arith, ℤ, pos, nat_abs, length, take}
use Rattle.plan.specs.Ranged.{literals, Ranged}
use Rattle.plan.specs.Written.{flat}
use Rattle.plan.specs.Tables.{clauses_of, plan_of, Lent}
use Rattle.plan.specs.File.{file_of}
use Rattle.plan.specs.declared.Plan as counted
use Rattle.plan.specs.declared.tables.Tables as lent
use Rattle.plan.proofs.ByPlace.{edges_length, atoms_length}
use Rattle.plan.proofs.ClauseTable.{clauses_back}
use Rattle.reader.specs.declared.Buffers.{Buffers}
use Rattle.reader.specs.Format.{Reading, refused, accepted, read_plan}
use Rattle.reader.specs.Reads.{Reads}
use Rattle.reader.proofs.Loop.{Whole}

-- the used parts of the tables, cut by the counts
module _ {f : List ℕ} {c : counted.Plan} {b : Buffers} (w : Whole f c b) where
  not_zero : (C : List ℤ) → List-as-Memᴰ C w.plan.clauses → (l : ℤ) → List-as-Memᴰ l C → l ≢ pos 0
  not_zero C m l k e = let z : nat_abs l ≡ 0 = ap nat_abs e in omega (arith, (w.ranged.literal C m l k).low)

  clauses_are : clauses_of (take (c.literals + c.clauses) b.clauses) ≡ w.plan.clauses
  clauses_are = ap clauses_of w.tables.written ∙ clauses_back w.plan.clauses not_zero

  pub same : plan_of c (take c.edges b.edges) (take c.atoms b.atoms) (take (c.literals + c.clauses) b.clauses) ≡ w.plan
  same =
      let n : c.nodes ≡ w.plan.nodes = sym w.tables.nodes in
      let v : c.variables ≡ w.plan.variables = sym w.tables.variables in
      λ i. record { nodes = n i; variables = v i; edges = w.tables.edges.stand i; atoms = w.tables.atoms.stand i; clauses = clauses_are i }

  pub lending_of : Lent c (take c.edges b.edges) (take c.atoms b.atoms) (take (c.literals + c.clauses) b.clauses)
  lending_of = record {
    ranged = subst Ranged (sym same) w.ranged;
    edges = sym (edges_length (take c.edges b.edges)) ∙ ap length w.tables.edges.stand ∙ w.tables.edges.count;
    atoms = sym (atoms_length (take c.atoms b.atoms)) ∙ ap length w.tables.atoms.stand ∙ w.tables.atoms.count;
    clauses = ap length clauses_are ∙ w.tables.clauses;
    literals = ap literals clauses_are ∙ w.tables.literals;
    ended = ap flat clauses_are ∙ sym w.tables.written;
  }

  pub reads : read_plan f ≡ accepted (plan_of c (take c.edges b.edges) (take c.atoms b.atoms) (take (c.literals + c.clauses) b.clauses))
  reads = w.reads ∙ ap accepted (sym same)

-- the plan file of the tables, and what is guaranteed of them
pub record Lending (f : List ℕ) (t : lent.Tables) : Type 0 where
  pub reads : read_plan f ≡ accepted (file_of t)
  pub lent : Lent t.plan t.edges.now t.atoms.now t.clauses.now

pub lending : (f : List ℕ) (t : lent.Tables) → Reads (read_plan f) (Ok t) → Lending f t
lending f t h = record { reads = go (read_plan f) h; lent = t.lent }
  where
    go : (q : Reading) → Reads q (Ok t) → q ≡ accepted (file_of t)
    go (refused n v) h = absurd h
    go (accepted p) h = ap accepted (sym h)
