-- The used parts of the tables that an accepted file leaves: they fit, and they are what the library lends on.
-- Assumes nothing.
use Rattle.reader.proofs.Kit.{◌≡◌, sym, subst, List, ℕ, ◌+◌, ℤ, take}
use Rattle.std.specs.Prelude.{Ok}
use Rattle.plan.specs.Tables.{plan_of, Lent}
use Rattle.plan.specs.declared.Plan.{Plan}
use Rattle.plan.specs.declared.Edge as struct-of-edge
use Rattle.plan.specs.declared.Atom as struct-of-atom
use Rattle.reader.specs.declared.Buffers.{Buffers}
use Rattle.reader.specs.Format.{accepted, read_plan}
use Rattle.reader.specs.Ready.{Room}
use Rattle.reader.specs.Filling.{Answers}
use Rattle.reader.proofs.Exact.{given}
use Rattle.reader.proofs.Loop.{Whole}
use Rattle.reader.proofs.Lending.{lending_of, reads}

-- the file is the plan file of these parts
pub record Parts (file : List ℕ) (p : Plan) (es : List struct-of-edge.Edge) (bs : List struct-of-atom.Atom) (cs : List ℤ) : Type 0 where
  pub reads : read_plan file ≡ accepted (plan_of p es bs cs)
  pub lent : Lent p es bs cs

-- what `read_into` left of an accepted file
module _ (file : List ℕ) (b : Buffers) {p : Plan} (h : Answers (read_plan file) (Ok p) b) where
  pub room : Room p
  room = (given file p b h).room

  whole_file : Whole file p b
  whole_file = let g = given file p b h in record { plan = g.plan; reads = g.reads; tables = g.tables; ranged = g.ranged }

  -- the tables, as far as they are filled, are the file
  pub filled : Parts file p (take p.edges b.edges) (take p.atoms b.atoms) (take (p.literals + p.clauses) b.clauses)
  filled = record { reads = reads whole_file; lent = lending_of whole_file }

  -- and so are the parts that are cut from them
  pub parts : {es : List struct-of-edge.Edge} {bs : List struct-of-atom.Atom} {cs : List ℤ} → es ≡ take p.edges b.edges → bs ≡ take p.atoms b.atoms
      → cs ≡ take (p.literals + p.clauses) b.clauses → Parts file p es bs cs
  parts {es} {bs} {cs} x y z =
      subst (λ (es : List struct-of-edge.Edge). Parts file p es bs cs) (sym x)
      (subst (λ (bs : List struct-of-atom.Atom). Parts file p (take p.edges b.edges) bs cs) (sym y)
      (subst (λ (cs : List ℤ). Parts file p (take p.edges b.edges) (take p.atoms b.atoms) cs) (sym z) filled))
