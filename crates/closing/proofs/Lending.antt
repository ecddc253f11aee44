-- What the lent tables of a plan file are to the functions that read them.
-- Assumes nothing.
use mathlib.Core.Path.{◌≡◌, refl, sym, subst}
use mathlib.Core.List.{List}
use Prim.Native.Nat.{ℕ, ◌≤◌, ◌<◌}
use native.Mathlib.Omega.{arith}
use lib.ListN.{length, get_or}
use lib.IntN.{ℤ, pos, nat_abs, ℤ_discrete}
use Rattle.std.specs.Prelude.{Result, Ok, Err, ⊤}
use Rattle.plan.specs.Meaning.{atom, true_in}
use Rattle.plan.specs.Ranged.{max_variables}
use Rattle.plan.specs.Closing.{Clashes}
use Rattle.plan.specs.Search.{Assigned}
use Rattle.plan.specs.Tables.{atoms_of, clauses_of, plan_of, Lent}
use Rattle.plan.specs.ClauseTable.{Table}
use Rattle.plan.specs.declared.Plan.{Plan}
use Rattle.plan.specs.declared.Edge as struct-of-edge
use Rattle.plan.specs.declared.Atom as struct-of-atom
use Rattle.plan.proofs.ByPlace.{atom_listed}
use Rattle.plan.proofs.ClauseTable.{lent_table, lent_length}
use Rattle.index.specs.Places.{Indexable}
use Rattle.unit.specs.Onward.{Onward}
use Rattle.unit.specs.Clauses.{Ready, HasClauses, AllQuiet, Propagated}
use Rattle.unit.specs.declared.Clash.{Clash}
use Rattle.closing.specs.Atoms.{AtomReady, HasTables}

-- the lent tables
module _ (p : Plan) (es : List struct-of-edge.Edge) (bs : List struct-of-atom.Atom) (cs : List ℤ) (lent : Lent p es bs cs) where
  pub lent_indexable : Indexable cs
  lent_indexable = record {
    short = omega (arith, lent_length lent, lent.ranged.clauses, lent.ranged.literals);
    small = small;
  }
    where
      small : (k : ℕ) → k < length cs → nat_abs (get_or cs k (pos 0)) ≤ max_variables
      small k h = go (ℤ_discrete (get_or cs k (pos 0)) (pos 0))
        where
          go : Dec (get_or cs k (pos 0) ≡ pos 0) → nat_abs (get_or cs k (pos 0)) ≤ max_variables
          go (yes e) = rw e (omega arith)
          go (no n) = omega (arith, ((lent_table lent).fits k h n).high, lent.ranged.variables)

module _ {p : Plan} {es : List struct-of-edge.Edge} {bs : List struct-of-atom.Atom} {cs : List ℤ} (lent : Lent p es bs cs) {a : List ℤ} (s : Assigned p.variables a) where
  pub lent_ready : Ready cs a
  lent_ready = record {
    shape = subst (λ n. Assigned n a) (sym s.long) s;
    small = omega (arith, lent.ranged.variables, s.long);
    table = subst (λ n. Table n cs) (sym s.long) (lent_table lent);
  }

  pub lent_tables : HasTables es bs a (plan_of p es bs cs)
  lent_tables = record { ranged = lent.ranged; shape = s; edges = refl; atoms = refl }

  has_clauses : HasClauses (length a) cs (plan_of p es bs cs)
  has_clauses = record { ranged = lent.ranged; size = sym s.long; clauses = refl }

  -- an atom of the table has its variable
  pub atom_ready : (k : ℕ) → k < length bs → AtomReady a (atom (atoms_of bs) k)
  atom_ready k h =
      let f = lent.ranged.atom (atom (atoms_of bs) k) (atom_listed bs k h) in record {
        shape = lent_ready.shape;
        small = lent_ready.small;
        fits = record { from_in = omega (arith, f.from_in, lent.ranged.nodes); to_in = omega (arith, f.to_in, lent.ranged.nodes); low = f.low; high = omega (arith, f.high, s.long) };
      }

  -- what the clauses give
  module _ {w : List ℤ} where
    pub passed_on : {r : Result ⊤ Clash} → Propagated cs a w r → Onward (plan_of p es bs cs) a w
    passed_on x = x.steps.onward (plan_of p es bs cs) has_clauses

    pub passed_clash : {clash : Clash} → Propagated cs a w (Err clash) → Clashes (plan_of p es bs cs) (true_in a)
    passed_clash x = x.ends (plan_of p es bs cs) has_clauses

    pub passed_quiet : {u : ⊤} → Propagated cs a w (Ok u) → AllQuiet (true_in w) (clauses_of cs)
    passed_quiet x = x.ends
