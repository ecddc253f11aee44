-- A closed set, and a literal that is tried on it.
-- Assumes nothing.
use mathlib.Core.Path.{◌≡◌, refl, sym, subst}
use mathlib.Core.List.{List}
use Prim.Native.Nat.{ℕ, suc, ◌≤◌}
use native.Mathlib.Omega.{arith}
use lib.IntN.{ℤ, nat_abs}
use Rattle.std.specs.Prelude.{Some}
use Rattle.plan.specs.Meaning.{PlanFile, true_in, add}
use Rattle.plan.specs.Closing.{unit, all_false}
use Rattle.plan.specs.Search.{Assigned, Closes, Lowest}
use Rattle.plan.specs.Tables.{clauses_of}
use Rattle.plan.proofs.Search.{low_n, tried_open, other_open, tried_shape}
use Rattle.unit.specs.Clauses.{AllQuiet}
use Rattle.unit.specs.Queue.{Known}

pub closed_quiet : (φ : PlanFile) (a c : List ℤ) → Closes φ a c → AllQuiet (true_in c) φ.clauses
closed_quiet φ a c k C m = record {
  there = λ l i others. k.closed.closing.obeys l (unit C m l i others);
  free = λ f. k.closed.free (all_false C m f);
}

-- a literal of the lowest open variable
pub known_tried : (n : ℕ) (cs c : List ℤ) (i : ℕ) → Assigned n c → Lowest c i → AllQuiet (true_in c) (clauses_of cs) → (x : ℤ) → nat_abs x ≡ suc i → Known cs (add c x) (Some x)
known_tried n cs c i s l q x e =
    let h : nat_abs x ≤ n = omega (arith, low_n n c i s l) in
    let t = tried_shape n c i s l x e in record {
      before = c;
      shape = subst (λ k. Assigned k c) (sym t.long) s;
      fits = record { low = omega arith; high = omega (arith, t.long) };
      not_true = tried_open n c i s l x e;
      not_false = other_open n c i s l x e;
      is = refl;
      quiet = q;
    }
