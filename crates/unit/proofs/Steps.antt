-- The laws of one step of closing and of several.
-- Assumes nothing.
use mathlib.Core.List.{List}
use Prim.Native.Nat.{◌≤◌, ◌<◌}
use native.Mathlib.Omega.{arith}
use lib.IntN.{ℤ, neg_ℤ, nat_abs}
use lib.Dec.{T}
use Rattle.plan.specs.Meaning.{PlanFile, true_in, add}
use Rattle.plan.specs.Ranged.{Ranged}
use Rattle.plan.specs.Closing.{Gives}
use Rattle.plan.specs.Search.{Assigned, opens}
use Rattle.plan.proofs.Add.{add_above, add_shape, add_opens, opens_sub}
use Rattle.plan.proofs.Exists.{gives_range, step_add}
use Rattle.unit.specs.Onward.{Onward}

-- steps one behind the other
module _ (φ : PlanFile) where
  pub onward_none : (v : List ℤ) → Assigned φ.variables v → Onward φ v v
  onward_none v s = record { shape = s; above = λ l t. t; back = λ o h. h }

  pub onward_then : (u v w : List ℤ) → Onward φ u v → Onward φ v w → Onward φ u w
  onward_then u v w a b = record { shape = b.shape; above = λ l t. b.above l (a.above l t); back = λ o h. a.back o (b.back o h) }

  pub onward_fewer : (v w : List ℤ) → Assigned φ.variables v → Onward φ v w → opens w ≤ opens v
  onward_fewer v w s a = opens_sub φ.variables v w s a.shape a.above

-- a literal that a rule gives
module _ (φ : PlanFile) (ok : Ranged φ) (v : List ℤ) (s : Assigned φ.variables v) (l : ℤ) (g : Gives φ (true_in v) l) where
  in_range : (0 < nat_abs l) × (nat_abs l ≤ φ.variables)
  in_range = gives_range φ ok (true_in v) l g

  pub onward_add : (T (true_in v (neg_ℤ l)) → ⊥) → Onward φ v (add v l)
  onward_add n = record {
    shape = add_shape φ.variables v l (omega (arith, s.long, in_range.1)) s;
    above = add_above v l (omega (arith, s.long, in_range.1)) n;
    back = step_add φ ok v l s.long g n;
  }

  pub fewer_add : (T (true_in v l) → ⊥) → (T (true_in v (neg_ℤ l)) → ⊥) → opens (add v l) < opens v
  fewer_add x y = omega (arith, add_opens φ.variables v l s in_range.0 in_range.1 x y)
