-- The ways out of a part of the search, with the count so far and the budget.
-- Assumes nothing.
use mathlib.Core.Path.{◌≡◌, refl, subst}
use mathlib.Core.Logic.{◌≢◌}
use mathlib.Core.List.{List}
use Prim.Native.Nat.{ℕ, suc, ◌+◌, ◌-◌, ◌≤◌, ◌<◌}
use native.Mathlib.Omega.{arith}
use lib.IntN.{ℤ}
use lib.ListN.{take}
use Rattle.plan.specs.Meaning.{PlanFile, add, true_in, Full}
use Rattle.plan.specs.Ranged.{Ranged}
use Rattle.plan.specs.Closing.{Clashes}
use Rattle.plan.specs.Search.{Closes, Lowest, tried_first, tried_then, nothing, Answer, decided, Searched}
use Rattle.plan.specs.declared.Assignment.{Assignment}
use Rattle.plan.proofs.Budget.{at_clash, at_plan, no_budget, first_decides, then_decides}
use Rattle.search.specs.Report.{verdict_of, Reported}
use Rattle.search.specs.declared.Verdict.{Verdict}
use Rattle.search.specs.declared.Verdict.TheVariants.{Plan, Impossible, Undecided}

-- a part that ends without a branching
pub report_clash : (φ : PlanFile) (a : List ℤ) (budget count : ℕ) → count ≤ budget → Clashes φ (true_in a) → Reported φ a budget count Impossible count
report_clash φ a budget count h f = record { own = 0; sum = omega arith; most = h; searched = at_clash φ a (budget - count) f }

pub report_plan : (φ : PlanFile) (a : List ℤ) (held : Assignment) (budget count : ℕ) → count ≤ budget → Closes φ a (take φ.variables held.values) → Full φ.variables (take φ.variables held.values)
    → Reported φ a budget count (Plan held) count
report_plan φ a held budget count h k f = record { own = 0; sum = omega arith; most = h; searched = at_plan φ a (take φ.variables held.values) (budget - count) k f }

move : {φ : PlanFile} {a : List ℤ} {m n b c : ℕ} {o : Answer} → m ≡ n → b ≡ c → Searched φ a m o b → Searched φ a n o c
move {φ} {a} {m} {n} {b} {c} {o} e f s = subst (λ k. Searched φ a k o c) e (subst (λ k. Searched φ a m o k) f s)

pub report_from : (φ : PlanFile) (a c : List ℤ) (budget count total : ℕ) (v : Verdict) → a ≡ c → Reported φ a budget count v total → Reported φ c budget count v total
report_from φ a c budget count total v e r = subst (λ z. Reported φ z budget count v total) e r

-- a branching on the variable at place i of the closed set c
module _ (φ : PlanFile) (ok : Ranged φ) (a c : List ℤ) (i : ℕ) (k : Closes φ a c) (l : Lowest c i) (budget count : ℕ) where
  pub stop_here : count ≡ budget → Reported φ a budget count Undecided count
  stop_here e = record { own = 0; sum = omega arith; most = omega arith; searched = move (omega arith) refl (no_budget φ ok a c i k l) }

  module _ (less : count < budget) where
    room : suc (budget - (count + 1)) ≡ budget - count
    room = omega arith

    -- the first side held a plan, or used up the budget
    pub first_side : (v : Verdict) → v ≢ Impossible → (total : ℕ) → Reported φ (add c (tried_first φ (suc i))) budget (count + 1) v total → Reported φ a budget count v total
    first_side v n total r =
        record { own = suc r.own; sum = omega (arith, r.sum); most = r.most; searched = move room refl (first_decides φ ok a c i k l (other v n) r.searched) }
      where
        other : (v : Verdict) → v ≢ Impossible → verdict_of φ.variables v ≡ decided nothing → ⊥
        other (Plan held) n e = let z : ◌≡◌ {A = ℕ} 0 1 = cc in omega arith
        other Impossible n e = n refl
        other Undecided n e = let z : ◌≡◌ {A = ℕ} 0 1 = cc in omega arith

    -- it held no plan, and the other was tried
    pub then_side : (middle : ℕ) → Reported φ (add c (tried_first φ (suc i))) budget (count + 1) Impossible middle
        → (v : Verdict) (total : ℕ) → Reported φ (add c (tried_then φ (suc i))) budget middle v total → Reported φ a budget count v total
    then_side middle x v total y =
        let rest : budget - middle ≡ (budget - (count + 1)) - x.own = omega (arith, x.sum) in record {
          own = suc (x.own + y.own);
          sum = omega (arith, x.sum, y.sum);
          most = y.most;
          searched = move room refl (then_decides φ ok a c i k l x.searched (move rest refl y.searched));
        }

-- the whole search, with nothing counted before it
pub report_whole : (φ : PlanFile) (a : List ℤ) (budget total : ℕ) (v : Verdict) → Reported φ a budget 0 v total → Searched φ a budget (verdict_of φ.variables v) total
report_whole φ a budget total v r = move (omega arith) (omega (arith, r.sum)) r.searched
