-- `walk::settled`: true by the one table is "holds", true by the other "open", neither is "fails".
use mathlib.Core.Path.{refl}
use mathlib.Core.Bool.{Bool, true, false}
use mathlib.Core.List.{List}
use lib.IntN.{ℤ}
use Rattle.plan.specs.Meaning.{PlanFile, true_in}
use Rattle.plan.specs.Closing.{Settles}
use Rattle.plan.specs.Tables.{atom_of}
use Rattle.walk.specs.Walking.{Settling}
use Rattle.walk.proofs.Truths.{so, not_so}
use Rattle.walk.proofs.settled.Goals as goal
use Rattle.walk.proofs.settled.Goals.{Then-is_true-2}

pub returns-then-is_true : goal.returns-then-is_true
returns-then-is_true c = λ φ a u o. (c.is_true.ensures φ.edges _ u).0 (so refl c.if-is_true.true)

pub returns-then-is_true-2 : goal.returns-then-is_true-2
returns-then-is_true-2 c = λ φ a u o. none c φ a u o
  where
    none : (c : Then-is_true-2) (φ : PlanFile) (a : List ℤ) → Settling φ.edges a (atom_of c.args.atom) true c.args.holding.now
        → Settling φ.edges a (atom_of c.args.atom) false c.args.failing.now → (b : Bool) → Settles φ (true_in a) (atom_of c.args.atom) b → ⊥
    none c φ a u o true = λ h. not_so refl c.if-is_true.false ((c.is_true.ensures φ.edges _ u).1 h)
    none c φ a u o false = λ f. f ((c.is_true-else-is_true.ensures φ.edges _ o).0 (so refl c.if-is_true-2.true))

pub returns-else-is_true-2 : goal.returns-else-is_true-2
returns-else-is_true-2 c = λ φ a u o h. not_so refl c.if-is_true-2.false ((c.is_true-else-is_true.ensures φ.edges _ o).1 h)
