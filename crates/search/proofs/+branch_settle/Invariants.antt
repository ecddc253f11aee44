-- What falls from call to call: twice the open variables, and one more where they are still to be closed.
use mathlib.Core.List.{List}
use Prim.Native.Nat.{ℕ, ◌+◌}
use lib.IntN.{ℤ}
use lib.ListN.{take}
use Rattle.plan.specs.Search.{opens}
use Rattle.search.proofs.+branch_settle.Given as goal

abbrev pub twice_open : ℕ → List ℤ → ℕ
twice_open n l = opens (take n l) + opens (take n l)

abbrev pub decreases-branch : goal.decreases-branch
decreases-branch l = twice_open l.prepared.now.tables.plan.variables l.a.values

abbrev pub decreases-settle : goal.decreases-settle
decreases-settle l = twice_open l.prepared.now.tables.plan.variables l.a.values + 1
