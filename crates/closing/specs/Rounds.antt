-- Atoms and clauses in turn.
-- Assumes nothing.
use Rattle.std.specs.Prelude.{◌≡◌, Bool, true, false, Result, ℤ, T}
use mathlib.Core.List.{List, Memᴰ}
use Rattle.plan.specs.Meaning.{Edge, PlanFile, value, true_in}
use Rattle.plan.specs.Tables.{edges_of}
use Rattle.plan.specs.declared.Edge as struct-of-edge
use Rattle.unit.specs.Clauses.{AllQuiet}
use Rattle.unit.specs.declared.Clash.{Clash}
use Rattle.closing.specs.Closed.{Moves}
use Rattle.closing.specs.Atoms.{BothHeard}
use Rattle.closing.specs.declared.Step.{Step}

-- No edge's variable changed from v to w, where the answer is true.
abbrev pub SameEdges : List Edge → List ℤ → List ℤ → Type 0
SameEdges es v w = (e : Edge) → Memᴰ e es → value w e.variable ≡ value v e.variable

abbrev pub Unchanged : List struct-of-edge.Edge → List ℤ → List ℤ → Bool → Type 0
Unchanged es v w true = SameEdges (edges_of es) v w
Unchanged es v w false = T true

-- All that the assignment gives by a rule is in it: by a clause, and by an atom.
abbrev pub ClausesQuiet : PlanFile → List ℤ → Type 0
ClausesQuiet φ a = AllQuiet (true_in a) φ.clauses

abbrev pub AtomsQuiet : PlanFile → List ℤ → Type 0
AtomsQuiet φ a = BothHeard φ a a

-- One round: a clash, or more to do with fewer open variables, or all is quiet.
abbrev pub Round : PlanFile → List ℤ → List ℤ → Result Step Clash → Type 0
Round φ v w r = Moves φ (ClausesQuiet φ w) (ClausesQuiet φ w × AtomsQuiet φ w) v w r
