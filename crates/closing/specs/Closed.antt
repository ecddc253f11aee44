-- What closing a lent assignment answers, and what each step towards it says.
-- Assumes nothing.
use Rattle.std.specs.Prelude.{◌≡◌, Result, Ok, Err, ⊤, List, ◌<◌, ℤ}
use Rattle.plan.specs.Meaning.{PlanFile, true_in}
use Rattle.plan.specs.Closing.{Clashes}
use Rattle.plan.specs.Search.{opens, Outcome, nothing, found}
use Rattle.unit.specs.Onward.{Onward}
use Rattle.unit.specs.declared.Clash.{Clash}
use Rattle.closing.specs.declared.Step.{Step}
use Rattle.closing.specs.declared.Step.TheVariants.{Set, Still}

-- The answer of `close`, with the assignment that it leaves: an error is a clash.
abbrev pub closed_of : Result ⊤ Clash → List ℤ → Outcome
closed_of (Err c) a = nothing
closed_of (Ok u) a = found a

-- Two steps without a clash, one behind the other.
abbrev pub or : Step → Step → Step
or Set s = Set
or Still s = s

-- A step from v to w loses nothing. It is a clash; or fewer variables are open, and there is More to say; or it says that it is Done.
abbrev pub Tells : PlanFile → Type 0 → Type 0 → List ℤ → List ℤ → Result Step Clash → Type 0
Tells φ More Done v w (Err c) = Clashes φ (true_in v)
Tells φ More Done v w (Ok Set) = (opens w < opens v) × More
Tells φ More Done v w (Ok Still) = Done

pub record Moves (φ : PlanFile) (More Done : Type 0) (v w : List ℤ) (r : Result Step Clash) : Type 0 where
  pub onward : Onward φ v w
  pub tells : Tells φ More Done v w r

-- A step that sees to P, and is still where nothing changed.
abbrev pub Looks : PlanFile → Type 0 → List ℤ → List ℤ → Result Step Clash → Type 0
Looks φ P v w r = Moves φ P ((w ≡ v) × P) v w r
