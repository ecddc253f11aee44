-- What a check of the code says of the statement's.
-- Assumes nothing.
use Rattle.std.specs.Prelude.{◌≡◌, Result, Ok, Err}
use Rattle.plan.specs.Refusals.{number_of, value_of}
use Rattle.plan.specs.declared.refusal.Refusal.{Refusal}
use Rattle.planner.specs.Refusing.{Met, refusal}

-- From a check the call goes on to what is met behind it, or it refuses with what is met there.
abbrev pub Passes : Met → Met → Result Unit Refusal → Type 0
Passes from onward (Ok u) = from ≡ onward
Passes from onward (Err y) = from ≡ refusal (number_of y) (value_of y)
