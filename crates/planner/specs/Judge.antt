-- The statement of the public call `judge`.
-- Assumes nothing.
use Rattle.std.specs.Prelude.{List, ℕ, ℤ, Result, Ok, Err}
use Rattle.plan.specs.Meaning.{PlanFile}
use Rattle.plan.specs.Judging.{plan, no_true, wrong, Judged}
use Rattle.reader.specs.Format.{read_plan}
use Rattle.plan.specs.declared.refusal.Refusal.{Refusal}
use Rattle.judge.specs.declared.Judgement.{Judgement}
use Rattle.judge.specs.declared.Judgement.TheVariants.{Plan, Clause, Atom}
use Rattle.planner.specs.Refusing.{Met, clear, after_reading, require_length, require_values, is_set, Refuses, By}

-- What is asked of the inputs, in 01's order of refusals.
abbrev pub judge_checks : List ℤ → PlanFile → Met
judge_checks a φ = require_length φ a (require_values is_set a (clear φ))

-- "'plan', or the first clause without a true literal, or, if there is none, the first atom whose variable is wrong": where nothing is refused.
abbrev pub JudgeCase : PlanFile → List ℤ → Result Judgement Refusal → Type 0
JudgeCase φ a (Err y) = ⊥
JudgeCase φ a (Ok Plan) = Judged φ a plan
JudgeCase φ a (Ok (Clause k)) = Judged φ a (no_true k)
JudgeCase φ a (Ok (Atom k)) = Judged φ a (wrong k)

-- The statement by what is met; of the call: by what reading and then the checks meet.
abbrev pub JudgeBy : Met → List ℤ → Result Judgement Refusal → Type 0
JudgeBy m a r = By m (λ n v. Refuses Err n v r) (λ φ. JudgeCase φ a r)

abbrev pub JudgeIs : List ℕ → List ℤ → Result Judgement Refusal → Type 0
JudgeIs file a r = JudgeBy (after_reading (read_plan file) (judge_checks a)) a r
