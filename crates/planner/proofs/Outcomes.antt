-- What the crates below answer, as the case of a call's statement.
-- Assumes nothing.
use mathlib.Core.Path.{◌≡◌, refl, sym, ap, ap₂, ◌∙◌}
use mathlib.Core.List.{List, [], ◌∷◌}
use Prim.Native.Nat.{ℕ, suc, ◌-◌, ◌≤◌}
use native.Mathlib.Omega.{arith}
use lib.IntN.{ℤ}
use lib.ListN.{length, take}
use Rattle.std.specs.Prelude.{Ok, Err}
use Rattle.plan.specs.Meaning.{PlanFile, atom}
use Rattle.plan.specs.Refusals.{number_of, value_of}
use Rattle.plan.specs.Tables.{BeginsWith}
use Rattle.plan.specs.declared.refusal.Refusal.{Refusal}
use Rattle.plan.specs.declared.refusal.Refusal.TheVariants.{NoRoom}
use Rattle.plan.specs.declared.refusal.Short.{Short}
use Rattle.plan.specs.Judging.{Judged}
use Rattle.judge.specs.Judgements.{judgement_of}
use Rattle.judge.specs.declared.Judgement.{Judgement}
use Rattle.judge.specs.declared.Judgement.TheVariants as judge
use Rattle.planner.specs.Judge.{JudgeCase}
use Rattle.reason.specs.Answers.{AnswerIs}
use Rattle.reason.specs.declared.Answer.{Answer}
use Rattle.reason.specs.declared.Answer.TheVariants.{Holds, Fails, Open}
use Rattle.search.specs.Report.{Finds}
use Rattle.search.specs.declared.Found.{Found}
use Rattle.search.specs.declared.Found.TheVariants.{Plan, Impossible, Undecided}
use Rattle.planner.specs.Reason.{ReasonCase}
use Rattle.planner.specs.Search.{SearchCase}

-- a list is the front of a longer one that begins with it
pub front_is : (r a : List ℤ) → length a ≤ length r → BeginsWith r a → take (length a) r ≡ a
front_is r [] h b = refl
front_is [] (x ∷ a) h b = absurd (omega arith)
front_is (y ∷ r) (x ∷ a) h b = ap₂ (λ z l. z ∷ l) (b 0 (omega arith)) (front_is r a (omega arith) (λ i l. b (suc i) (omega arith)))

pub judged_is : (φ : PlanFile) (a : List ℤ) (j : Judgement) → Judged φ a (judgement_of j) → JudgeCase φ a (Ok j)
judged_is φ a judge.Plan h = h
judged_is φ a (judge.Clause k) h = h
judged_is φ a (judge.Atom k) h = h

pub found_is : (φ : PlanFile) (budget : ℕ) (before after : List ℤ) (r : Found) → Finds φ budget before after r → SearchCase φ budget before after (Ok r)
found_is φ budget before after (Plan n) f = f.searched
found_is φ budget before after (Impossible n) f = (f.searched, f.keeps)
found_is φ budget before after (Undecided n) f = (f.searched, f.keeps)

module _ (φ : PlanFile) (a : List ℤ) (k : ℕ) (before after : List ℤ) where
  pub reason_is : (r : Answer) → AnswerIs φ a (atom φ.atoms (k - 1)) (Ok r) before after → ReasonCase φ a k before after (Ok r)
  reason_is (Holds n) h = h
  reason_is (Fails n) h = h
  reason_is Open h = h

  pub reason_short : (short : Short) (y : Refusal) → y ≡ NoRoom short.0 → AnswerIs φ a (atom φ.atoms (k - 1)) (Err short) before after → ReasonCase φ a k before after (Err y)
  reason_short short y e h =
      let t = h.2 in
      (h.0, h.1, t.short, record { number = sym (ap number_of e); value = sym t.counted ∙ sym (ap value_of e) }, t.kept)
