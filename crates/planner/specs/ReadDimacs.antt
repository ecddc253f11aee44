-- The statement of the public call `read_dimacs`: its answer, and the output buffer before and after. Document 02, C-11.
-- Assumes nothing.
use Rattle.std.specs.Prelude.{◌≡◌, List, ℕ, length, leb, Result, Ok, Err}
use Rattle.plan.specs.Meaning.{PlanFile}
use Rattle.plan.specs.Buffers.{Wrote}
use Rattle.plan.specs.Ranged.{literals}
use Rattle.reader.specs.Format.{read_plan}
use Rattle.dimacs.specs.Reading.{Rule, Rules, refused, rules, literals_of, read_rules}
use Rattle.dimacs.specs.Records.{records}
use Rattle.plan.specs.declared.refusal.Refusal.{Refusal}
use Rattle.dimacs.specs.declared.Rules as answer
use Rattle.planner.specs.Refusing.{Met, refusal, clear, after_reading, require, KeepingBy}

-- What the text reads as beside a plan file: refusals 20, 21, 22 and 7, or its clauses.
abbrev pub rules_for : PlanFile → List ℕ → Rules
rules_for φ text = read_rules φ.variables (length φ.clauses) (literals φ.clauses) text

-- "12 with the bytes needed": those of the clause records
abbrev pub with_room : List ℕ → PlanFile → Rules → Met
with_room before φ (refused n v) = refusal n v
with_room before φ (rules rs) = require (leb (length (records (literals_of rs))) (length before)) 12 (length (records (literals_of rs))) (clear φ)

abbrev pub rules_checks : List ℕ → List ℕ → PlanFile → Met
rules_checks text before φ = with_room before φ (rules_for φ text)

-- "It writes the clause records of the text's clauses, in order, and answers with the counts of clauses and literals."
pub record RulesWritten (φ : PlanFile) (text before after : List ℕ) (clauses literal : ℕ) : Type 0 where
  pub of : List Rule
  pub read : rules_for φ text ≡ rules of
  pub count : clauses ≡ length of
  pub literals_are : literal ≡ literals (literals_of of)
  pub wrote : Wrote (records (literals_of of)) before after

-- The records are written: where nothing is refused.
abbrev pub RulesCase : PlanFile → List ℕ → List ℕ → List ℕ → Result answer.Rules Refusal → Type 0
RulesCase φ text before after (Err y) = ⊥
RulesCase φ text before after (Ok r) = RulesWritten φ text before after r.clauses r.literals

-- The statement by what is met; of the call: by what reading and then the checks meet.
abbrev pub RulesBy : Met → List ℕ → List ℕ → List ℕ → Result answer.Rules Refusal → Type 0
RulesBy m text before after r = KeepingBy m Err (λ φ. RulesCase φ text before after r) before after r

abbrev pub RulesReadIs : List ℕ → List ℕ → List ℕ → List ℕ → Result answer.Rules Refusal → Type 0
RulesReadIs file text before after r = RulesBy (after_reading (read_plan file) (rules_checks text before)) text before after r
