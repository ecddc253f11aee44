-- Every promise to the customer in one file: each is a definition whose statement is written out, and whose proof is the law that shows it.
-- A public call's own statement is the `ensures` of its function in src/lib.rt, in the words of specs/. "01" is document 01.
-- Assumes nothing.
use mathlib.Core.Path.{◌≡◌}
use mathlib.Core.Bool.{true, false}
use mathlib.Core.Logic.{◌⊎◌}
use mathlib.Core.List.{List, [], ◌∷◌, ◌++◌, Memᴰ}
use mathlib.Core.Option.{some}
use Prim.Native.Nat.{ℕ, suc, ◌+◌, ◌-◌, ◌*◌, ◌/◌, ◌^◌, ◌≤◌, ◌<◌}
use lib.IntN.{ℤ, pos}
use lib.ListN.{length, take}
use Rattle.std.specs.Prelude.{Result, Ok}
use Rattle.plan.specs.Meaning.{Edge, Graph, PlanFile, Atom, Cost, Walk, Distance, cost_of, IsTrue, Full, HasTrue, IsRight, IsPlan}
use Rattle.plan.specs.Ranged.{max_clauses, InRange, Ranged}
use Rattle.plan.specs.Reason.{holds, fails, ReasonIs, Decides}
use Rattle.plan.specs.Search.{opens, Closes, Outcome, Tree, Before}
use Rattle.plan.specs.Tables.{clauses_of}
use Rattle.plan.specs.Written.{each, flat, blocks, written, last_variable, Satisfies, ExactlyOne}
use Rattle.plan.specs.declared.Plan as counted
use Rattle.plan.specs.declared.refusal.Refusal.{Refusal}
use Rattle.plan.proofs.Cases as cases
use Rattle.plan.proofs.Reason as reasons
use Rattle.encoding.specs.Counts.{Counted}
use Rattle.encoding.proofs.Sizes as sizes
use Rattle.encoding.proofs.Sample as sample
use Rattle.reader.specs.Format.{refuse, next, refused, accepted, tag_at, len_at, fits, add_clause, with_clauses, step_at, read_plan}
use Rattle.reader.proofs.Accepts as accepts
use Rattle.reader.proofs.EmptyClause as empty-records
use Rattle.reader.proofs.Sample as files
use Rattle.dimacs.specs.Words.{line_end, Word}
use Rattle.dimacs.specs.Numbers.{zero_digit, number_in}
use Rattle.dimacs.specs.Reading.{Rule, good, nothing, goes, turn, rules, read_text, literals_of, first_over}
use Rattle.dimacs.specs.Records.{records, inserted}
use Rattle.dimacs.specs.Printing.{entries, head_line}
use Rattle.dimacs.proofs.LoneZero as zeros
use Rattle.dimacs.proofs.ReadBack as back
use Rattle.listing.specs.Text.{block_texts, text, part}
use Rattle.listing.proofs.Parts as parts
use Rattle.judge.specs.declared.Judgement.{Judgement}
use Rattle.judge.specs.declared.Judgement.TheVariants.{Clause}
use Rattle.reason.specs.declared.Answer.{Answer}
use Rattle.search.specs.declared.Found.{Found}
use Rattle.search.specs.declared.Found.TheVariants.{Plan, Impossible, Undecided}
use Rattle.clauses.specs.declared.Counts.{Counts}
use Rattle.dimacs.specs.declared.Rules.{Rules}
use Rattle.planner.specs.declared.CloseAnswer.{CloseAnswer}
use Rattle.planner.specs.declared.CloseAnswer.TheVariants.{Clash}
use Rattle.planner.specs.Refusing.{refusal, clear, Refuses, KeepingBy}
use Rattle.planner.specs.Read.{ReadIs}
use Rattle.planner.specs.Judge.{judge_checks, JudgeIs}
use Rattle.planner.specs.Close.{close_checks, ClosedIs}
use Rattle.planner.specs.Reason.{ReasonedIs}
use Rattle.planner.specs.Search.{all_open, search_checks, SearchedIs}
use Rattle.planner.specs.WriteClauses.{WrittenIs}
use Rattle.planner.specs.WriteDimacs.{PrintedIs}
use Rattle.planner.specs.ReadDimacs.{rules_for, RulesReadIs}
use Rattle.planner.proofs.Unique as one
use Rattle.planner.proofs.Demand2 as demand-2
use Rattle.planner.proofs.Demand3 as demand-3
use Rattle.planner.proofs.Texts as texts
use Rattle.planner.proofs.EmptyClause as empties

-- Demand 1: every call ends, stays inside the lent buffers, and answers or refuses with 01's number; a refusal changes no buffer; no call has
-- a `requires`. That is the functions' own proofs. "Every buffer then keeps its bytes": where a call meets a refusal, its statement says this.
pub refusal_keeps : {A B : Type 0} {refuse : Refusal → A} {C : PlanFile → Type 0} {n v : ℕ} {before after : List B} {r : A} → KeepingBy (refusal n v) refuse C before after r
    → Refuses refuse n v r × (after ≡ before)
refusal_keeps h = h.case

-- "Each public call's statement determines answer, count and every byte of lent memory
-- for all inputs, refused ones too; that no second answer fits it is shown."
pub read_unique : (file : List ℕ) (r s : Result counted.Plan Refusal) → ReadIs file r → ReadIs file s → r ≡ s
read_unique = one.read_unique

pub judge_unique : (file : List ℕ) (assignment : List ℤ) (r s : Result Judgement Refusal) → JudgeIs file assignment r → JudgeIs file assignment s → r ≡ s
judge_unique = one.judge_unique

pub close_unique : (file : List ℕ) (given before after after' : List ℤ) (r s : Result CloseAnswer Refusal)
    → ClosedIs file given before after r → ClosedIs file given before after' s → (r ≡ s) × (after ≡ after')
close_unique = one.close_unique

pub reason_unique : (file : List ℕ) (assignment : List ℤ) (number : ℕ) (before after after' : List ℤ) (r s : Result Answer Refusal)
    → ReasonedIs file assignment number before after r → ReasonedIs file assignment number before after' s → (r ≡ s) × (after ≡ after')
reason_unique = one.reason_unique

pub search_unique : (file : List ℕ) (budget : ℕ) (before after after' : List ℤ) (r s : Result Found Refusal)
    → SearchedIs file budget before after r → SearchedIs file budget before after' s → (r ≡ s) × (after ≡ after')
search_unique = one.search_unique

pub write_clauses_unique : (file : List ℕ) (before after after' : List ℤ) (r s : Result Counts Refusal)
    → WrittenIs file before after r → WrittenIs file before after' s → (r ≡ s) × (after ≡ after')
write_clauses_unique = one.write_clauses_unique

pub write_dimacs_unique : (file before after after' : List ℕ) (r s : Result ℕ Refusal)
    → PrintedIs file before after r → PrintedIs file before after' s → (r ≡ s) × (after ≡ after')
write_dimacs_unique = one.write_dimacs_unique

pub read_dimacs_unique : (file lines before after after' : List ℕ) (r s : Result Rules Refusal)
    → RulesReadIs file lines before after r → RulesReadIs file lines before after' s → (r ≡ s) × (after ≡ after')
read_dimacs_unique = one.read_dimacs_unique

-- 01, "Ranges": what is accepted keeps to them.
pub accepted_in_range : (file : List ℕ) (φ : PlanFile) → read_plan file ≡ accepted φ → Ranged φ
accepted_in_range = accepts.read_ranged

-- 01, "Judging and reasons": "Such a clause is true in every assignment where that atom's variable equals its truth."
module _ (φ : PlanFile) (ok : Ranged φ) (a : List ℤ) (A : Atom) (is-atom : Memᴰ A φ.atoms) (b : List ℤ) (full : Full φ.variables b) (right : IsRight φ b A) (clause : List ℤ) where
  pub holds_clause_true : ReasonIs φ a A (holds clause) → HasTrue b clause
  holds_clause_true = reasons.reason_true φ ok a A is-atom b full right (holds clause)

  pub fails_clause_true : ReasonIs φ a A (fails clause) → HasTrue b clause
  fails_clause_true = reasons.reason_true φ ok a A is-atom b full right (fails clause)

-- Its premises alone decide the atom, whatever its kind: it is true in the under graph of the premises already, or false in their over graph.
module _ (φ : PlanFile) (ok : Ranged φ) (a : List ℤ) (A : Atom) (is-atom : Memᴰ A φ.atoms) (clause : List ℤ) where
  pub holds_decided : ReasonIs φ a A (holds clause) → Decides φ A true clause
  holds_decided = reasons.decided φ ok a A (ok.atom A is-atom).from_in (holds clause)

  pub fails_decided : ReasonIs φ a A (fails clause) → Decides φ A false clause
  fails_decided = reasons.decided φ ok a A (ok.atom A is-atom).from_in (fails clause)

-- "none if there is no path", for lengths as for hops: where no walk leads no number is the distance, and "No path makes 'within d' false for every d.",
-- 'length at most' d too.
pub no_path_no_distance : (c : Cost) (es : List Edge) (g : Graph) (s t : ℕ) → ((k : ℕ) → Walk c es g s t k → ⊥) → (k : ℕ) → Distance c es g s t k → ⊥
no_path_no_distance c es g s t none k d = none k d.walk

pub no_path_false : (es : List Edge) (g : Graph) (A : Atom) → ((k : ℕ) → Walk (cost_of A.kind) es g A.from A.to k → ⊥) → IsTrue es g A → ⊥
no_path_false es g A none h = none h.0 h.1.walk

-- Demand 2: plan, impossible and undecided are exactly right; a plan is the first; the count is exact. First: B, "the count of the whole
-- search without a budget", is there.
pub whole_search : (φ : PlanFile) → Ranged φ → (o : Outcome) × (B : ℕ) × Tree φ (all_open φ) o B
whole_search = demand-2.whole_search

module _ (file : List ℕ) (φ : PlanFile) (reads : read_plan file ≡ accepted φ) (budget : ℕ) (before after : List ℤ) (long : length before ≡ φ.variables) where
  pub plan_is_first : (b : ℕ) → SearchedIs file budget before after (Ok (Plan b)) → IsPlan φ after × ((q : List ℤ) → IsPlan φ q → (after ≡ q) ⊎ Before φ after q)
  plan_is_first = demand-2.plan_is_first file φ reads budget before after long

  pub impossible_is : (b : ℕ) → SearchedIs file budget before after (Ok (Impossible b)) → (q : List ℤ) → IsPlan φ q → ⊥
  impossible_is = demand-2.impossible_is file φ reads budget before after long

  -- "'Undecided' exactly if B is above the budget (u32); then the reported count is the budget, else it is B."
  module _ {o : Outcome} {B : ℕ} (tree : Tree φ (all_open φ) o B) where
    pub plan_count : (b : ℕ) → SearchedIs file budget before after (Ok (Plan b)) → (b ≡ B) × (B ≤ budget)
    plan_count = demand-2.plan_count file φ reads budget before after long tree

    pub impossible_count : (b : ℕ) → SearchedIs file budget before after (Ok (Impossible b)) → (b ≡ B) × (B ≤ budget)
    impossible_count = demand-2.impossible_count file φ reads budget before after long tree

    pub undecided_count : (b : ℕ) → SearchedIs file budget before after (Ok (Undecided b)) → (b ≡ budget) × (budget < B)
    undecided_count = demand-2.undecided_count file φ reads budget before after long tree

    pub found_if : (r : Result Found Refusal) → SearchedIs file budget before after r → B ≤ budget → (q : List ℤ) → IsPlan φ q → r ≡ Ok (Plan B)
    found_if = demand-2.found_if file φ reads budget before after long tree

    pub impossible_if : (r : Result Found Refusal) → SearchedIs file budget before after r → B ≤ budget → ((q : List ℤ) → IsPlan φ q → ⊥) → r ≡ Ok (Impossible B)
    impossible_if = demand-2.impossible_if file φ reads budget before after long tree

    pub undecided_if : (r : Result Found Refusal) → SearchedIs file budget before after r → budget < B → r ≡ Ok (Undecided budget)
    undecided_if = demand-2.undecided_if file φ reads budget before after long tree

    -- "With k variables open after the first closing, B is at most 2 to the k, less 1."
    pub count_at_most : (c : List ℤ) → Closes φ (all_open φ) c → B ≤ 2 ^ opens c - 1
    count_at_most = demand-2.count_at_most file φ reads budget before after long tree

-- Demand 3: the written clauses have exactly one continuation for each plan and none for anything else; read back at the zeros, from the
-- numbers in the caller's buffer. The counts are 01's formulas.
module _ (file : List ℕ) (φ : PlanFile) (reads : read_plan file ≡ accepted φ) (before after : List ℤ) (counts : Counts) (h : WrittenIs file before after (Ok counts)) where
  pub written_exactly_one : ExactlyOne φ (clauses_of (take counts.numbers after)) counts.variables
  written_exactly_one = demand-3.written_exactly_one file φ reads before after counts h

  pub reads_back : clauses_of (take counts.numbers after) ≡ written φ
  reads_back = demand-3.reads_back file φ reads before after counts h

  pub clause_count : counts.clauses ≡ length (clauses_of (take counts.numbers after))
  clause_count = demand-3.clause_count file φ reads before after counts h

pub counts_by_formula : (φ : PlanFile) → Ranged φ → Counted φ
counts_by_formula = sizes.counted

-- 02, C-11: "Clauses read and printed again stay the same, in order."
pub printed_reads : (variables : ℕ) (Cs : List (List ℤ)) → variables ≤ 2147483647 → length Cs ≤ 2147483647 → InRange variables Cs
    → (rs : List Rule) × (literals_of rs ≡ Cs) × (read_text (head_line variables (length Cs) ++ entries (flat Cs)) ≡ good 0 variables (length Cs) rs)
printed_reads = back.reads_back

-- What `write_dimacs` leaves in the caller's buffer reads back as the written-out clauses, so demand 3 speaks of what a solver reads.
module _ (file : List ℕ) (φ : PlanFile) (reads : read_plan file ≡ accepted φ) (before after : List ℕ) (bytes : ℕ) (h : PrintedIs file before after (Ok bytes)) where
  pub text_reads_back : (rs : List Rule) × (read_text (take bytes after) ≡ good 0 (last_variable φ) (length (written φ)) rs) × (literals_of rs ≡ written φ) × ExactlyOne φ (literals_of rs) (last_variable φ)
  text_reads_back = texts.text_reads_back file φ reads before after bytes h

-- "the parts one behind another are the whole"
pub parts_whole : (φ : PlanFile) → each (suc (length φ.atoms)) (part φ) ≡ text φ
parts_whole = parts.parts_whole

-- The plan file with the records of `read_dimacs` put in before its end record is accepted, and is the same plan with the text's clauses behind its own.
module _ (file : List ℕ) (φ : PlanFile) (reads : read_plan file ≡ accepted φ) (lines before after : List ℕ) (r : Rules) (h : RulesReadIs file lines before after (Ok r)) where
  pub rules_accepted : (rs : List Rule) × (rules_for φ lines ≡ rules rs) × (read_plan (inserted file (take (3 * r.clauses + 2 * r.literals) after)) ≡ accepted (with_clauses φ (literals_of rs)))
  rules_accepted = texts.rules_accepted file φ reads lines before after r h

-- 02, C-12: "The empty clause is legal." A clause record of length 0 is taken where there is room for one clause more, else it is 7 like any other; "odd lengths stay".
module _ (file : List ℕ) (at : ℕ) (p : PlanFile) (inside : fits file at ≡ true) (tag : tag_at file at ≡ 4) where
  pub empty_clause_taken : len_at file at ≡ 0 → Ranged p → length p.clauses < max_clauses → step_at file at p ≡ next (at + 3) (add_clause p [])
  empty_clause_taken = empty-records.empty_taken file at p inside tag

  pub empty_clause_over : len_at file at ≡ 0 → max_clauses ≤ length p.clauses → step_at file at p ≡ refuse 7 at
  empty_clause_over = empty-records.empty_over file at p inside tag

  pub odd_length_refused : (len_at file at / 2 * 2 ≡ len_at file at → ⊥) → step_at file at p ≡ refuse 5 at
  odd_length_refused = empty-records.odd_refused file at p inside tag

-- In a text it is a lone 0, and where it is one clause too many 7 is at that 0.
pub lone_zero_taken : (variables : ℕ) (done : List Rule) (w : Word) → number_in w.bytes ≡ some (pos 0)
    → turn variables done nothing w ≡ goes (done ++ (record { at = w.at; literals = [] } ∷ [])) nothing
lone_zero_taken = zeros.zero_taken

pub lone_zero_over : (literals at : ℕ) (rest : List Rule) → first_over max_clauses literals (record { at = at; literals = [] } ∷ rest) ≡ some at
lone_zero_over = zeros.zero_over

-- A file with an empty clause behind the clauses Cs and before the clauses Ds, where the call refuses nothing.
module _ (φ : PlanFile) (Cs Ds : List (List ℤ)) (is : φ.clauses ≡ Cs ++ ([] ∷ Ds)) (file : List ℕ) (reads : read_plan file ≡ accepted φ) where
  -- "Closing then clashes at once", whatever is given
  pub empty_clause_clashes : (given before after : List ℤ) (r : Result CloseAnswer Refusal) → close_checks given before φ ≡ clear φ → ClosedIs file given before after r → (r ≡ Ok Clash) × (after ≡ before)
  empty_clause_clashes = empties.close_clashes φ Cs Ds is file reads

  -- "the search says impossible with 0 branchings", whatever the budget
  pub empty_clause_impossible : (budget : ℕ) (before after : List ℤ) (r : Result Found Refusal) → search_checks before φ ≡ clear φ → SearchedIs file budget before after r
      → (r ≡ Ok (Impossible 0)) × (after ≡ before)
  empty_clause_impossible = empties.search_impossible φ Cs Ds is file reads

  -- judging names it as the first clause without a true literal, where those before it have one
  pub empty_clause_judged : (assignment : List ℤ) (r : Result Judgement Refusal) → judge_checks assignment φ ≡ clear φ → ((C : List ℤ) → Memᴰ C Cs → HasTrue assignment C) → JudgeIs file assignment r
      → r ≡ Ok (Clause (suc (length Cs)))
  empty_clause_judged = empties.judge_names φ Cs Ds is file reads

  -- what is written behind it
  abbrev behind : List (List ℤ)
  behind = Ds ++ blocks φ.nodes φ.edges φ.variables φ.atoms

  -- "and the clause list holds a lone 0": among the numbers, where it counts as a clause and as one number; and as a line of the text
  pub empty_clause_listed : (before after : List ℤ) (counts : Counts) → WrittenIs file before after (Ok counts)
      → (take counts.numbers after ≡ flat Cs ++ (pos 0 ∷ flat behind)) × (counts.clauses ≡ length Cs + 1 + length behind) × (counts.numbers ≡ length (flat Cs) + 1 + length (flat behind))
  empty_clause_listed = empties.list_holds φ Cs Ds is file reads

  pub empty_clause_printed : (before after : List ℕ) (bytes : ℕ) → PrintedIs file before after (Ok bytes)
      → take bytes after ≡ head_line (last_variable φ) (length (written φ))
      ++ (entries (flat Cs) ++ (zero_digit ∷ line_end ∷ (entries (flat Ds) ++ block_texts φ.nodes φ.edges 1 φ.variables φ.atoms)))
  empty_clause_printed = empties.text_holds φ Cs Ds is file reads

  -- By source document 003 no assignment satisfies it: nor the list.
  pub empty_clause_unsatisfied : (a : List ℤ) → Satisfies a (written φ) → ⊥
  empty_clause_unsatisfied = empties.list_unsatisfied φ Cs Ds is

-- `read_dimacs` writes the record of length 0 for it. So the plan file with the records put in (`rules_accepted`) is one of those above.
pub empty_clause_recorded : (file : List ℕ) (φ : PlanFile) → read_plan file ≡ accepted φ → (lines before after : List ℕ) (r : Rules) → RulesReadIs file lines before after (Ok r)
    → (rs : List Rule) (Cs Ds : List (List ℤ)) → rules_for φ lines ≡ rules rs → literals_of rs ≡ Cs ++ ([] ∷ Ds)
    → take (3 * r.clauses + 2 * r.literals) after ≡ records Cs ++ (4 ∷ 0 ∷ 0 ∷ records Ds)
empty_clause_recorded = empties.record_holds

-- "P1 to P10 are one table, shown from the definitions by one argument"
pub cases_shown : (c : cases.Case) → Memᴰ c cases.table → cases.Says c
cases_shown = cases.shown

-- 01, "The sample file": its bytes are the sample plan, which "becomes 29 variables, 66 clauses, 208 numbers"; "Empty file: 2 at 0."
pub sample_reads : read_plan files.sample_bytes ≡ accepted cases.sample
sample_reads = files.sample_reads

pub sample_sizes : (last_variable cases.sample ≡ 29) × (length (written cases.sample) ≡ 66) × (length (flat (written cases.sample)) ≡ 208)
sample_sizes = sample.sample_sizes

pub empty_refused : read_plan [] ≡ refused 2 0
empty_refused = files.empty_reads
