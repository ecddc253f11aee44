-- A clause with no literals in the statements of the public calls. Document 02, C-12: "Closing then clashes at once, the search says impossible with 0
-- branchings, and the clause list holds a lone 0."
-- Assumes nothing.
use mathlib.Core.Path.{◌≡◌, refl, sym, subst, ap, ◌∙◌}
use mathlib.Core.List.Memᴰ
use mathlib.Core.List.{List, [], ◌∷◌, ◌++◌, append_assoc, Memᴰ}
use Prim.Native.Nat.{ℕ, suc, ◌+◌, ◌*◌}
use native.Mathlib.Omega.{arith}
use lib.IntN.{ℤ, pos}
use lib.ListN.{length, length-append, take}
use Rattle.std.specs.Prelude.{Result, Ok, Err}
use Rattle.plan.specs.Buffers.{Kept}
use Rattle.plan.specs.Meaning.{PlanFile, HasTrue}
use Rattle.plan.specs.Judging.{FirstWithout}
use Rattle.plan.specs.Search.{Outcome, nothing, found, decided, undecided, Searched, within, beyond}
use Rattle.plan.specs.Written.{flat, blocks, written, last_variable, Satisfies}
use Rattle.plan.proofs.EmptyClause.{none_true, never_closes, no_branching, no_plan, first_is_empty}
use Rattle.plan.proofs.Judging.{first_unique}
use Rattle.encoding.proofs.Each.{flat_append}
use Rattle.reader.specs.Format.{accepted, read_plan}
use Rattle.dimacs.specs.Numbers.{zero_digit}
use Rattle.dimacs.specs.Words.{line_end}
use Rattle.dimacs.specs.Reading.{Rule, rules, literals_of}
use Rattle.dimacs.specs.Records.{records}
use Rattle.dimacs.specs.Printing.{entries, head_line}
use Rattle.dimacs.proofs.Digits.{entries_append}
use Rattle.dimacs.proofs.LoneZero.{zero_line, zero_record}
use Rattle.dimacs.proofs.Ruled.{rules_in}
use Rattle.listing.specs.Text.{block_texts, front_text, text}
use Rattle.plan.specs.declared.refusal.Refusal.{Refusal}
use Rattle.judge.specs.declared.Judgement.{Judgement}
use Rattle.judge.specs.declared.Judgement.TheVariants as judged
use Rattle.search.specs.declared.Found.{Found}
use Rattle.search.specs.declared.Found.TheVariants as searched
use Rattle.clauses.specs.declared.Counts.{Counts}
use Rattle.dimacs.specs.declared.Rules.{Rules}
use Rattle.planner.specs.declared.CloseAnswer.{CloseAnswer}
use Rattle.planner.specs.declared.CloseAnswer.TheVariants as closed
use Rattle.planner.specs.Refusing.{clear}
use Rattle.planner.specs.Close.{close_checks, CloseCase, ClosedIs}
use Rattle.planner.specs.Search.{search_checks, SearchCase, SearchedIs}
use Rattle.planner.specs.Judge.{judge_checks, JudgeCase, JudgeIs}
use Rattle.planner.specs.WriteClauses.{WrittenIs}
use Rattle.planner.specs.WriteDimacs.{PrintedIs}
use Rattle.planner.specs.ReadDimacs.{rules_for, RulesReadIs}
use Rattle.planner.proofs.Stating.{met, checked}
use Rattle.planner.proofs.Demand3 as demand-3
use Rattle.planner.proofs.Texts as texts

-- the cases of the statements, where nothing is refused
module _ (φ : PlanFile) (empty : Memᴰ [] φ.clauses) where
  close_case : (given before after : List ℤ) (r : Result CloseAnswer Refusal) → CloseCase φ given before after r → (r ≡ Ok closed.Clash) × Kept before after
  close_case given before after (Err y) h = absurd h
  close_case given before after (Ok closed.Closed) h = absurd (never_closes φ empty h)
  close_case given before after (Ok closed.Clash) h = (refl, h.1)

  none_counted : {a : List ℤ} {budget b : ℕ} {o : Outcome} → Searched φ a budget (decided o) b → (o ≡ nothing) × (b ≡ 0)
  none_counted (within t l) = no_branching φ empty t

  never_found : {a p : List ℤ} {budget b : ℕ} → Searched φ a budget (decided (found p)) b → ⊥
  never_found h = let e = (none_counted h).0 in let z : ◌≡◌ {A = ℕ} 0 1 = cc in omega arith

  never_beyond : {a : List ℤ} {budget b : ℕ} → Searched φ a budget undecided b → ⊥
  never_beyond (beyond t l) = omega (arith, (no_branching φ empty t).1)

  search_case : (budget : ℕ) (before after : List ℤ) (r : Result Found Refusal) → SearchCase φ budget before after r → (r ≡ Ok (searched.Impossible 0)) × Kept before after
  search_case budget before after (Err y) h = absurd h
  search_case budget before after (Ok (searched.Plan b)) h = absurd (never_found h)
  search_case budget before after (Ok (searched.Impossible b)) h = (ap (λ n. Ok (searched.Impossible n)) (none_counted h.0).1, h.1)
  search_case budget before after (Ok (searched.Undecided b)) h = absurd (never_beyond h.0)

-- a file with an empty clause behind the clauses Cs
module _ (φ : PlanFile) (Cs Ds : List (List ℤ)) (is : φ.clauses ≡ Cs ++ ([] ∷ Ds)) where
  empty_in : Memᴰ [] φ.clauses
  empty_in = subst (Memᴰ []) (sym is) (Memᴰ.append_right Cs (Memᴰ.head refl))

  judge_case : (a : List ℤ) → ((C : List ℤ) → Memᴰ C Cs → HasTrue a C) → (r : Result Judgement Refusal) → JudgeCase φ a r → r ≡ Ok (judged.Clause (suc (length Cs)))
  judge_case a before (Err y) h = absurd h
  judge_case a before (Ok judged.Plan) h = absurd (no_plan φ empty_in a h)
  judge_case a before (Ok (judged.Clause k)) h = ap (λ n. Ok (judged.Clause n)) (first_unique (HasTrue a) (subst (λ x. FirstWithout (HasTrue a) x k) is h) (first_is_empty a Cs Ds before))
  judge_case a before (Ok (judged.Atom k)) h = absurd (none_true a (h.0 [] empty_in))

  -- the clauses that are written behind it
  abbrev behind : List (List ℤ)
  behind = Ds ++ blocks φ.nodes φ.edges φ.variables φ.atoms

  written_is : written φ ≡ Cs ++ ([] ∷ behind)
  unfolding written
  written_is = ap (λ x. x ++ blocks φ.nodes φ.edges φ.variables φ.atoms) is ∙ append_assoc Cs ([] ∷ Ds) (blocks φ.nodes φ.edges φ.variables φ.atoms)

  list_is : flat (written φ) ≡ flat Cs ++ (pos 0 ∷ flat behind)
  unfolding flat
  list_is = ap flat written_is ∙ flat_append Cs ([] ∷ behind)

  -- no assignment makes the list true
  pub list_unsatisfied : (a : List ℤ) → Satisfies a (written φ) → ⊥
  list_unsatisfied a h = none_true a (h [] (subst (Memᴰ []) (sym written_is) (Memᴰ.append_right Cs (Memᴰ.head refl))))

  text_is : text φ ≡ head_line (last_variable φ) (length (written φ)) ++ (entries (flat Cs) ++ (zero_digit ∷ line_end ∷ (entries (flat Ds) ++ block_texts φ.nodes φ.edges 1 φ.variables φ.atoms)))
  unfolding text front_text flat
  text_is =
      let own : entries (flat φ.clauses) ≡ entries (flat Cs) ++ (zero_digit ∷ line_end ∷ entries (flat Ds)) =
      ap entries (ap flat is ∙ flat_append Cs ([] ∷ Ds)) ∙ entries_append (flat Cs) (pos 0 ∷ flat Ds) ∙ ap (λ x. entries (flat Cs) ++ x) (zero_line (flat Ds)) in
      rw own (simp append_assoc)

  module _ (file : List ℕ) (reads : read_plan file ≡ accepted φ) where
    -- closing: whatever is given
    pub close_clashes : (given before after : List ℤ) (r : Result CloseAnswer Refusal) → close_checks given before φ ≡ clear φ → ClosedIs file given before after r → (r ≡ Ok closed.Clash) × Kept before after
    close_clashes given before after r ok h = close_case φ empty_in given before after r (met (checked file (close_checks given before) reads ∙ ok) h)

    -- searching: whatever the budget
    pub search_impossible : (budget : ℕ) (before after : List ℤ) (r : Result Found Refusal) → search_checks before φ ≡ clear φ → SearchedIs file budget before after r
        → (r ≡ Ok (searched.Impossible 0)) × Kept before after
    search_impossible budget before after r ok h = search_case φ empty_in budget before after r (met (checked file (search_checks before) reads ∙ ok) h)

    -- judging: where the clauses before it have a true literal
    pub judge_names : (a : List ℤ) (r : Result Judgement Refusal) → judge_checks a φ ≡ clear φ → ((C : List ℤ) → Memᴰ C Cs → HasTrue a C) → JudgeIs file a r
        → r ≡ Ok (judged.Clause (suc (length Cs)))
    judge_names a r ok before h = judge_case a before r (met (checked file (judge_checks a) reads ∙ ok) h)

    -- the list: a lone 0, which is counted
    pub list_holds : (before after : List ℤ) (counts : Counts) → WrittenIs file before after (Ok counts)
        → (take counts.numbers after ≡ flat Cs ++ (pos 0 ∷ flat behind)) × (counts.clauses ≡ length Cs + 1 + length behind) × (counts.numbers ≡ length (flat Cs) + 1 + length (flat behind))
    list_holds before after counts h =
        let out = demand-3.out file φ reads before after counts h in (
          demand-3.list_stands file φ reads before after counts h ∙ list_is,
          omega (arith, out.count, ap length written_is, length-append Cs ([] ∷ behind)),
          omega (arith, out.length_is, ap length list_is, length-append (flat Cs) (pos 0 ∷ flat behind)),
        )

    -- the text: a line with a lone 0
    pub text_holds : (before after : List ℕ) (bytes : ℕ) → PrintedIs file before after (Ok bytes)
        → take bytes after ≡ head_line (last_variable φ) (length (written φ)) ++ (entries (flat Cs) ++ (zero_digit ∷ line_end ∷ (entries (flat Ds) ++ block_texts φ.nodes φ.edges 1 φ.variables φ.atoms)))
    text_holds before after bytes h = texts.text_stands file φ reads before after bytes h ∙ text_is

-- a text of rules with an empty clause behind the clauses Cs: its record has no value
pub record_holds : (file : List ℕ) (φ : PlanFile) → read_plan file ≡ accepted φ → (lines before after : List ℕ) (r : Rules) → RulesReadIs file lines before after (Ok r)
    → (rs : List Rule) (Cs Ds : List (List ℤ)) → rules_for φ lines ≡ rules rs → literals_of rs ≡ Cs ++ ([] ∷ Ds)
    → take (3 * r.clauses + 2 * r.literals) after ≡ records Cs ++ (4 ∷ 0 ∷ 0 ∷ records Ds)
record_holds file φ reads lines before after r h rs Cs Ds read is =
    let same : (texts.given file φ reads lines before after r h).written_out.of ≡ rs =
    ap rules_in (sym (texts.given file φ reads lines before after r h).written_out.read ∙ read) in
    texts.records_stand file φ reads lines before after r h ∙ ap records (ap literals_of same ∙ is) ∙ zero_record Cs Ds
