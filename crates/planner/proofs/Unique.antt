-- No second answer, and no second contents of a lent buffer, fits the statement of a public call. One law over all calls: where nothing is
-- refused, the answer and the buffer are what an outcome tells, and there is one outcome.
-- Assumes nothing.
use mathlib.Core.Path.{◌≡◌, refl, sym, subst, ◌∙◌, ap}
use mathlib.Core.Bool.{Bool, true, false, cond, ◌&&◌}
use mathlib.Core.Logic.{inl, inr}
use mathlib.Core.List.{List, ◌++◌}
use Prim.Native.Nat.{ℕ, ◌-◌, ◌<◌}
use native.Mathlib.Omega.{arith}
use lib.ListN.{length, drop}
use lib.IntN.{ℤ}
use lib.Dec.{eqb, leb}
use borrow.Author.Tests.{le-leb, lt-leb}
use Rattle.std.specs.Prelude.{Result, Ok, Err}
use Rattle.plan.specs.Buffers.{Kept, Answered}
use Rattle.plan.specs.Meaning.{PlanFile, atom, true_in}
use Rattle.plan.specs.Judging as judging
use Rattle.plan.specs.Places.{first_not}
use Rattle.plan.specs.Reason.{Reason, holds, fails, neither, ReasonIs}
use Rattle.plan.specs.Search.{Outcome, nothing, found, CloseIs, Answer, decided, undecided, Searched}
use Rattle.plan.specs.Written.{flat, written, last_variable}
use Rattle.plan.specs.declared.Plan.{Plan}
use Rattle.plan.specs.declared.refusal.Refusal.{Refusal}
use Rattle.plan.specs.declared.refusal.Refusal.TheVariants.{NoRoom}
use Rattle.plan.proofs.Refusals.{one_refusal}
use Rattle.plan.proofs.Judging.{judged_unique}
use Rattle.plan.proofs.Closing.{not_both}
use Rattle.plan.proofs.Search.{closes_unique}
use Rattle.plan.proofs.Budget.{searched_unique}
use Rattle.plan.proofs.Reason as reasons
use Rattle.plan.specs.Ranged.{literals, Ranged}
use Rattle.dimacs.specs.Reading.{Rule, rules, literals_of}
use Rattle.dimacs.specs.Records.{records}
use Rattle.dimacs.proofs.Ruled.{rules_in}
use Rattle.listing.specs.Text.{text}
use Rattle.reader.specs.Format.{Reading, refused as not-read, accepted, read_plan}
use Rattle.reader.proofs.Accepts.{read_ranged}
use Rattle.judge.specs.declared.Judgement.{Judgement}
use Rattle.judge.specs.declared.Judgement.TheVariants as judge
use Rattle.reason.specs.declared.Answer as reason
use Rattle.reason.specs.declared.Answer.TheVariants.{Holds, Fails, Open}
use Rattle.search.specs.declared.Found.{Found}
use Rattle.search.specs.declared.Found.TheVariants as search
use Rattle.clauses.specs.declared.Counts as written-counts
use Rattle.dimacs.specs.declared.Rules as rule-counts
use Rattle.planner.specs.declared.CloseAnswer.{CloseAnswer}
use Rattle.planner.specs.declared.CloseAnswer.TheVariants.{Closed, Clash}
use Rattle.planner.specs.Refusing.{Met, refusal, clear, require, after_reading, require_values, require_atom, is_value, Names, Refuses, Case, By, KeepingBy}
use Rattle.planner.specs.Read.{Counts, ReadCase, ReadIs}
use Rattle.planner.specs.Judge.{JudgeCase, JudgeIs}
use Rattle.planner.specs.Close.{CloseCase, ClosedIs}
use Rattle.planner.specs.Reason.{reason_checks, ReasonCase, ReasonedIs}
use Rattle.planner.specs.Search.{all_open, SearchCase, SearchedIs}
use Rattle.planner.specs.WriteClauses.{WriteCase, WrittenIs}
use Rattle.planner.specs.WriteDimacs.{PrintCase, PrintedIs}
use Rattle.planner.specs.ReadDimacs.{rules_for, RulesCase, RulesReadIs}

-- one refusal has a number and a value
one_name : (n v : ℕ) (x y : Refusal) → Names n v x → Names n v y → x ≡ y
one_name n v x y h k = one_refusal x y (sym h.number ∙ k.number) (sym h.value ∙ k.value)

one_refuses : {A : Type 0} {refused : Refusal → A} {n v : ℕ} {r s : A} → Refuses refused n v r → Refuses refused n v s → r ≡ s
one_refuses {refused = refused} {n = n} {v = v} h k = h.is ∙ ap refused (one_name n v h.why k.why h.names k.names) ∙ sym k.is

-- no second answer with its buffer fits
abbrev pub OneLeft : {A B : Type 0} → (List B → A → Type 0) → Type 0
OneLeft {A} {B} Is = (after after' : List B) (r s : A) → Is after r → Is after' s → (r ≡ s) × (after ≡ after')

-- x is what an outcome tells that Leads
pub record Told {O X : Type 0} (Leads : O → Type 0) (tell : O → X) (x : X) : Type 0 where
  pub of : O
  pub is : Leads of
  pub told : x ≡ tell of

module _ {A O : Type 0} (refused : Refusal → A) (Leads : PlanFile → O → Type 0) where
  -- there is one outcome where nothing is refused
  abbrev OneOutcome : Met → Type 0
  OneOutcome m = (φ : PlanFile) → m ≡ clear φ → (o p : O) → Leads φ o → Leads φ p → o ≡ p

  one_told : {X : Type 0} {m : Met} → OneOutcome m → (φ : PlanFile) → m ≡ clear φ → (tell : O → X) {x y : X} → Told (Leads φ) tell x → Told (Leads φ) tell y → x ≡ y
  one_told one φ e tell h k = h.told ∙ ap tell (one φ e h.of k.of h.is k.is) ∙ sym k.told

  -- a call without a lent buffer
  unique : {m : Met} → OneOutcome m → (tell : O → A) (C : A → PlanFile → Type 0) → ((φ : PlanFile) (r : A) → C r φ → Told (Leads φ) tell r) → (r s : A)
      → By m (λ n v. Refuses refused n v r) (C r) → By m (λ n v. Refuses refused n v s) (C s) → r ≡ s
  unique {m} one tell C led r s h k = go m refl h.case k.case
    where
      go : (m' : Met) → m ≡ m' → Case (λ n v. Refuses refused n v r) (C r) m' → Case (λ n v. Refuses refused n v s) (C s) m' → r ≡ s
      go (refusal n v) e x y = one_refuses x y
      go (clear φ) e x y = one_told one φ e tell (led φ r x) (led φ s y)

  -- a call with one
  unique_left : {B : Type 0} {m : Met} → OneOutcome m → (tell : O → A × List B) (before : List B) (C : A → List B → PlanFile → Type 0)
      → ((φ : PlanFile) (r : A) (after : List B) → C r after φ → Told (Leads φ) tell (r, after)) → OneLeft (λ after r. KeepingBy m refused (C r after) before after r)
  unique_left {m = m} one tell before C led after after' r s h k = go m refl h.case k.case
    where
      go : (m' : Met) → m ≡ m' → Case (λ n v. Refuses refused n v r × Kept before after) (C r after) m' → Case (λ n v. Refuses refused n v s × Kept before after') (C s after') m'
          → (r ≡ s) × (after ≡ after')
      go (refusal n v) e x y = (one_refuses x.0 y.0, x.1 ∙ sym y.1)
      go (clear φ) e x y = let q = one_told one φ e tell (led φ r after x) (led φ s after' y) in (ap (λ z. z.0) q, ap (λ z. z.1) q)

kept : {A B : Type 0} {r : A} {before after : List B} → after ≡ before → ◌≡◌ {A = A × List B} (r, after) (r, before)
kept {r = r} e = ap (λ z. (r, z)) e

-- ---- read

one_count : (φ : PlanFile) (p q : Plan) → Counts φ p → Counts φ q → p ≡ q
one_count φ p q x y =
    let a : p.nodes ≡ q.nodes = sym x.nodes ∙ y.nodes in
    let b : p.variables ≡ q.variables = sym x.variables ∙ y.variables in
    let d : p.edges ≡ q.edges = sym x.edges ∙ y.edges in
    let e : p.atoms ≡ q.atoms = sym x.atoms ∙ y.atoms in
    let f : p.clauses ≡ q.clauses = sym x.clauses ∙ y.clauses in
    let g : p.literals ≡ q.literals = sym x.literals ∙ y.literals in
    λ i. record { nodes = a i; variables = b i; edges = d i; atoms = e i; clauses = f i; literals = g i }

read_led : (φ : PlanFile) (r : Result Plan Refusal) → ReadCase φ r → Told (Counts φ) Ok r
read_led φ (Err y) h = absurd h
read_led φ (Ok p) h = record { of = p; is = h; told = refl }

pub read_unique : (file : List ℕ) (r s : Result Plan Refusal) → ReadIs file r → ReadIs file s → r ≡ s
read_unique file r s h k = unique Err Counts (λ φ e. one_count φ) Ok (λ r φ. ReadCase φ r) read_led r s h k

-- ---- judge

abbrev told_judge : judging.Judgement → Result Judgement Refusal
told_judge judging.plan = Ok judge.Plan
told_judge (judging.no_true n) = Ok (judge.Clause n)
told_judge (judging.wrong n) = Ok (judge.Atom n)

module _ (a : List ℤ) where
  judge_led : (φ : PlanFile) (r : Result Judgement Refusal) → JudgeCase φ a r → Told (judging.Judged φ a) told_judge r
  judge_led φ (Err y) h = absurd h
  judge_led φ (Ok judge.Plan) h = record { of = judging.plan; is = h; told = refl }
  judge_led φ (Ok (judge.Clause k)) h = record { of = judging.no_true k; is = h; told = refl }
  judge_led φ (Ok (judge.Atom k)) h = record { of = judging.wrong k; is = h; told = refl }

pub judge_unique : (file : List ℕ) (a : List ℤ) (r s : Result Judgement Refusal) → JudgeIs file a r → JudgeIs file a s → r ≡ s
judge_unique file a r s h k = unique Err (λ φ. judging.Judged φ a) (λ φ e. judged_unique φ a) told_judge (λ r φ. JudgeCase φ a r) (judge_led a) r s h k

-- ---- close

module _ (given before : List ℤ) where
  abbrev told_close : Outcome → Result CloseAnswer Refusal × List ℤ
  told_close nothing = (Ok Clash, before)
  told_close (found p) = (Ok Closed, p)

  one_close : (φ : PlanFile) (o p : Outcome) → CloseIs φ given o → CloseIs φ given p → o ≡ p
  one_close φ nothing nothing h k = refl
  one_close φ nothing (found p) h k = absurd (not_both φ (true_in given) (true_in p) k.closed h)
  one_close φ (found o) nothing h k = absurd (not_both φ (true_in given) (true_in o) h.closed k)
  one_close φ (found o) (found p) h k = ap found (closes_unique φ given given o p refl h k)

  close_led : (φ : PlanFile) (r : Result CloseAnswer Refusal) (after : List ℤ) → CloseCase φ given before after r → Told (CloseIs φ given) told_close (r, after)
  close_led φ (Err y) after h = absurd h
  close_led φ (Ok Closed) after h = record { of = found after; is = h; told = refl }
  close_led φ (Ok Clash) after h = record { of = nothing; is = h.0; told = kept h.1 }

pub close_unique : (file : List ℕ) (given before : List ℤ) → OneLeft (ClosedIs file given before)
close_unique file given before =
    unique_left Err (λ φ. CloseIs φ given) (λ φ e. one_close given before φ) (told_close given before) before (λ r after φ. CloseCase φ given before after r) (close_led given before)

-- ---- reason

module _ (a : List ℤ) (k : ℕ) (before : List ℤ) where
  abbrev Gives : PlanFile → Reason → Type 0
  Gives φ o = ReasonIs φ a (atom φ.atoms (k - 1)) o

  -- a clause is written where there is room
  abbrev told_clause : (ℕ → reason.Answer) → List ℤ → Bool → Result reason.Answer Refusal × List ℤ
  told_clause make r b = cond b (Ok (make (length r)), r ++ drop (length r) before) (Err (NoRoom (length r)), before)

  abbrev told_reason : Reason → Result reason.Answer Refusal × List ℤ
  told_reason (holds r) = told_clause Holds r (leb (length r) (length before))
  told_reason (fails r) = told_clause Fails r (leb (length r) (length before))
  told_reason neither = (Ok Open, before)

  module _ (make : ℕ → reason.Answer) (r after : List ℤ) where
    written_out : (n : ℕ) → Answered r before after n → ◌≡◌ {A = Result reason.Answer Refusal × List ℤ} (Ok (make n), after) (told_clause make r (leb (length r) (length before)))
    written_out n g =
        let e = g.counted in
        let f = g.wrote in
        (λ i. (Ok (make (e i)), f i)) ∙ ap (told_clause make r) (sym (le-leb (length r) (length before) g.fits))

    no_room : (y : Refusal) → length before < length r → Names 12 (length r) y → after ≡ before
        → ◌≡◌ {A = Result reason.Answer Refusal × List ℤ} (Err y, after) (told_clause make r (leb (length r) (length before)))
    no_room y l n f =
        let e = one_name 12 (length r) y (NoRoom (length r)) n (record { number = refl; value = refl }) in
        (λ i. (Err (e i), f i)) ∙ ap (told_clause make r) (sym (lt-leb (length r) (length before) l))

  reason_led : (φ : PlanFile) (r : Result reason.Answer Refusal) (after : List ℤ) → ReasonCase φ a k before after r → Told (Gives φ) told_reason (r, after)
  reason_led φ (Err y) after (r, inl h, l, n, f) = record { of = holds r; is = h; told = no_room Holds r after y l n f }
  reason_led φ (Err y) after (r, inr h, l, n, f) = record { of = fails r; is = h; told = no_room Fails r after y l n f }
  reason_led φ (Ok (Holds n)) after h = record { of = holds h.0; is = h.1; told = written_out Holds h.0 after n h.2 }
  reason_led φ (Ok (Fails n)) after h = record { of = fails h.0; is = h.1; told = written_out Fails h.0 after n h.2 }
  reason_led φ (Ok Open) after h = record { of = neither; is = h.0; told = kept h.1 }

-- a file with nothing in the way of a reason is one that was accepted
require_clear : (b : Bool) (n v : ℕ) (m : Met) (ψ : PlanFile) → require b n v m ≡ clear ψ → m ≡ clear ψ
require_clear true n v m ψ e = e
require_clear false n v m ψ e = let z : ◌≡◌ {A = ℕ} 0 1 = cc in absurd (omega arith)

asked_ranged : (file : List ℕ) (a : List ℤ) (k : ℕ) (ψ : PlanFile) → after_reading (read_plan file) (reason_checks a k) ≡ clear ψ → Ranged ψ
unfolding after_reading
asked_ranged file a k ψ h = go (read_plan file) refl h
  where
    go : (q : Reading) → read_plan file ≡ q → after_reading q (reason_checks a k) ≡ clear ψ → Ranged ψ
    go (not-read n v) e x = let z : ◌≡◌ {A = ℕ} 0 1 = cc in absurd (omega arith)
    go (accepted φ) e x =
        let last = require_atom φ k (clear φ) in
        let values = require_values is_value a last in
        let c : clear φ ≡ clear ψ =
        require_clear (leb 1 k && leb k (length φ.atoms)) 11 (length φ.atoms) (clear φ) ψ
        (require_clear (eqb (first_not is_value a) (length a)) 10 (first_not is_value a) last ψ (require_clear (eqb (length a) φ.variables) 9 φ.variables values ψ x)) in
        let same : φ ≡ ψ = cc in
        subst Ranged same (read_ranged file φ e)

pub reason_unique : (file : List ℕ) (a : List ℤ) (i : ℕ) (before : List ℤ) → OneLeft (ReasonedIs file a i before)
reason_unique file a i before =
    unique_left Err (Gives a i before) (λ φ e. reasons.reason_unique φ (asked_ranged file a i φ e) a (atom φ.atoms (i - 1))) (told_reason a i before) before (λ r after φ. ReasonCase φ a i before after r) (reason_led a i before)

-- ---- search

module _ (budget : ℕ) (before : List ℤ) where
  abbrev told_search : Answer × ℕ → Result Found Refusal × List ℤ
  told_search (decided (found p), b) = (Ok (search.Plan b), p)
  told_search (decided nothing, b) = (Ok (search.Impossible b), before)
  told_search (undecided, b) = (Ok (search.Undecided b), before)

  abbrev Ends : PlanFile → Answer × ℕ → Type 0
  Ends φ o = Searched φ (all_open φ) budget o.0 o.1

  one_end : (φ : PlanFile) (o p : Answer × ℕ) → Ends φ o → Ends φ p → o ≡ p
  one_end φ o p h k = let q = searched_unique φ h k in let e = q.0 in let f = q.1 in λ i. (e i, f i)

  search_led : (φ : PlanFile) (r : Result Found Refusal) (after : List ℤ) → SearchCase φ budget before after r → Told (Ends φ) told_search (r, after)
  search_led φ (Err y) after h = absurd h
  search_led φ (Ok (search.Plan b)) after h = record { of = (decided (found after), b); is = h; told = refl }
  search_led φ (Ok (search.Impossible b)) after h = record { of = (decided nothing, b); is = h.0; told = kept h.1 }
  search_led φ (Ok (search.Undecided b)) after h = record { of = (undecided, b); is = h.0; told = kept h.1 }

pub search_unique : (file : List ℕ) (budget : ℕ) (before : List ℤ) → OneLeft (SearchedIs file budget before)
search_unique file budget before =
    unique_left Err (Ends budget before) (λ φ e. one_end budget before φ) (told_search budget before) before (λ r after φ. SearchCase φ budget before after r) (search_led budget before)

-- ---- write_clauses

module _ (before : List ℤ) where
  abbrev told_write : PlanFile → Result written-counts.Counts Refusal × List ℤ
  told_write φ = (Ok (record { variables = last_variable φ; clauses = length (written φ); numbers = length (flat (written φ)) }), flat (written φ) ++ drop (length (flat (written φ))) before)

  write_led : (φ : PlanFile) (r : Result written-counts.Counts Refusal) (after : List ℤ) → WriteCase φ before after r → Told (λ o. o ≡ φ) told_write (r, after)
  write_led φ (Err y) after h = absurd h
  write_led φ (Ok counts) after h =
      let x = h.last in
      let y = h.count in
      let z = h.length_is in
      let w = h.wrote in
      record { of = φ; is = refl; told = λ i. (Ok (record { variables = x i; clauses = y i; numbers = z i }), w i) }

pub write_clauses_unique : (file : List ℕ) (before : List ℤ) → OneLeft (WrittenIs file before)
write_clauses_unique file before =
    unique_left Err (λ φ o. o ≡ φ) (λ φ z o p e f. e ∙ sym f) (told_write before) before (λ r after φ. WriteCase φ before after r) (write_led before)

-- ---- write_dimacs

module _ (before : List ℕ) where
  abbrev told_print : PlanFile → Result ℕ Refusal × List ℕ
  told_print φ = (Ok (length (text φ)), text φ ++ drop (length (text φ)) before)

  print_led : (φ : PlanFile) (r : Result ℕ Refusal) (after : List ℕ) → PrintCase φ before after r → Told (λ o. o ≡ φ) told_print (r, after)
  print_led φ (Err y) after h = absurd h
  print_led φ (Ok n) after h =
      let x = h.count in
      let w = h.wrote in
      record { of = φ; is = refl; told = λ i. (Ok (x i), w i) }

pub write_dimacs_unique : (file before : List ℕ) → OneLeft (PrintedIs file before)
write_dimacs_unique file before =
    unique_left Err (λ φ o. o ≡ φ) (λ φ z o p e f. e ∙ sym f) (told_print before) before (λ r after φ. PrintCase φ before after r) (print_led before)

-- ---- read_dimacs

module _ (lines before : List ℕ) where
  abbrev Holding : PlanFile → List Rule → Type 0
  Holding φ rs = rules_for φ lines ≡ rules rs

  abbrev told_rules : List Rule → Result rule-counts.Rules Refusal × List ℕ
  told_rules rs = (Ok (record { clauses = length rs; literals = literals (literals_of rs) }), records (literals_of rs) ++ drop (length (records (literals_of rs))) before)

  rules_led : (φ : PlanFile) (r : Result rule-counts.Rules Refusal) (after : List ℕ) → RulesCase φ lines before after r → Told (Holding φ) told_rules (r, after)
  rules_led φ (Err y) after h = absurd h
  rules_led φ (Ok r) after h =
      let x = h.count in
      let y = h.literals_are in
      let w = h.wrote in
      record { of = h.of; is = h.read; told = λ i. (Ok (record { clauses = x i; literals = y i }), w i) }

pub read_dimacs_unique : (file lines before : List ℕ) → OneLeft (RulesReadIs file lines before)
read_dimacs_unique file lines before =
    unique_left Err (Holding lines before) (λ φ z o p e f. ap rules_in (sym e ∙ f)) (told_rules lines before) before (λ r after φ. RulesCase φ lines before after r) (rules_led lines before)
