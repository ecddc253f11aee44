-- What the two calls on DIMACS text come to: the text reads back as the written_out clauses, so that demand 3 speaks of what a solver reads; and the
-- plan file with the rules' records put in is accepted, with the rules behind its own clauses.
-- Assumes nothing.
use mathlib.Core.Path.{◌≡◌, refl, sym, subst, ◌∙◌, ap}
use mathlib.Core.List.{List, []}
use Prim.Native.Nat.{ℕ, ◌+◌, ◌*◌, ◌≤◌}
use native.Mathlib.Omega.{arith}
use borrow.Author.Tests.{leb-true}
use lib.IntN.{ℤ}
use lib.Dec.{leb}
use lib.ListN.{length, take, drop}
use lib.Seq.{take_at}
use Rattle.std.specs.Prelude.{Ok, Err}
use Rattle.plan.specs.Meaning.{PlanFile}
use Rattle.plan.specs.Buffers.{Kept}
use Rattle.plan.specs.Ranged.{literals}
use Rattle.plan.specs.Written.{AllHaveBlocks, written, last_variable, ExactlyOne}
use Rattle.encoding.proofs.Continued.{exactly_one}
use Rattle.reader.specs.Format.{Reading, refused as file-refused, accepted, with_clauses, read_plan}
use Rattle.reader.proofs.Accepts.{read_ranged}
use Rattle.reader.proofs.Inserting.{Joins}
use Rattle.reader.proofs.Runs.{read_runs}
use Rattle.dimacs.specs.Reading.{Rule, Rules, refused, rules, good, read_text, literals_of}
use Rattle.dimacs.specs.Records.{records, inserted}
use Rattle.dimacs.proofs.RecordSizes.{records_length}
use Rattle.dimacs.proofs.Verdicts.{literals_of_length}
use Rattle.dimacs.proofs.Ruled.{rules_in, rules_ruled}
use Rattle.listing.specs.Text.{text}
use Rattle.listing.proofs.ReadsBack.{Reads, text_reads}
use Rattle.dimacs.specs.declared.Rules as counted
use Rattle.planner.specs.Refusing.{clear, after_reading, Refuses, Case}
use Rattle.planner.specs.WriteDimacs.{print_checks, TextWritten, PrintedIs}
use Rattle.planner.specs.ReadDimacs.{rules_for, with_room, rules_checks, RulesWritten, RulesCase, RulesBy, RulesReadIs}
use Rattle.planner.proofs.Inserting.{inserted_reads}
use Rattle.planner.proofs.Stating.{met, checked, never, passed, wrote_clear}

module _ (file : List ℕ) (φ : PlanFile) (reads : read_plan file ≡ accepted φ) (before after : List ℕ) (n : ℕ) (h : PrintedIs file before after (Ok n)) where
  clear_out : AllHaveBlocks φ.atoms × TextWritten φ before after n
  clear_out = wrote_clear φ _ _ (record { case = met (checked file (print_checks before) reads) h })

  out : TextWritten φ before after n
  out = clear_out.1

  pub text_stands : take n after ≡ text φ
  text_stands = ap (λ (k : ℕ). take k after) out.count ∙ ap (take (length (text φ))) out.wrote ∙ take_at (text φ) (drop (length (text φ)) before) _ refl

  back : Reads (read_text (take n after)) 0 (last_variable φ) (length (written φ)) [] (written φ)
  back = subst (λ (t : List ℕ). Reads (read_text t) 0 (last_variable φ) (length (written φ)) [] (written φ)) (sym text_stands) (text_reads φ (read_ranged file φ reads))

  -- the text reads back as the written_out clauses, which have exactly one continuation for each plan
  pub text_reads_back : (rs : List Rule) × (read_text (take n after) ≡ good 0 (last_variable φ) (length (written φ)) rs) × (literals_of rs ≡ written φ) × ExactlyOne φ (literals_of rs) (last_variable φ)
  text_reads_back =
      (back.of, back.is, back.are, subst (λ (Cs : List (List ℤ)). ExactlyOne φ Cs (last_variable φ)) (sym back.are) (exactly_one φ (read_ranged file φ reads) clear_out.0))

-- what the call met, where it gave rules: there was room for their records
pub record Given (φ : PlanFile) (lines before after : List ℕ) (r : counted.Rules) : Type 0 where
  pub written_out : RulesWritten φ lines before after r.clauses r.literals
  pub room : length (records (literals_of written_out.of)) ≤ length before

module _ (φ : PlanFile) (lines before after : List ℕ) (r : counted.Rules) where
  rules_met : (q : Rules) → rules_for φ lines ≡ q → RulesBy (with_room before φ q) lines before after (Ok r) → Given φ lines before after r
  rules_met (refused n v) e h = absurd (never h.case.0)
  rules_met (rules rs) e h =
      let n = length (records (literals_of rs)) in
      let p = passed (leb n (length before)) 12 n (clear φ) h in
      let w = p.1.case in
      let same : rs ≡ w.of = ap rules_in (sym e ∙ w.read) in
      record { written_out = w; room = subst (λ (x : List Rule). length (records (literals_of x)) ≤ length before) same (leb-true _ _ p.0) }

-- a call that gave rules had an accepted file
pub rules_reads : (file lines before after : List ℕ) (r : counted.Rules) → RulesReadIs file lines before after (Ok r) → (φ : PlanFile) × (read_plan file ≡ accepted φ)
unfolding after_reading
rules_reads file lines before after r h = by (read_plan file) refl h.case
  where
    by : (q : Reading) → read_plan file ≡ q
        → Case (λ k w. Refuses Err k w (Ok r) × Kept before after) (λ ψ. RulesCase ψ lines before after (Ok r)) (after_reading q (rules_checks lines before))
        → (φ : PlanFile) × (read_plan file ≡ accepted φ)
    by (file-refused n v) e k = absurd (never k.0)
    by (accepted φ) e k = (φ, e)

module _ (file : List ℕ) (φ : PlanFile) (reads : read_plan file ≡ accepted φ) (lines before after : List ℕ) (r : counted.Rules) (h : RulesReadIs file lines before after (Ok r)) where
  pub given : Given φ lines before after r
  given = rules_met φ lines before after r (rules_for φ lines) refl (record { case = met (checked file (rules_checks lines before) reads) h })

  -- the clauses of the text
  abbrev ruled : List (List ℤ)
  ruled = literals_of given.written_out.of

  needed : 3 * r.clauses + 2 * r.literals ≡ length (records ruled)
  needed = omega (arith, given.written_out.count, given.written_out.literals_are, literals_of_length given.written_out.of, records_length ruled)

  pub records_fit : 3 * r.clauses + 2 * r.literals ≤ length before
  records_fit = omega (arith, needed, given.room)

  pub records_stand : take (3 * r.clauses + 2 * r.literals) after ≡ records ruled
  records_stand = ap (λ (k : ℕ). take k after) needed ∙ ap (take (length (records ruled))) given.written_out.wrote ∙ take_at (records ruled) (drop (length (records ruled)) before) _ refl

  joins : Joins φ ruled
  joins =
      let r = read_ranged file φ reads in
      let q = rules_ruled φ.variables (length φ.clauses) (literals φ.clauses) r.clauses r.literals lines given.written_out.read in
      record {
        literal = q.ranged;
        clauses = omega (arith, q.few, literals_of_length given.written_out.of);
        literals = q.short;
      }

  -- the plan file with the records put in is accepted, and has the text's clauses behind its own
  pub rules_accepted : (rs : List Rule) × (rules_for φ lines ≡ rules rs) × (read_plan (inserted file (take (3 * r.clauses + 2 * r.literals) after)) ≡ accepted (with_clauses φ (literals_of rs)))
  rules_accepted = (given.written_out.of, given.written_out.read, ap (λ (R : List ℕ). read_plan (inserted file R)) records_stand ∙ inserted_reads file reads joins)

-- what a program that joins the two needs: the end record's bytes are there, and the records are in the buffer
pub joinable : (file lines before after : List ℕ) (r : counted.Rules) → RulesReadIs file lines before after (Ok r) → (3 ≤ length file) × (3 * r.clauses + 2 * r.literals ≤ length before)
joinable file lines before after r h =
    let a = rules_reads file lines before after r h in
    (omega (arith, (read_runs a.1).ended.last), records_fit file a.0 a.1 lines before after r h)
