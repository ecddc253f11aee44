-- Demand 3, as a theorem about what stands in the caller's buffer after the public call `write_clauses`.
-- Assumes nothing.
use mathlib.Core.Path.{◌≡◌, refl, sym, subst, ◌∙◌, ap}
use mathlib.Core.List.{List}
use Prim.Native.Nat.{ℕ}
use lib.IntN.{ℤ}
use lib.ListN.{length, take, drop}
use lib.Seq.{take_at}
use Rattle.std.specs.Prelude.{Ok}
use Rattle.plan.specs.Meaning.{PlanFile}
use Rattle.plan.specs.Tables.{clauses_of}
use Rattle.plan.specs.Written.{AllHaveBlocks, flat, written, ExactlyOne}
use Rattle.encoding.proofs.Literals.{read_back}
use Rattle.encoding.proofs.Continued.{exactly_one}
use Rattle.reader.specs.Format.{accepted, read_plan}
use Rattle.reader.proofs.Accepts.{read_ranged}
use Rattle.clauses.specs.declared.Counts.{Counts}
use Rattle.planner.specs.WriteClauses.{write_checks, WrittenOut, WrittenIs}
use Rattle.planner.proofs.Stating.{met, checked, wrote_clear}

module _ (file : List ℕ) (φ : PlanFile) (reads : read_plan file ≡ accepted φ) (before after : List ℤ) (counts : Counts) (h : WrittenIs file before after (Ok counts)) where
  clear_out : AllHaveBlocks φ.atoms × WrittenOut φ before after counts.variables counts.clauses counts.numbers
  clear_out = wrote_clear φ _ _ (record { case = met (checked file (write_checks before) reads) h })

  pub out : WrittenOut φ before after counts.variables counts.clauses counts.numbers
  out = clear_out.1

  -- the list stands in the front of the buffer
  pub list_stands : take counts.numbers after ≡ flat (written φ)
  list_stands =
      ap (λ (k : ℕ). take k after) out.length_is ∙ ap (take (length (flat (written φ)))) out.wrote ∙ take_at (flat (written φ)) (drop (length (flat (written φ))) before) _ refl

  -- read back at the zeros it gives the clauses
  pub reads_back : clauses_of (take counts.numbers after) ≡ written φ
  reads_back = ap clauses_of list_stands ∙ read_back φ (read_ranged file φ reads)

  -- "the written clauses have exactly one continuation for each plan and none for anything else"; "demand 3 covers files without it" (02, C-13): others are refused
  pub written_exactly_one : ExactlyOne φ (clauses_of (take counts.numbers after)) counts.variables
  written_exactly_one =
      subst (λ (Cs : List (List ℤ)). ExactlyOne φ Cs counts.variables) (sym reads_back)
      (subst (λ (k : ℕ). ExactlyOne φ (written φ) k) (sym out.last) (exactly_one φ (read_ranged file φ reads) clear_out.0))

  pub clause_count : counts.clauses ≡ length (clauses_of (take counts.numbers after))
  clause_count = out.count ∙ ap length (sym reads_back)
