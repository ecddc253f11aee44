-- From what reading the rules answers to what `read_dimacs` meets, and to what its records need.
-- Assumes nothing.
use mathlib.Core.Path.{◌≡◌, refl, sym, ◌∙◌, ap, ap₂, subst}
use mathlib.Core.List.{List}
use Prim.Native.Nat.{ℕ, ◌+◌, ◌*◌, ◌≤◌}
use native.Mathlib.Omega.{arith}
use lib.IntN.{ℤ}
use lib.ListN.{length, take}
use lib.Dec.{leb}
use Rattle.std.specs.Prelude.{Ok, Err}
use Rattle.plan.specs.ClauseTable.{Table}
use Rattle.plan.specs.Front.{Room, Put}
use Rattle.plan.specs.Meaning.{PlanFile}
use Rattle.plan.specs.Ranged.{max_variables, max_clauses, max_literals, literals, InRange}
use Rattle.plan.specs.Refusals.{number_of, value_of}
use Rattle.plan.specs.File.{file_of}
use Rattle.plan.specs.Tables.{clauses_of}
use Rattle.plan.specs.declared.refusal.Refusal.{Refusal}
use Rattle.plan.specs.declared.tables.Tables.{Tables}
use Rattle.plan.proofs.ClauseTable.{flat_table, flat_back}
use Rattle.dimacs.specs.Reading.{Rule, Rules, refused, rules, read_rules, literals_of}
use Rattle.dimacs.specs.Records.{records}
use Rattle.dimacs.specs.Scanning.{Read, RulesAre}
use Rattle.dimacs.specs.declared.Rules as counted
use Rattle.dimacs.proofs.RecordSizes.{records_length}
use Rattle.dimacs.proofs.Ruled.{Ruled, rules_ruled}
use Rattle.dimacs.proofs.Verdicts.{literals_of_length}
use Rattle.planner.specs.Refusing.{refusal, clear, require}
use Rattle.planner.specs.ReadDimacs.{rules_for, with_room, rules_checks, RulesWritten}

-- what an answer says of the reading
refused_by : (q : Rules) (table : List ℤ) (y : Refusal) → RulesAre q table (Err y) → q ≡ refused (number_of y) (value_of y)
refused_by (refused n v) table y h = ap₂ refused h.0 h.1
refused_by (rules rs) table y h = absurd h

read_by : (q : Rules) (table : List ℤ) (r : counted.Rules) → RulesAre q table (Ok r) → (rs : List Rule) × (q ≡ rules rs) × Read rs table r.clauses r.literals
read_by (refused n v) table r h = absurd h
read_by (rules rs) table r h = (rs, refl, h)

-- beside the plan file of the tables
module _ (t : Tables) (lines : List ℕ) (table : List ℤ) where
  abbrev φ : PlanFile
  φ = file_of t

  abbrev q : Rules
  q = read_rules t.plan.variables t.plan.clauses t.plan.literals lines

  same : rules_for φ lines ≡ q
  same = ap₂ (λ c l. read_rules t.plan.variables c l lines) t.lent.clauses t.lent.literals

  pub rules_refused : (before : List ℕ) (y : Refusal) → RulesAre q table (Err y) → rules_checks lines before φ ≡ refusal (number_of y) (value_of y)
  rules_refused before y h = ap (with_room before φ) (same ∙ refused_by q table y h)

  module _ (r : counted.Rules) (h : RulesAre q table (Ok r)) where
    found : (rs : List Rule) × (q ≡ rules rs) × Read rs table r.clauses r.literals
    found = read_by q table r h

    abbrev Cs : List (List ℤ)
    Cs = literals_of found.0

    read : rules_for φ lines ≡ rules found.0
    read = same ∙ found.1

    ruled : Ruled φ.variables (length φ.clauses) (literals φ.clauses) found.0
    ruled = rules_ruled φ.variables (length φ.clauses) (literals φ.clauses) t.lent.ranged.clauses t.lent.ranged.literals lines read

    fit : InRange max_variables Cs
    fit C m k n = let f = ruled.ranged C m k n in record { low = f.low; high = omega (arith, f.high, t.lent.ranged.variables) }

    pub few : (r.clauses ≤ max_clauses) × (r.literals ≤ max_literals)
    few = (omega (arith, found.2.clauses, ruled.few), omega (arith, found.2.literals, ruled.short))

    needed_is : 3 * r.clauses + 2 * r.literals ≡ length (records Cs)
    needed_is = omega (arith, found.2.clauses, found.2.literals, literals_of_length found.0, records_length Cs)

    -- what is left to check is the room for the records
    pub rules_met : (before : List ℕ) → rules_checks lines before φ ≡ require (leb (3 * r.clauses + 2 * r.literals) (length before)) 12 (3 * r.clauses + 2 * r.literals) (clear φ)
    rules_met before = ap (with_room before φ) read ∙ ap (λ (n : ℕ). require (leb n (length before)) 12 n (clear φ)) (sym needed_is)

    -- room: what the records are written from
    module _ (before : List ℕ) (room : 3 * r.clauses + 2 * r.literals ≤ length before) where
      back : clauses_of (take (r.literals + r.clauses) table) ≡ Cs
      back = ap clauses_of found.2.is ∙ flat_back Cs fit

      pub records_room : Room (records (clauses_of (take (r.literals + r.clauses) table))) 0 before
      records_room = record { fits = omega (arith, ap (λ x. length (records x)) back, needed_is) }

      pub rules_table : Table max_variables (take (r.literals + r.clauses) table)
      rules_table = subst (Table max_variables) (sym found.2.is) (flat_table Cs fit)

      pub rules_written : {after : List ℕ} {end : ℕ} → Put (records (clauses_of (take (r.literals + r.clauses) table))) 0 before after end → RulesWritten φ lines before after r.clauses r.literals
      rules_written {after} {end} w = record {
        of = found.0;
        read = read;
        count = found.2.clauses;
        literals_are = found.2.literals;
        wrote = (subst (λ x. Put (records x) 0 before after end) back w).is;
      }
