-- What a good text comes to as rules for a plan, by what was counted in it.
-- Assumes nothing.
use mathlib.Core.Path.{◌≡◌, refl, sym, ap, ◌∙◌}
use mathlib.Core.Bool.{Bool, true, false, cond, ◌&&◌}
use mathlib.Core.List.{List, [], ◌∷◌, ◌++◌, append-nil}
use mathlib.Core.Option.{none, some}
use Prim.Native.Nat.{ℕ, suc, ◌+◌, ◌-◌, ◌≤◌}
use native.Mathlib.Omega.{arith}
use borrow.Author.Tests.{ltb-true, leb-true, le-leb, eq-eqb}
use lib.Dec.{ltb, leb}
use lib.IntN.{ℤ}
use lib.ListN.{length, take, drop, length-take}
use lib.Seq.{take_at, take-append-le}
use Rattle.plan.specs.ClauseTable.{max_table}
use Rattle.plan.specs.Ranged.{max_clauses, max_literals, literals}
use Rattle.plan.specs.Written.{flat}
use Rattle.plan.proofs.ClauseTable.{flat_length}
use Rattle.dimacs.specs.Reading.{Rule, good, nothing, literals_of, first_over, Rules, refused, rules, rules_of}
use Rattle.dimacs.specs.Scanning.{as_option, Tallied, Read, RulesAre}
use Rattle.std.specs.Prelude.{None, Result, Ok, Err}
use Rattle.plan.specs.declared.refusal.Refusal.{Refusal}
use Rattle.dimacs.specs.declared.clauses.Tally.{Tally}
use Rattle.dimacs.specs.declared.Rules as struct-of-rules

-- as many lists of literals as clauses
pub literals_of_length : (rs : List Rule) → length (literals_of rs) ≡ length rs
unfolding literals_of
literals_of_length [] = refl
literals_of_length (r ∷ rs) = ap suc (literals_of_length rs)

-- clauses within the limits have room in a table
pub within : (a b : ℕ) (rs : List Rule) → first_over a b rs ≡ none → (length rs ≤ max_clauses - a) × (literals (literals_of rs) ≤ max_literals - b)
unfolding first_over literals_of literals
within a b [] e = (omega arith, omega arith)
within a b (q ∷ rs) e = go (ltb a max_clauses) (leb (b + length q.literals) max_literals) refl refl e (within (suc a) (b + length q.literals) rs)
  where
    k : ℕ
    k = length q.literals

    go : (x y : Bool) → ltb a max_clauses ≡ x → leb (b + k) max_literals ≡ y → cond (x && y) (first_over (suc a) (b + k) rs) (some q.at) ≡ none
        → (first_over (suc a) (b + k) rs ≡ none → (length rs ≤ max_clauses - suc a) × (literals (literals_of rs) ≤ max_literals - (b + k)))
        → (suc (length rs) ≤ max_clauses - a) × (k + literals (literals_of rs) ≤ max_literals - b)
    go true true u v e f = let w = f e in (omega (arith, ltb-true a max_clauses u, w.0), omega (arith, leb-true (b + k) max_literals v, w.1))
    go true false u v e f = let z : ◌≡◌ {A = ℕ} 0 1 = cc in absurd (omega arith)
    go false y u v e f = let z : ◌≡◌ {A = ℕ} 0 1 = cc in absurd (omega arith)

module _ {clauses literals : ℕ} {rs : List Rule} {before after : List ℤ} {t : Tally} (h : Tallied clauses literals rs nothing before after t) where
  pub read_is : t.past ≡ None → length before ≡ max_table → Read rs after t.clauses t.literals
  read_is e l =
      let w = within clauses literals rs (sym h.limit ∙ ap as_option e) in
      record {
        clauses = h.clauses;
        literals = h.literals;
        is = ap (take (t.literals + t.clauses)) (h.stands.is (omega (arith, h.clauses, h.literals, h.unended, w.0, w.1)))
            ∙ take_at (flat (literals_of rs) ++ []) (drop (length (flat (literals_of rs) ++ [])) before) (t.literals + t.clauses) (omega (arith, h.stands.count, h.unended))
            ∙ append-nil (flat (literals_of rs));
      }

  pub within_limit : (variables at v n : ℕ) → t.clauses ≡ n → v ≤ variables → t.past ≡ None → rules_of variables clauses literals (good at v n rs) ≡ rules rs
  within_limit variables at v n c l e = rw (eq-eqb (length rs) n (sym h.clauses ∙ c), le-leb v variables l, ← h.limit, e)

-- rules that stand in a front of the table stand in the table
pub rules_front : (x : Rules) (y : Result struct-of-rules.Rules Refusal) (front more : List ℤ) → RulesAre x front y → RulesAre x (front ++ more) y
rules_front (refused n v) (Err y) front more h = h
rules_front (refused n v) (Ok r) front more h = h
rules_front (rules rs) (Err y) front more h = h
rules_front (rules rs) (Ok r) front more h = record {
  clauses = h.clauses;
  literals = h.literals;
  is = take-append-le (r.literals + r.clauses) front more
      (omega (arith, h.clauses, h.literals, ap length h.is, length-take (r.literals + r.clauses) front, flat_length (literals_of rs), literals_of_length rs))
      ∙ h.is;
}
