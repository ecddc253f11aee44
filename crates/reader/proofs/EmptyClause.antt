-- The record of a clause with no literals: it is taken, and counts as a clause; an odd length is refused.
-- Assumes nothing.
use Rattle.reader.proofs.Kit.{◌≡◌, true, List, [], ℕ, ◌+◌, ◌*◌, ◌/◌, ◌<◌, ◌≤◌, arith, lt-ltb, le-ltb, le-leb, ne_eqb, length}
use Rattle.plan.specs.Meaning.{PlanFile}
use Rattle.plan.specs.Ranged.{max_clauses, max_literals, literals, Ranged}
use Rattle.reader.specs.Format.{refuse, next, tag_at, len_at, fits, literals_ok, literals_in, clause_len, add_clause, clause_at, step_at}

module _ (f : List ℕ) (at : ℕ) (p : PlanFile) (ok : fits f at ≡ true) (tag : tag_at f at ≡ 4) where
  module _ (none : len_at f at ≡ 0) where
    pub empty_taken : Ranged p → length p.clauses < max_clauses → step_at f at p ≡ next (at + 3) (add_clause p [])
    unfolding step_at clause_at clause_len literals_ok literals_in
    empty_taken r h =
        let end : at + 3 + 0 ≡ at + 3 = omega arith in
        simp (ok, tag, none, end, lt-ltb _ max_clauses h, le-leb (literals p.clauses + 0) max_literals (omega (arith, r.literals)))

    pub empty_over : max_clauses ≤ length p.clauses → step_at f at p ≡ refuse 7 at
    unfolding step_at clause_at clause_len literals_ok literals_in
    empty_over h = simp (ok, tag, none, le-ltb _ max_clauses h)

  pub odd_refused : (len_at f at / 2 * 2 ≡ len_at f at → ⊥) → step_at f at p ≡ refuse 5 at
  unfolding step_at clause_at clause_len
  odd_refused h = simp (ok, tag, ne_eqb _ _ h)
