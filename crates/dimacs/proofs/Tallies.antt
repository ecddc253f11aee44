-- What stands of the clauses of a text: with one literal more, and with the clause ended.
-- Assumes nothing.
use mathlib.Core.Path.{◌≡◌, refl, sym, ap, ◌∙◌}
use mathlib.Core.Bool.{Bool, true, false, cond, ◌&&◌}
use mathlib.Core.List.{List, [], ◌∷◌, ◌++◌, append_assoc, append-nil}
use mathlib.Core.Option.{Option, none, some}
use Prim.Native.Nat.{ℕ, suc, ◌+◌}
use native.Mathlib.Omega.{arith}
use borrow.Author.Tests.{ltb-true}
use lib.Dec.{ltb, leb}
use lib.IntN.{ℤ, pos}
use lib.ListN.{length, length-append}
use Rattle.std.specs.Prelude.{Option as Option·code}
use Rattle.plan.specs.Front.{Laid}
use Rattle.plan.specs.Ranged.{max_clauses, max_literals, literals}
use Rattle.plan.specs.Written.{flat}
use Rattle.plan.proofs.ClauseTable.{flat_clause, count_clause}
use Rattle.plan.proofs.Laying.{laid_as, laid_then}
use Rattle.dimacs.specs.Reading.{Rule, nothing, first_word, ended_at, literals_of, first_over}
use Rattle.dimacs.specs.Scanning.{as_option, used, Tallied}
use Rattle.dimacs.specs.declared.clauses.Tally.{Tally}

-- one clause more
pub literals_of_more : (done : List Rule) (r : Rule) → literals_of (done ++ (r ∷ [])) ≡ literals_of done ++ (r.literals ∷ [])
unfolding literals_of
literals_of_more [] r = refl
literals_of_more (q ∷ done) r = ap (λ x. q.literals ∷ x) (literals_of_more done r)

-- whether a clause fits behind so many clauses, with which there are so many literals
abbrev pub fits_behind : ℕ → ℕ → Bool
fits_behind c l = ltb c max_clauses && leb l max_literals

-- the first clause past the limits, with one clause more
abbrev pub or_else : Option ℕ → Option ℕ → Option ℕ
or_else none y = y
or_else (some x) y = some x

over_more : (a b : ℕ) (done : List Rule) (r : Rule)
    → first_over a b (done ++ (r ∷ [])) ≡ or_else (first_over a b done) (cond (fits_behind (a + length done) (b + literals (literals_of done) + length r.literals)) none (some r.at))
unfolding first_over literals_of literals
over_more a b [] r =
    let m : a + 0 ≡ a = omega arith in
    let n : b + 0 ≡ b = omega arith in
    rw (m, n)
over_more a b (q ∷ done) r =
    let k = length q.literals in
    let m : suc a + length done ≡ a + suc (length done) = omega arith in
    let n : b + k + literals (literals_of done) ≡ b + (k + literals (literals_of done)) = omega arith in
    ap (λ x. cond (fits_behind a (b + k)) x (some q.at))
    (over_more (suc a) (b + k) done r ∙ ap (λ x. or_else (first_over (suc a) (b + k) done) x) (rw (m, n)))
    ∙ go (fits_behind a (b + k)) _ _
  where
    go : (t : Bool) (x z : Option ℕ) → cond t (or_else x z) (some q.at) ≡ or_else (cond t x (some q.at)) z
    go true x z = refl
    go false x z = refl

module _ {a b : ℕ} {done : List Rule} {r : Rule} {before mid : List ℤ} {t : Tally} (h : Tallied a b done r before mid t) (at : ℕ) where
  -- the first clause past the limits, with that clause
  pub past_more : or_else (as_option t.past) (cond (fits_behind (a + t.clauses) (b + t.literals + t.unended)) none (some (first_word r at))) ≡ first_over a b (done ++ (ended_at r at ∷ []))
  past_more = sym (over_more a b done (ended_at r at) ∙ rw (← h.limit, ← h.clauses, ← h.literals, ← h.unended))

  -- the 0 goes there
  pub with_end : {p : Option·code ℕ} {after : List ℤ} → Laid (pos 0 ∷ []) (used t) mid after (used t + 1) → as_option p ≡ first_over a b (done ++ (ended_at r at ∷ []))
      → Tallied a b (done ++ (ended_at r at ∷ [])) nothing before after (record { clauses = t.clauses + 1; literals = t.literals + t.unended; past = p; start = at; unended = 0 })
  with_end {p} {after} k e = record {
    clauses = omega (arith, h.clauses, length-append done (ended_at r at ∷ []));
    literals = omega (arith, h.literals, h.unended, ap literals (literals_of_more done (ended_at r at)), count_clause (literals_of done) r.literals);
    begins = λ x. absurd (omega (arith, ltb-true 0 0 x));
    unended = refl;
    limit = e;
    stands = rw next (laid_as (append_assoc (flat (literals_of done)) r.literals (pos 0 ∷ []) ∙ is) (laid_then h.stands k));
  }
    where
      next : t.literals + t.unended + (t.clauses + 1) + 0 ≡ used t + 1
      next = omega arith

      is : flat (literals_of done) ++ (r.literals ++ (pos 0 ∷ [])) ≡ flat (literals_of (done ++ (ended_at r at ∷ []))) ++ []
      is = sym (append-nil (flat (literals_of (done ++ (ended_at r at ∷ [])))) ∙ ap flat (literals_of_more done (ended_at r at)) ∙ flat_clause (literals_of done) r.literals)
