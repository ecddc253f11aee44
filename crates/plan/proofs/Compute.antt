-- Closing and search as antt computes them. Not cited by any contract: `Exists` shows that they give what `specs` says.
-- Assumes nothing.
use mathlib.Core.Bool.{Bool, true, false, cond, ◌||◌}
use mathlib.Core.List.{List, [], ◌∷◌, ◌++◌}
use mathlib.Core.Option.{Option, none, some}
use Prim.Native.Nat.{ℕ, zero, suc, ◌+◌}
use lib.IntN.{ℤ, pos, negsuc, neg_ℤ}
use lib.Dec.{eqb}
use Rattle.plan.specs.Meaning.{Atom, PlanFile, on, off, literal_of, true_in, add}
use Rattle.plan.proofs.Bools.{all_of, any_of, each, those}
use Rattle.plan.proofs.Closing.{settles?}
use Rattle.plan.specs.Search.{Outcome, nothing, found}

abbrev pub eqℤ : ℤ → ℤ → Bool
eqℤ (pos m) (pos n) = eqb m n
eqℤ (pos m) (negsuc n) = false
eqℤ (negsuc m) (pos n) = false
eqℤ (negsuc m) (negsuc n) = eqb m n

-- the literals that a clause, an atom, the file give
abbrev pub by_clause : List ℤ → List ℤ → List ℤ
by_clause a C = those (λ l. all_of (λ m. eqℤ m l || true_in a (neg_ℤ m)) C) C

abbrev pub by_verdict : PlanFile → List ℤ → Atom → Bool → List ℤ
by_verdict φ a A b = cond (settles? φ (true_in a) A b) (literal_of b A.variable ∷ []) []

abbrev pub by_atom : PlanFile → List ℤ → Atom → List ℤ
by_atom φ a A = each (by_verdict φ a A) (true ∷ false ∷ [])

abbrev pub gives : PlanFile → List ℤ → List ℤ
gives φ a = each (by_clause a) φ.clauses ++ each (by_atom φ a) φ.atoms

-- the first of the literals that is not true yet
abbrev pub first_new : List ℤ → List ℤ → Option ℤ
first_new a [] = none
first_new a (l ∷ ls) = cond (true_in a l) (first_new a ls) (some l)

abbrev pub are_all_false : List ℤ → List ℤ → Bool
are_all_false a C = all_of (λ l. true_in a (neg_ℤ l)) C

abbrev pub meet : (ℤ → Outcome) → ℤ → Bool → Outcome
meet r l true = nothing
meet r l false = r l

abbrev pub close_step : PlanFile → List ℤ → (ℤ → Outcome) → Option ℤ → Outcome
close_step φ a r none = cond (any_of (are_all_false a) φ.clauses) nothing (found a)
close_step φ a r (some l) = meet r l (true_in a (neg_ℤ l))

unfoldable pub close : ℕ → PlanFile → List ℤ → Outcome
close zero φ a = nothing
close (suc k) φ a = close_step φ a (λ l. close k φ (add a l)) (first_new a (gives φ a))

-- search
pub record Counted : Type 0 where
  pub outcome : Outcome
  pub count : ℕ

abbrev pub later : Option ℕ → Option ℕ
later none = none
later (some i) = some (suc i)

abbrev pub first_open : List ℤ → Option ℕ
first_open [] = none
first_open (pos zero ∷ a) = some zero
first_open (pos (suc n) ∷ a) = later (first_open a)
first_open (negsuc n ∷ a) = later (first_open a)

abbrev pub after_on : ℕ → Counted → Counted
after_on b r = record { outcome = r.outcome; count = suc (b + r.count) }

abbrev pub after_off : (ℤ → Counted) → ℕ → Outcome → ℕ → Counted
after_off r i nothing b = after_on b (r (on (suc i)))
after_off r i (found p) b = record { outcome = found p; count = suc b }

abbrev pub at_open : (ℤ → Counted) → List ℤ → Option ℕ → Counted
at_open r c none = record { outcome = found c; count = zero }
at_open r c (some i) = let q = r (off (suc i)) in after_off r i q.outcome q.count

abbrev pub after_close : (List ℤ → ℤ → Counted) → Outcome → Counted
after_close r nothing = record { outcome = nothing; count = zero }
after_close r (found c) = at_open (r c) c (first_open c)

unfoldable pub search : ℕ → PlanFile → List ℤ → Counted
search zero φ a = record { outcome = nothing; count = zero }
search (suc k) φ a = after_close (λ c l. search k φ (add c l)) (close (suc φ.variables) φ a)
