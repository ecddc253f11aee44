-- `closing::next_to_say`: no atom that is passed by is due.
use Rattle.std.proofs.Common.{◌↔◌, ◌≡◌, MatchOption, Option, Some, None, Bool, true, false, ℕ, ◌≤◌, ◌<◌, T, arith, rules, subst, sym}
use Rattle.std.proofs.lemmas.Iterator.{serves_from_Range, first_from_Range}
use borrow.Author.Tests.{tests}
use Rattle.plan.specs.Places.{Without, Found}
use Rattle.walk.proofs.Lending.{lent_few}
use Rattle.closing.specs.Atoms.{Due}
use Rattle.closing.proofs.Lending.{atom_ready}
use Rattle.closing.proofs.next_to_say.Goals as goal

pub find-requires-clause-callable : goal.find-requires-clause-callable
find-requires-clause-callable c =
    let lent = c.args.tables.now.lent in
    serves_from_Range (λ x q k. search rules)
    (λ x l h y e _ _ _ _ _ _ _ _ _ _. rw e (omega (arith, lent_few lent, lent.atoms), (h, atom_ready lent c.requires x h)))

yes : {P : Type 0} {r : Bool} → T r ↔ P → r ≡ true → P
yes i e = i.0 (subst (λ b. T b) (sym e) tt)

no : {P : Type 0} {r : Bool} → T r ↔ P → r ≡ false → P → ⊥
no i e p = subst (λ b. T b) e (i.1 p)

-- what `find` says
first : (P : ℕ → Type 0) (n : ℕ) (r : Option ℕ)
    → MatchOption r ((k : ℕ) → 0 ≤ k → k < n → P k → ⊥) (λ i. (0 ≤ i) × (i < n) × P i × ((k : ℕ) → 0 ≤ k → k < i → P k → ⊥))
    → MatchOption r (Without P 0 n) (λ at. Found P 0 n at)
first P n None h = h
first P n (Some i) h = record { after = h.0; inside = h.1; before = h.3; here = h.2 }

pub returns : goal.returns
returns c =
    let a = c.args in
    let P : ℕ → Type 0 = Due a.others a.tables.now.atoms.now a.holds a.values.now in
    first P _ c.find.result
    (first_from_Range _ _ _ c.find.result P (λ k. P k → ⊥) c.find.ensures.ran (λ x q k. search (rules, tests, yes)) (λ x q k. (search rules, search (rules, tests, no))))
