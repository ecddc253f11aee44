-- The first open place: none stands between the first place and the one found.
use Rattle.std.proofs.Common.{◌≡◌, MatchOption, Option, Some, None, List, ℕ, ◌≤◌, ◌<◌, ℤ, pos, w8, of_z, length, slice_index_or, ap, rules}
use Rattle.std.proofs.lemmas.Iterator.{first_from_Range}
use borrow.Author.Tests.{tests}
use mir.Val.{SFits}
use Rattle.plan.proofs.Signs.{bits_eq}
use Rattle.search.specs.Report.{OpenAt, FirstOpen}
use Rattle.search.proofs.open_place.Goals as goal

-- a place by its value's bits
yes : (a : List ℤ) (k : ℕ) → SFits w8 (slice_index_or a k (pos 0)) → of_z w8 (slice_index_or a k (pos 0)) ≡ 0 → OpenAt a k
yes a k f e = bits_eq w8 _ 0 f e

no : (a : List ℤ) (k : ℕ) → (of_z w8 (slice_index_or a k (pos 0)) ≡ 0 → ⊥) → OpenAt a k → ⊥
no a k d e = d (ap (of_z w8) e)

-- what `find` says
first : (a : List ℤ) (from : ℕ) (r : Option ℕ)
    → MatchOption r ((k : ℕ) → from ≤ k → k < length a → OpenAt a k → ⊥) (λ i. (from ≤ i) × (i < length a) × OpenAt a i × ((k : ℕ) → from ≤ k → k < i → OpenAt a k → ⊥)) → FirstOpen a from r
first a from None h = h
first a from (Some i) h = record { after = h.0; inside = h.1; before = h.3; here = h.2 }

pub returns : goal.returns
returns c =
    let a = c.args.values.now in
    first a c.args.from c.find.result
    (first_from_Range _ _ _ c.find.result (OpenAt a) (λ k. OpenAt a k → ⊥) c.find.ensures.ran (λ x q k. search (rules, tests, yes)) (λ x q k. (search rules, search (rules, tests, no))))
