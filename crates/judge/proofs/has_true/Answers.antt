-- A literal's value is 1 exactly if it is true, so `any` finds the first true one.
use Rattle.std.proofs.Common.{rules, ◌↔◌, ◌<◌, ◌≤◌, T, length, ◌≡◌, ℕ, Bool, true, false, slice_index_or, w8, w16, ℤ, pos, to_z, of_z, subst, sym, ap, ◌∙◌, arith}
use Rattle.std.specs.Prelude.{MatchBool, List}
use mathlib.Core.List.{Memᴰ}
use lib.IntN.{negsuc}
use mir.Facts.{to_z-of_z}
use mir.Val.{SFits}
use borrow.Author.Tests.{tests}
use Rattle.std.specs.List.{HoldsAt, AllWithin}
use Rattle.std.proofs.lemmas.Iterator.{YieldsList-from_slice, cases_from_any}
use Rattle.std.proofs.lemmas.Iterator.Adapters.{serves_from_places}
use Rattle.plan.specs.Meaning.{HasTrue, true_in}
use Rattle.plan.specs.Ranged.{LiteralsFit, LiteralFits}
use Rattle.plan.specs.Search.{Assigned}
use Rattle.plan.specs.Tables.{literal_value}
use Rattle.plan.proofs.Lists.{mem_at, at_mem}
use Rattle.plan.proofs.Literals.{bits_true, true_bits}
use Rattle.judge.proofs.has_true.Goals as goal

small : (n : ℕ) (l : ℤ) → n ≤ 512 → LiteralFits n l → SFits w16 l
small n (pos k) few f = record { sfits = omega (arith, f.high) }
small n (negsuc k) few f = record { sfits = omega (arith, f.high) }

-- a literal, as its bits are passed on, and the value that comes back
module _ (a : List ℤ) (few : length a ≤ 512) where
  passed : (l : ℤ) → LiteralFits (length a) l → to_z w16 (of_z w16 l) ≡ l
  passed l f = to_z-of_z (small (length a) l few f)

  read : (C : List ℤ) (k : ℕ) (l : ℤ) → LiteralsFit (length a) C → k < length C → l ≡ slice_index_or C k l → LiteralFits (length a) (to_z w16 (of_z w16 l))
  read C k l all h e = let f = all l (subst (λ x. Memᴰ x C) (sym e) (mem_at C l k h)) in rw (passed l f) f

  module _ (s : Assigned (length a) a) (l v : ℤ) (f : LiteralFits (length a) l) (e : v ≡ literal_value a (to_z w16 (of_z w16 l))) where
    yes : of_z w8 v ≡ 1 → T (true_in a l)
    yes b = bits_true a l v s f (e ∙ ap (literal_value a) (passed l f)) b

    no : (of_z w8 v ≡ 1 → ⊥) → T (true_in a l) → ⊥
    no n t = n (true_bits a l v s f (e ∙ ap (literal_value a) (passed l f)) t)

-- what `any` says of the clause
exactly : (a C : List ℤ) → LiteralsFit (length a) C → (r : Bool)
    → MatchBool r ((k : ℕ) × (k < length C) × HoldsAt (λ l. LiteralFits (length a) l → T (true_in a l)) C k) (AllWithin (λ l. LiteralFits (length a) l → T (true_in a l) → ⊥) C 0 (length C))
    → T r ↔ HasTrue a C
exactly a C all true q = let m = mem_at C (pos 0) q.0 q.1 in ((λ _. (slice_index_or C q.0 (pos 0), m, q.2 (pos 0) (all _ m))), (λ _. tt))
exactly a C all false none =
    ((λ z. absurd z), (λ h. let q = at_mem C (pos 0) h.0 h.1 in none q.0 (pos 0) (omega arith) q.1 (subst (LiteralFits (length a)) q.2 (all h.0 h.1)) (subst (λ l. T (true_in a l)) q.2 h.2)))

pub any-requires-clause-callable : goal.any-requires-clause-callable
any-requires-clause-callable c =
    let r = c.requires in
    serves_from_places (YieldsList-from_slice c.args.clause.now cc) (λ x q k. search rules)
    (λ x k l e _ _ _ _ _ _ _ _. (r.assigned, (r.assignment_len_bound, read c.args.assignment.now r.assignment_len_bound c.args.clause.now k x.now r.literals_fit l e)))

pub returns : goal.returns
returns c =
    let a = c.args.assignment.now in
    let few : length a ≤ 512 = c.requires.assignment_len_bound in
    let s : Assigned (length a) a = c.requires.assigned in
    exactly a c.args.clause.now c.requires.literals_fit c.any.result
    (cases_from_any _ _ _ (λ l. LiteralFits (length a) l → T (true_in a l)) (λ l. LiteralFits (length a) l → T (true_in a l) → ⊥) c.any.ensures.ran
    (YieldsList-from_slice c.args.clause.now cc) (λ x q k f. search (rules, tests, yes)) (λ x q k. (search rules, λ f. search (rules, tests, no))))
