-- The first atom without a block, as a search for it answers.
-- Assumes nothing.
use mathlib.Core.Path.{◌≡◌, refl}
use mathlib.Core.Bool.{Bool, true, false, not, cond}
use mathlib.Core.List.{List}
use Prim.Native.Nat.{ℕ, suc, ◌+◌, ◌≤◌, ◌<◌}
use native.Mathlib.Omega.{arith}
use lib.ListN.{length}
use lib.Dec.{ltb}
use borrow.Author.Tests.{ltb-true, ltb-false}
use Rattle.std.specs.Prelude.{Option, Some, None, MatchOption}
use Rattle.std.specs.List.{position, position_or_len}
use Rattle.std.proofs.lemmas.List.Recursion.{is_position_or_len}
use Rattle.plan.specs.declared.Atom as struct-of-atom
use Rattle.plan.specs.Places.{first_not}
use Rattle.plan.specs.Tables.{atoms_of}
use Rattle.plan.specs.Written.{has_block, first_unwritten}
use Rattle.plan.proofs.ByPlace.{atoms_length}
use Rattle.plan.proofs.Places.{first_le}

abbrev pub unwritten : struct-of-atom.Atom → Bool
unwritten a = not (has_block a.kind)

first_is : (As : List struct-of-atom.Atom) → first_unwritten (atoms_of As) ≡ position_or_len unwritten As
unfolding atoms_of first_not
first_is = is_position_or_len (λ As. first_unwritten (atoms_of As)) unwritten refl (λ x xs. turn (has_block x.kind) (first_unwritten (atoms_of xs)))
  where
    turn : (b : Bool) (k : ℕ) → cond b (suc k) 0 ≡ cond (not b) 0 (1 + k)
    turn true k = omega arith
    turn false k = refl

-- a place below the length, or none
place_or_none : (b : Bool) (k n : ℕ) → ltb k n ≡ b → k ≤ n → MatchOption (cond b (Some k) None) (k ≡ n) (λ i. (i < n) × (k ≡ i))
place_or_none true k n e l = (ltb-true k n e, refl)
place_or_none false k n e l = omega (arith, ltb-false k n e)

pub first_place : (As : List struct-of-atom.Atom) (r : Option ℕ) → r ≡ position unwritten As
    → MatchOption r (first_unwritten (atoms_of As) ≡ length (atoms_of As)) (λ k. (k < length (atoms_of As)) × (first_unwritten (atoms_of As) ≡ k))
first_place As r e =
    rw (e, ← first_is As, ← atoms_length As)
    (place_or_none (ltb (first_unwritten (atoms_of As)) (length (atoms_of As))) (first_unwritten (atoms_of As)) (length (atoms_of As)) refl (first_le _ (atoms_of As)))
