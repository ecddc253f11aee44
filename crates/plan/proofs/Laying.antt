-- Laws of writing from a place on as far as there is room.
-- Assumes nothing.
use mathlib.Core.Path.{◌≡◌, refl, subst, ◌∙◌}
use mathlib.Core.List.{List, [], ◌∷◌, ◌++◌}
use Prim.Native.Nat.{ℕ, ◌+◌, ◌≤◌, ◌<◌}
use native.Mathlib.Omega.{arith}
use lib.ListN.{length, set, length-append}
use Rattle.plan.specs.Front.{Put, Laid}
use Rattle.plan.proofs.Fronts.{put_none, put_one, put_then, put_length}

module _ {A : Type 0} where
  pub laid_as : {ws vs old new : List A} {at end : ℕ} → ws ≡ vs → Laid ws at old new end → Laid vs at old new end
  laid_as {ws} {vs} {old} {new} {at} {end} e h = subst (λ x. Laid x at old new end) e h

  -- with room it is the same as what is put
  pub put_laid : {ws old new : List A} {at end : ℕ} → Put ws at old new end → Laid ws at old new end
  put_laid p = record { count = p.count; same = put_length p; is = λ l. p.is }

  pub laid_put : {ws old new : List A} {at end : ℕ} → Laid ws at old new end → end ≤ length old → Put ws at old new end
  laid_put h l = record { count = h.count; inside = l; is = h.is l }

  pub laid_none : (at : ℕ) (old : List A) → Laid [] at old old at
  laid_none at old = record { count = omega arith; same = refl; is = λ l. (put_none at old l).is }

  -- no room: nothing is written
  pub laid_past : (ws : List A) (at : ℕ) (old : List A) → length old < at + length ws → Laid ws at old old (at + length ws)
  laid_past ws at old l = record { count = refl; same = refl; is = λ h. absurd (omega arith) }

  pub laid_one : (x : A) (at : ℕ) (old : List A) → at < length old → Laid (x ∷ []) at old (set old at x) (at + 1)
  laid_one x at old l = put_laid (put_one x at old l)

  pub laid_then : {ws vs old mid new : List A} {at a b : ℕ} → Laid ws at old mid a → Laid vs a mid new b → Laid (ws ++ vs) at old new b
  laid_then {ws} {vs} {old} {mid} {new} {at} {a} {b} h k = record {
    count = omega (arith, h.count, k.count, length-append ws vs);
    same = k.same ∙ h.same;
    is = λ l. (put_then (laid_put h (omega (arith, h.count, k.count))) (laid_put k (omega (arith, h.same)))).is;
  }
