-- The invariant of a loop that writes the pieces g 0, g 1, .. one behind the other, and its laws.
-- Assumes nothing.
use mathlib.Core.Path.{◌≡◌, refl, sym, ap, subst}
use mathlib.Core.List.{List, ◌++◌}
use mathlib.Core.Logic.{◌⊎◌, inl, inr}
use Prim.Native.Nat.{ℕ, zero, suc, ◌+◌, ◌≤◌, ◌<◌}
use native.Mathlib.Omega.{arith}
use native.Mathlib.Numerals.{add-one}
use lib.ListN.{length, length-append}
use Rattle.plan.specs.Written.{each}
use Rattle.plan.proofs.Lists.{le_or_lt}
use Rattle.plan.specs.Front.{Room, Put}
use Rattle.plan.proofs.Fronts.{put_none, put_as, put_length, put_then, room_rest}

module _ {A : Type 0} where
  -- k of m pieces are written
  pub record Filling (g : ℕ → List A) (m at : ℕ) (old out : List A) (end k : ℕ) : Type 0 where
    pub turns : k ≤ m
    pub room : Room (each m g) at old
    pub put : Put (each k g) at old out end
    pub same : length out ≡ length old

  pub each_upto : (g : ℕ → List A) (k m : ℕ) → k ≤ m → length (each k g) ≤ length (each m g)
  unfolding each
  each_upto g k zero l = let e : k ≡ 0 = omega arith in subst (λ x. length (each x g) ≤ 0) (sym e) (omega arith)
  each_upto g k (suc m) l = go (each_upto g k m) (le_or_lt k m)
    where
      go : (k ≤ m → length (each k g) ≤ length (each m g)) → (k ≤ m) ⊎ (m < k) → length (each k g) ≤ length (each m g ++ g m)
      go ih (inl h) = omega (arith, ih h, length-append (each m g) (g m))
      go ih (inr h) = let e : k ≡ suc m = omega arith in subst (λ x. length (each x g) ≤ length (each m g ++ g m)) (sym e) (omega arith)

  pub filling_start : {g : ℕ → List A} {m at : ℕ} {old : List A} → Room (each m g) at old → Filling g m at old old at 0
  unfolding each
  filling_start {at = at} {old = old} h = record { turns = omega arith; room = h; put = put_none at old (omega (arith, h.fits)); same = refl }

  module _ {g : ℕ → List A} {m at : ℕ} {old out : List A} {end k : ℕ} (f : Filling g m at old out end k) where
    -- there is room for the next piece
    pub filling_room : k < m → Room (g k) end out
    unfolding each
    filling_room l = room_rest (each k g) (g k) (record { fits = omega (arith, f.room.fits, each_upto g (suc k) m l) }) f.put

    -- the next piece is written there
    pub filling_turn : k < m → {new : List A} {next : ℕ} → Put (g k) end out new next → Filling g m at old new next (k + 1)
    unfolding each
    filling_turn l p = let q = put_then f.put p in record { turns = omega arith; room = f.room; put = rw add-one q; same = put_length q }

    pub filling_end : m ≤ k → Put (each m g) at old out end
    filling_end l = let e : k ≡ m = omega (arith, f.turns) in put_as (ap (λ x. each x g) e) f.put
