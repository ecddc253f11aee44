-- The index as it is made, from the table's end to its beginning: what holds before the turn for the place in front of `at`.
-- Assumes nothing.
use mathlib.Core.Path.{◌≡◌, refl, sym, subst, ◌∙◌, ap}
use mathlib.Core.List.{List}
use Prim.Native.Nat.{ℕ, ◌+◌, ◌<◌, ◌≤◌}
use native.Mathlib.Decide.{ℕ_discrete}
use native.Mathlib.Omega.{arith}
use lib.ListN.{length, get_or, set, length-set, replicate, length-replicate, get_or-replicate}
use lib.Seq.{get_or-set_same, get_or-set_other}
use lib.IntN.{ℤ, pos, negsuc, nat_abs, ℤ_discrete}
use Rattle.plan.specs.Ranged.{max_variables}
use Rattle.plan.specs.ClauseTable.{max_table}
use Rattle.plan.proofs.Places.{without_none, without_more, first_found, first_end, first_back}
use Rattle.index.specs.Places.{Place, slot, firsts, slot_behind, Indexable, Indexed}

pub record Built (cs : List ℤ) (at : ℕ) (places : List ℕ) : Type 0 where
  pub inside : at ≤ length cs
  pub room : length places ≡ firsts + max_table
  pub first : (l : ℤ) → nat_abs l ≤ max_variables → Place cs l at (get_or places (slot l) 0)
  pub next : (k : ℕ) → at ≤ k → k < length cs → Place cs (get_or cs k (pos 0)) (k + 1) (get_or places (slot_behind k) 0)

-- each number has its own place among the first ones
pub slot_inside : (l : ℤ) → nat_abs l ≤ max_variables → slot l < firsts
slot_inside (pos v) h = omega arith
slot_inside (negsuc v) h = omega arith

slot_one : (l m : ℤ) → nat_abs l ≤ max_variables → nat_abs m ≤ max_variables → slot l ≡ slot m → l ≡ m
slot_one (pos v) (pos w) g h e = ap pos e
slot_one (pos v) (negsuc w) g h e = absurd (omega arith)
slot_one (negsuc v) (pos w) g h e = absurd (omega arith)
slot_one (negsuc v) (negsuc w) g h e = ap negsuc (omega arith)

pub built_start : (cs : List ℤ) → Built cs (length cs) (replicate (firsts + max_table) (length cs))
built_start cs = record {
  inside = omega arith;
  room = length-replicate (firsts + max_table) (length cs);
  first = λ l h. subst (λ r. Place cs l (length cs) r) (sym (get_or-replicate (firsts + max_table) (slot l) (length cs) 0 (omega (arith, slot_inside l h)))) (first_end _ (omega arith) refl (without_none _ (length cs)));
  next = λ k p q. absurd (omega arith);
}

-- a turn: the number's first place so far is the next one of its place at `at`
module _ (cs : List ℤ) (places : List ℕ) (at : ℕ) (n : Indexable cs) (h : at < length cs) (b : Built cs (at + 1) places) where
  abbrev number : ℤ
  number = get_or cs at (pos 0)

  abbrev linked : List ℕ
  linked = set places (slot_behind at) (get_or places (slot number) 0)

  small : nat_abs number ≤ max_variables
  small = n.small at h

  first_after : (l : ℤ) → nat_abs l ≤ max_variables → Dec (l ≡ number) → Place cs l at (get_or (set linked (slot number) at) (slot l) 0)
  first_after l g (yes e) =
      rw e (rw (get_or-set_same linked (slot number) at 0 (simp length-set (omega (arith, b.room, slot_inside number small)))) (first_found _ (omega arith) (omega arith) (without_none _ at) refl))
  first_after l g (no d) =
      subst (λ r. Place cs l at r)
      (sym (get_or-set_other linked (slot number) (slot l) at 0 (λ e. d (slot_one l number g small e)) ∙ get_or-set_other places (slot_behind at) (slot l) _ 0 (λ e. omega (arith, slot_inside l g))))
      (first_back _ (omega arith) (without_more _ (without_none _ at) (λ e. d (sym e))) (b.first l g))

  next_after : (k : ℕ) → at ≤ k → k < length cs → Dec (k ≡ at) → Place cs (get_or cs k (pos 0)) (k + 1) (get_or (set linked (slot number) at) (slot_behind k) 0)
  next_after k p q d = rw (get_or-set_other linked (slot number) (slot_behind k) at 0 (λ e. omega (arith, slot_inside number small))) (go d)
    where
      go : Dec (k ≡ at) → Place cs (get_or cs k (pos 0)) (k + 1) (get_or linked (slot_behind k) 0)
      go (yes e) = rw e (rw (get_or-set_same places (slot_behind at) (get_or places (slot number) 0) 0 (let s = n.short in omega (arith, b.room))) (b.first number small))
      go (no o) = rw (get_or-set_other places (slot_behind at) (slot_behind k) (get_or places (slot number) 0) 0 (λ e. o (omega arith))) (b.next k (omega arith) q)

  pub built_more : Built cs at (set linked (slot number) at)
  built_more = record {
    inside = omega arith;
    room = simp length-set b.room;
    first = λ l g. first_after l g (ℤ_discrete l number);
    next = λ k p q. next_after k p q (ℕ_discrete k at);
  }

pub built_all : {cs : List ℤ} {places : List ℕ} → Indexable cs → Built cs 0 places → Indexed cs places
built_all s b = record { short = s.short; first = b.first; next = λ k h. b.next k (omega arith) h }
