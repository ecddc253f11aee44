-- A quiet clause stays quiet until one of its literals becomes false; and what one literal more makes true.
-- Assumes nothing.
use mathlib.Core.Path.{◌≡◌, sym, subst, ap, ◌∙◌}
use mathlib.Core.Logic.{◌⊎◌, inl, inr, ◌≢◌, ⊎_elim}
use mathlib.Core.Bool.{not, ◌&&◌, ◌||◌}
use mathlib.Core.List.{List, Memᴰ}
use Prim.Native.Nat.{ℕ, ◌≤◌, ◌<◌}
use lib.ListN.{length, get_or}
use lib.IntN.{ℤ, pos, neg_ℤ, neg_ℤ-neg_ℤ, nat_abs, ℤ_discrete}
use lib.Dec.{T, T_not, not_T}
use Rattle.plan.specs.Meaning.{Literals, ◌⊆◌, true_in, add}
use Rattle.plan.proofs.Bools.{T?, any_or_none, and_both, and_left, and_right, or_cases, or_left, or_right}
use Rattle.plan.proofs.Closing.{never_both}
use Rattle.plan.proofs.Add.{add_below}
use Rattle.plan.proofs.Compute.{eqℤ}
use Rattle.plan.proofs.Exists.{eqℤ→eq, eqℤ_refl}
use Rattle.unit.specs.Clauses.{OthersFalse, Quiet}
use Rattle.unit.specs.Queue.{Waits}

-- what became true from v to w waits in the queue, so a clause that was quiet is so still, or waits
pub quiet_or_waits : (v w q : List ℤ) (head end : ℕ) → true_in v ⊆ true_in w
    → ((l : ℤ) → T (true_in w l) → (T (true_in v l) → ⊥) → (k : ℕ) × (head ≤ k) × (k < end) × (get_or q k (pos 0) ≡ l))
    → (C : List ℤ) → Quiet (true_in v) C → Quiet (true_in w) C ⊎ Waits q head end C
quiet_or_waits v w q head end h new C x = go (any_or_none (λ m. true_in w (neg_ℤ m) && not (true_in v (neg_ℤ m))) C)
  where
    go : ((m : ℤ) × Memᴰ m C × T (true_in w (neg_ℤ m) && not (true_in v (neg_ℤ m)))) ⊎ ((m : ℤ) → Memᴰ m C → T (true_in w (neg_ℤ m) && not (true_in v (neg_ℤ m))) → ⊥)
        → Quiet (true_in w) C ⊎ Waits q head end C
    go (inl (m, i, t)) =
        let k = new (neg_ℤ m) (and_left (true_in w (neg_ℤ m)) _ t) (T_not (true_in v (neg_ℤ m)) (and_right (true_in w (neg_ℤ m)) _ t)) in
        inr (record { place = k.0; from = k.1; upto = k.2; among = subst (λ l. Memᴰ l C) (sym (neg_ℤ-neg_ℤ m) ∙ ap neg_ℤ (sym k.3)) i })
    go (inr n) = inl (record { there = λ l i o. h l (x.there l i (λ m j d. was m j (o m j d))); free = λ f. x.free (λ m i. was m i (f m i)) })
      where
        was : (m : ℤ) → Memᴰ m C → T (true_in w (neg_ℤ m)) → T (true_in v (neg_ℤ m))
        was m i t = ⊎_elim (λ u. u) (λ u. absurd (n m i (and_both (true_in w (neg_ℤ m)) _ t (not_T (true_in v (neg_ℤ m)) u)))) (T? (true_in v (neg_ℤ m)))

-- a clause with a true literal is quiet
pub quiet_true : (a C : List ℤ) (l : ℤ) → Memᴰ l C → T (true_in a l) → Quiet (true_in a) C
quiet_true a C l m t = record { there = λ k i o. go k o (ℤ_discrete l k); free = λ f. never_both a l t (f l m) }
  where
    go : (k : ℤ) → OthersFalse (true_in a) C k → Dec (l ≡ k) → T (true_in a k)
    go k o (yes e) = subst (λ x. T (true_in a x)) e t
    go k o (no n) = absurd (never_both a l t (o l m n))

-- so is one with two that are not false
pub quiet_two : (S : Literals) (C : List ℤ) (l k : ℤ) → Memᴰ l C → Memᴰ k C → (T (S (neg_ℤ l)) → ⊥) → (T (S (neg_ℤ k)) → ⊥) → k ≢ l → Quiet S C
quiet_two S C l k m i x y n = record { there = λ j h o. absurd (go j o (ℤ_discrete l j)); free = λ f. x (f l m) }
  where
    go : (j : ℤ) → OthersFalse S C j → Dec (l ≡ j) → ⊥
    go j o (yes e) = y (o k i (λ q. n (q ∙ sym e)))
    go j o (no d) = x (o l m d)

-- one literal more makes that literal true, and no other
pub add_only : (v : List ℤ) (l m : ℤ) → nat_abs l ≤ length v → T (true_in (add v l) m) → (T (true_in v m) → ⊥) → m ≡ l
add_only v l m k t n =
    ⊎_elim (λ u. absurd (n u)) (eqℤ→eq m l) (or_cases (true_in v m) (eqℤ m l)
    (add_below v (λ x. true_in v x || eqℤ x l) l k (λ x u. or_left (true_in v x) _ u) (or_right (true_in v l) _ (eqℤ_refl l)) m t))
