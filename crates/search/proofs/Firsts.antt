-- The first places of an assignment, and its lowest open variable.
-- Assumes nothing.
use mathlib.Core.Path.{◌≡◌, refl, sym, subst, ◌∙◌, ap}
use mathlib.Core.Logic.{◌⊎◌, inl, inr}
use mathlib.Core.List.{List, ◌∷◌}
use Prim.Native.Nat.{ℕ, zero, suc, ◌+◌, ◌≤◌}
use native.Mathlib.Omega.{arith}
use lib.ListN.{length, get_or, set, take, replicate, length-replicate}
use lib.Seq.{get_or-set_same, get_or-set_other, take-set-lt}
use lib.IntN.{ℤ, pos, negsuc, nat_abs}
use lib.Dec.{T}
use Rattle.std.specs.Prelude.{Some, None}
use Rattle.plan.specs.Meaning.{PlanFile, is_on, is_off, value, true_in, add, Full}
use Rattle.plan.specs.Ranged.{max_variables}
use Rattle.plan.specs.Search.{Assigned, opens, Closes, Lowest}
use Rattle.plan.proofs.Add.{IsValue, opens_sub}
use Rattle.plan.proofs.Places.{without_more, without_join}
use Rattle.search.specs.Report.{OpenAt, Filled, FirstOpen}

pub take_add : (n : ℕ) (a : List ℤ) (l : ℤ) → nat_abs l ≤ n → take n (add a l) ≡ add (take n a) l
unfolding add
take_add n a (pos zero) h = refl
take_add n a (pos (suc i)) h = take-set-lt n a i (pos 1) h
take_add n a (negsuc i) h = take-set-lt n a i (negsuc 0) h

-- what is assigned stays assigned
zero_is : (x : ℤ) → x ≡ pos 0 → (T (is_on x) → ⊥) × (T (is_off x) → ⊥)
zero_is x e = ((λ t. subst (λ z. T (is_on z)) e t), (λ t. subst (λ z. T (is_off z)) e t))

pub filled_closed : (φ : PlanFile) (a c : List ℤ) (from : ℕ) → Assigned φ.variables a → from ≤ φ.variables → Closes φ a c → Filled a from → Filled c from
unfolding true_in value
filled_closed φ a c from s h k f j b p e = go (s.each j (omega arith))
  where
    go : IsValue (get_or a j (pos 0)) → ⊥
    go (inl q) = (zero_is _ e).0 (k.closed.closing.given (pos (suc j)) (subst (λ z. T (is_on z)) (sym q) tt))
    go (inr (inl q)) = (zero_is _ e).1 (k.closed.closing.given (negsuc j) (subst (λ z. T (is_off z)) (sym q) tt))
    go (inr (inr q)) = f j b p q

-- the first open place, and that there is none
module _ (a : List ℤ) (from : ℕ) (f : Filled a from) where
  pub first_lowest : (r : ℕ) → FirstOpen a from (Some r) → Lowest a r
  first_lowest r o = record { inside = o.inside; is_open = o.here; below = λ j b. without_join (OpenAt a) f o.before j (omega arith) b }

  pub first_full : (n : ℕ) → Assigned n a → FirstOpen a from None → Full n a
  first_full n s o = record { long = s.long; each = λ j h. known (s.each j h) (without_join (OpenAt a) f o j (omega arith) (omega (arith, s.long))) }
    where
      known : {x : ℤ} → IsValue x → (x ≡ pos 0 → ⊥) → (x ≡ pos 1) ⊎ (x ≡ negsuc 0)
      known (inl q) z = inl q
      known (inr (inl q)) z = inr q
      known (inr (inr q)) z = absurd (z q)

-- the branching variable's place is assigned then
module _ (c : List ℤ) (i : ℕ) (l : Lowest c i) where
  filled_set : (x : ℤ) → (x ≡ pos 0 → ⊥) → (j : ℕ) → j ≡ i → Filled (set c j x) (i + 1)
  filled_set x z j e = rw e (without_more (OpenAt (set c i x)) (λ k a b q. l.below k b (sym (get_or-set_other c i k x (pos 0) (λ d. omega arith)) ∙ q)) (λ q. z (sym (get_or-set_same c i x (pos 0) l.inside) ∙ q)))

  pub filled_tried : (x : ℤ) → nat_abs x ≡ suc i → Filled (add c x) (i + 1)
  unfolding add
  filled_tried (pos zero) e = absurd (omega arith)
  filled_tried (pos (suc j)) e = filled_set (pos 1) (λ q. (zero_is _ q).0 tt) j (omega arith)
  filled_tried (negsuc j) e = filled_set (negsuc 0) (λ q. (zero_is _ q).1 tt) j (omega arith)

pub fewer_closed : (φ : PlanFile) (a c : List ℤ) → Assigned φ.variables a → Closes φ a c → opens c ≤ opens a
fewer_closed φ a c s k = opens_sub φ.variables a c s k.shape k.closed.closing.given

-- all open
take_same : (n m : ℕ) → n ≤ m → take n (replicate m (pos 0)) ≡ replicate n (pos 0)
take_same zero m h = refl
take_same (suc n) zero h = absurd (omega arith)
take_same (suc n) (suc m) h = ap (λ l. pos 0 ∷ l) (take_same n m (omega arith))

pub each_open : (n i : ℕ) → get_or (replicate n (pos 0)) i (pos 0) ≡ pos 0
each_open zero i = refl
each_open (suc n) zero = refl
each_open (suc n) (suc i) = each_open n i

pub all_open_is : (n : ℕ) (a : List ℤ) → n ≤ max_variables → a ≡ replicate max_variables (pos 0) → take n a ≡ replicate n (pos 0)
all_open_is n a h e = ap (take n) e ∙ take_same n max_variables h

pub all_open_shape : (n : ℕ) → Assigned n (replicate n (pos 0))
all_open_shape n = record { long = length-replicate n (pos 0); each = λ i h. inr (inr (each_open n i)) }

-- the first places of all open, as they are lent: w is the number of variables, made wide
pub record Opened (variables w : ℕ) (a : List ℤ) : Type 0 where
  pub room : w ≤ length a
  pub cut : w ≡ length (take w a)
  pub shape : Assigned variables (take w a)

pub opened : (n w : ℕ) (a : List ℤ) → n ≤ max_variables → w ≡ n → a ≡ replicate max_variables (pos 0) → Opened n w a
opened n w a h e o =
    let s : Assigned n (take w a) = subst (Assigned n) (sym (ap (λ k. take k a) e ∙ all_open_is n a h o)) (all_open_shape n) in
    record { room = omega (arith, ap length o ∙ length-replicate max_variables (pos 0)); cut = e ∙ sym s.long; shape = s }
