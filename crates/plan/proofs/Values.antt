-- Values and literals as code meets them: a variable's place is its number less 1.
-- Assumes nothing.
use mathlib.Core.Path.{◌≡◌, refl, sym, subst, ap}
use mathlib.Core.Bool.{true, false}
use mathlib.Core.Logic.{◌↔◌, inl, inr}
use mathlib.Core.List.{List}
use Prim.Native.Nat.{ℕ, zero, suc, ◌-◌, ◌≤◌, ◌<◌}
use native.Mathlib.Omega.{arith}
use lib.ListN.{get_or, set}
use lib.IntN.{ℤ, pos, negsuc, neg_ℤ, nat_abs}
use lib.Signed.{lt_z}
use lib.Dec.{T}
use borrow.Author.Tests.{ltb-true, ltb-false}
use mir.Syntax.{w8}
use mir.Val.{SFits}
use Rattle.plan.specs.Meaning.{on, off, value, is_on, is_off, true_in, add}
use Rattle.plan.specs.Search.{Assigned}
use Rattle.plan.specs.Tables.{literal_value}
use Rattle.plan.proofs.Add.{IsValue, on_one, off_one}

pub value_at_lem : (a : List ℤ) (v i : ℕ) → 0 < v → i ≡ v - 1 → value a v ≡ get_or a i (pos 0)
unfolding true_in value add
value_at_lem a zero i h e = absurd (omega arith)
value_at_lem a (suc k) i h e = ap (λ z. get_or a z (pos 0)) (omega arith)

pub true_on : (a : List ℤ) (v : ℕ) → T (true_in a (on v)) ↔ (value a v ≡ pos 1)
unfolding true_in value add
true_on a v = ((λ t. on_one (value a v) t), (λ e. rw e tt))

pub true_off : (a : List ℤ) (v : ℕ) → 0 < v → T (true_in a (off v)) ↔ (value a v ≡ negsuc 0)
unfolding true_in value add
true_off a zero h = absurd (omega arith)
true_off a (suc i) h = ((λ t. off_one (value a (suc i)) t), (λ e. rw e tt))

-- the code's store at the place of a literal's variable
pub with_on : (a : List ℤ) (l : ℤ) (v : ℕ) → v ≡ nat_abs l → 1 ≤ nat_abs l → lt_z (pos 0) l ≡ true → set a (v - 1) (pos 1) ≡ add a l
unfolding add
with_on a (pos zero) v e h t = absurd (omega arith)
with_on a (pos (suc n)) v e h t = let p : v - 1 ≡ n = omega arith in ap (λ (k : ℕ). set a k (pos 1)) p
with_on a (negsuc n) v e h t = let z : ◌≡◌ {A = ℕ} 0 1 = cc in absurd (omega arith)

pub with_off : (a : List ℤ) (l : ℤ) (v : ℕ) → v ≡ nat_abs l → 1 ≤ nat_abs l → lt_z (pos 0) l ≡ false → set a (v - 1) (negsuc 0) ≡ add a l
unfolding add
with_off a (pos n) v e h t = let g : n ≤ 0 = ltb-false 0 n t in absurd (omega arith)
with_off a (negsuc n) v e h t = let p : v - 1 ≡ n = omega arith in ap (λ (k : ℕ). set a k (negsuc 0)) p

-- the value of a literal, as the code reads it
pub value_on : (a : List ℤ) (l : ℤ) (v : ℕ) → v ≡ nat_abs l → lt_z (pos 0) l ≡ true → get_or a (v - 1) (pos 0) ≡ literal_value a l
unfolding literal_value
value_on a (pos zero) v e t = let h : 0 < 0 = ltb-true 0 0 t in absurd (omega arith)
value_on a (pos (suc n)) v e t = let p : v - 1 ≡ n = omega arith in ap (λ (k : ℕ). get_or a k (pos 0)) p
value_on a (negsuc n) v e t = let z : ◌≡◌ {A = ℕ} 0 1 = cc in absurd (omega arith)

pub value_off : (a : List ℤ) (l : ℤ) (v : ℕ) → v ≡ nat_abs l → 1 ≤ nat_abs l → lt_z (pos 0) l ≡ false → neg_ℤ (get_or a (v - 1) (pos 0)) ≡ literal_value a l
unfolding literal_value
value_off a (pos n) v e h t = let g : n ≤ 0 = ltb-false 0 n t in absurd (omega arith)
value_off a (negsuc n) v e h t = let p : v - 1 ≡ n = omega arith in ap (λ (k : ℕ). neg_ℤ (get_or a k (pos 0))) p

-- a value fits a signed byte, and so does its opposite
pub sign_fits : (x : ℤ) → IsValue x → SFits w8 x
sign_fits x (inl e) = rw e (record { sfits = omega arith })
sign_fits x (inr (inl e)) = rw e (record { sfits = omega arith })
sign_fits x (inr (inr e)) = rw e (record { sfits = omega arith })

pub sign_neg : (x : ℤ) → IsValue x → IsValue (neg_ℤ x)
sign_neg x (inl e) = rw e (inr (inl refl))
sign_neg x (inr (inl e)) = rw e (inl refl)
sign_neg x (inr (inr e)) = rw e (inr (inr refl))

-- what the value of a literal says
pub literal_value_lem : (n : ℕ) (a : List ℤ) → Assigned n a → (l : ℤ) → 1 ≤ nat_abs l → nat_abs l ≤ n → IsValue (literal_value a l)
unfolding literal_value
literal_value_lem n a s (pos zero) p q = absurd (omega arith)
literal_value_lem n a s (pos (suc i)) p q = s.each i q
literal_value_lem n a s (negsuc i) p q = sign_neg (get_or a i (pos 0)) (s.each i q)

pub literal_true : (a : List ℤ) (l : ℤ) → T (true_in a l) ↔ (literal_value a l ≡ pos 1)
unfolding literal_value true_in value
literal_true a (pos zero) = ((λ t. absurd t), (λ e. subst (λ z. T (is_on z)) (sym e) tt))
literal_true a (pos (suc i)) = ((λ t. on_one (get_or a i (pos 0)) t), (λ e. subst (λ z. T (is_on z)) (sym e) tt))
literal_true a (negsuc i) = ((λ t. ap neg_ℤ (off_one (get_or a i (pos 0)) t)), (λ e. turn (get_or a i (pos 0)) e))
  where
    turn : (x : ℤ) → neg_ℤ x ≡ pos 1 → T (is_off x)
    turn (pos zero) e = absurd (omega (arith, ap nat_abs e))
    turn (pos (suc n)) e = subst (λ z. T (is_on z)) (sym e) tt
    turn (negsuc zero) e = tt
    turn (negsuc (suc n)) e = absurd (omega (arith, ap nat_abs e))

pub literal_false : (a : List ℤ) (l : ℤ) → 1 ≤ nat_abs l → T (true_in a (neg_ℤ l)) ↔ (literal_value a l ≡ negsuc 0)
unfolding literal_value true_in value
literal_false a (pos zero) h = absurd (omega arith)
literal_false a (pos (suc i)) h = ((λ t. off_one (get_or a i (pos 0)) t), (λ e. subst (λ z. T (is_off z)) (sym e) tt))
literal_false a (negsuc i) h = ((λ t. ap neg_ℤ (on_one (get_or a i (pos 0)) t)), (λ e. turn (get_or a i (pos 0)) e))
  where
    turn : (x : ℤ) → neg_ℤ x ≡ negsuc 0 → T (is_on x)
    turn (pos zero) e = subst (λ z. T (is_off z)) (sym e) tt
    turn (pos (suc zero)) e = tt
    turn (pos (suc (suc n))) e = absurd (omega (arith, ap nat_abs e))
    turn (negsuc n) e = subst (λ z. T (is_off z)) (sym e) tt
