-- Literals and their values as the code's tests leave them.
-- Assumes nothing.
use mathlib.Core.Path.{◌≡◌, sym, subst, ◌∙◌, ap}
use mathlib.Core.Logic.{◌⊎◌, ⊎_elim}
use mathlib.Core.Bool.{Bool, true, false}
use mathlib.Core.List.{List}
use Prim.Native.Nat.{ℕ, zero, suc, ◌-◌, ◌≤◌}
use native.Mathlib.Omega.{arith}
use lib.ListN.{length, get_or}
use lib.IntN.{ℤ, pos, neg_ℤ}
use lib.Dec.{T, eqb, eqb→eq}
use mir.Syntax.{w8}
use mir.Val.{SFits, of_z}
use Rattle.plan.specs.Meaning.{value, is_on, is_off, true_in, literal_of}
use Rattle.plan.specs.Ranged.{LiteralFits}
use Rattle.plan.specs.Search.{Assigned}
use Rattle.plan.specs.Tables.{literal_value}
use Rattle.plan.proofs.Add.{IsValue, on_one, off_one}
use Rattle.plan.proofs.Bools.{T_same}
use Rattle.plan.proofs.Signs.{bits_eq}
use Rattle.plan.proofs.Values.{sign_fits, literal_value_lem, literal_true, literal_false}

-- the value v of a literal l, tested against 1 and -1
module _ (a : List ℤ) (l v : ℤ) (s : Assigned (length a) a) (f : LiteralFits (length a) l) (e : v ≡ literal_value a l) where
  is_value_lem : IsValue v
  is_value_lem = subst (λ x. IsValue x) (sym e) (literal_value_lem (length a) a s l f.low f.high)

  pub bits_true : of_z w8 v ≡ 1 → T (true_in a l)
  bits_true b = (literal_true a l).1 (sym e ∙ bits_eq w8 v 1 (sign_fits v is_value_lem) b)

  pub bits_false : of_z w8 v ≡ 255 → T (true_in a (neg_ℤ l))
  bits_false b = (literal_false a l f.low).1 (sym e ∙ bits_eq w8 v 255 (sign_fits v is_value_lem) b)

  pub true_bits : T (true_in a l) → of_z w8 v ≡ 1
  true_bits t = ap (of_z w8) (e ∙ (literal_true a l).0 t)

  pub false_bits : T (true_in a (neg_ℤ l)) → of_z w8 v ≡ 255
  false_bits t = ap (of_z w8) (e ∙ (literal_false a l f.low).0 t)

-- a variable's value, tested against that of on and that of off
on_bits : (z : ℤ) → SFits w8 z → eqb (of_z w8 z) 1 ≡ is_on z
on_bits z f = T_same _ _
    (λ t. subst (λ x. T (is_on x)) (sym (bits_eq w8 z 1 f (eqb→eq _ _ t))) tt)
    (λ t. subst (λ x. T (eqb (of_z w8 x) 1)) (sym (on_one z t)) tt)

off_bits : (z : ℤ) → SFits w8 z → eqb (of_z w8 z) 255 ≡ is_off z
off_bits z f = T_same _ _
    (λ t. subst (λ x. T (is_off x)) (sym (bits_eq w8 z 255 f (eqb→eq _ _ t))) tt)
    (λ t. subst (λ x. T (eqb (of_z w8 x) 255)) (sym (off_one z t)) tt)

abbrev SignBits : Bool → ℕ → Type 0
SignBits b x = ((b ≡ true) × (x ≡ 1)) ⊎ ((b ≡ false) × (x ≡ 255))

pub set_bits : (a : List ℤ) (v w x : ℕ) (b : Bool) → w ≡ v → 1 ≤ v → SFits w8 (get_or a (w - 1) (pos 0)) → SignBits b x → eqb (of_z w8 (get_or a (w - 1) (pos 0))) x ≡ true_in a (literal_of b v)
unfolding true_in value
set_bits a zero w x b e l f s = absurd (omega arith)
set_bits a (suc i) w x b e l f s =
    let p : w - 1 ≡ i = omega arith in
    ⊎_elim
    (λ y. rw (y.0, y.1) (on_bits (get_or a (w - 1) (pos 0)) f ∙ ap (λ (k : ℕ). is_on (get_or a k (pos 0))) p))
    (λ y. rw (y.0, y.1) (off_bits (get_or a (w - 1) (pos 0)) f ∙ ap (λ (k : ℕ). is_off (get_or a k (pos 0))) p))
    s
