-- The document's number and value name one refusal.
-- Assumes nothing.
use mathlib.Core.Path.{◌≡◌, refl, sym, ◌∙◌, ap₂}
use mathlib.Core.Bool.{cond}
use Prim.Native.Nat.{ℕ}
use lib.Dec.{eqb}
use Rattle.plan.specs.declared.refusal.Refusal.{Refusal}
use Rattle.plan.specs.declared.refusal.Refusal.TheVariants.{TooLong, Cut, Misplaced, UnknownTag, BadLength, OutOfRange, TooMany, Shared, WrongLength, BadValue, NoSuchAtom, NoRoom, NoBlock, BadText, WrongCount, TooManyVariables}
use Rattle.plan.specs.Refusals.{number_of, value_of}

named : ℕ → ℕ → Refusal
named n v =
    cond (eqb n 1) TooLong
    (cond (eqb n 2) (Cut v)
    (cond (eqb n 3) (Misplaced v)
    (cond (eqb n 4) (UnknownTag v)
    (cond (eqb n 5) (BadLength v)
    (cond (eqb n 6) (OutOfRange v)
    (cond (eqb n 7) (TooMany v)
    (cond (eqb n 8) (Shared v)
    (cond (eqb n 9) (WrongLength v)
    (cond (eqb n 10) (BadValue v)
    (cond (eqb n 11) (NoSuchAtom v)
    (cond (eqb n 12) (NoRoom v)
    (cond (eqb n 13) (NoBlock v)
    (cond (eqb n 20) (BadText v)
    (cond (eqb n 21) (WrongCount v)
    (TooManyVariables v)))))))))))))))

named_is : (x : Refusal) → named (number_of x) (value_of x) ≡ x
unfolding named
named_is TooLong = refl
named_is (Cut v) = refl
named_is (Misplaced v) = refl
named_is (UnknownTag v) = refl
named_is (BadLength v) = refl
named_is (OutOfRange v) = refl
named_is (TooMany v) = refl
named_is (Shared v) = refl
named_is (WrongLength v) = refl
named_is (BadValue v) = refl
named_is (NoSuchAtom v) = refl
named_is (NoRoom v) = refl
named_is (NoBlock v) = refl
named_is (BadText v) = refl
named_is (WrongCount v) = refl
named_is (TooManyVariables v) = refl

pub one_refusal : (x y : Refusal) → number_of x ≡ number_of y → value_of x ≡ value_of y → x ≡ y
one_refusal x y n v = sym (named_is x) ∙ ap₂ named n v ∙ named_is y
