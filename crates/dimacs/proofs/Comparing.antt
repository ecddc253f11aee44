-- Slices that are compared, and the definition's comparison of words.
-- Assumes nothing.
use mathlib.Core.Path.{◌≡◌, refl}
use mathlib.Core.List.{List, [], ◌∷◌}
use Prim.Native.Nat.{ℕ}
use lib.Dec.{eqb}
use lib.Pointwise.{pointwise}
use Rattle.dimacs.specs.Reading.{same}

pub same_is : (x y : List ℕ) → pointwise eqb x y ≡ same x y
unfolding same
same_is [] [] = refl
same_is [] (b ∷ y) = refl
same_is (a ∷ x) [] = refl
same_is (a ∷ x) (b ∷ y) = rw (same_is x y)
