-- A literal as two's complement.
-- Assumes nothing.
use mathlib.Core.Path.{◌≡◌, refl}
use native.Mathlib.Omega.{arith}
use lib.IntN.{ℤ, pos, negsuc}
use mir.Syntax.{w16}
use mir.Val.{of_z}
use Rattle.dimacs.specs.Records.{complement}

pub complement_is : (z : ℤ) → of_z w16 z ≡ complement z
complement_is (pos n) = refl
complement_is (negsuc n) = omega arith
