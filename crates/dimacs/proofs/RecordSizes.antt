-- How long records are: 3 bytes for each clause, and 2 for each literal.
-- Assumes nothing.
use mathlib.Core.Path.{◌≡◌, refl}
use mathlib.Core.List.{List, [], ◌∷◌}
use Prim.Native.Nat.{◌+◌, ◌*◌}
use native.Mathlib.Omega.{arith}
use lib.IntN.{ℤ}
use lib.ListN.{length, length-append}
use Rattle.plan.specs.Ranged.{literals}
use Rattle.dimacs.specs.Records.{literal_bytes, clause_record, records}

pub literals_length : (C : List ℤ) → length (literal_bytes C) ≡ 2 * length C
unfolding literal_bytes
literals_length [] = refl
literals_length (l ∷ C) = omega (arith, literals_length C)

pub record_length : (C : List ℤ) → length (clause_record C) ≡ 3 + 2 * length C
unfolding clause_record
record_length C = omega (arith, literals_length C)

pub records_length : (Cs : List (List ℤ)) → length (records Cs) ≡ 3 * length Cs + 2 * literals Cs
unfolding records literals
records_length [] = refl
records_length (C ∷ Cs) = omega (arith, length-append (clause_record C) (records Cs), record_length C, records_length Cs)
