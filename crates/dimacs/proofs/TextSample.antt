-- Short texts, byte by byte, and what they read as.
-- Assumes nothing.
use Prim.Native.Nat.{ℕ}
use mathlib.Core.Path.{◌≡◌, refl}
use mathlib.Core.List.{List, [], ◌∷◌}
use lib.IntN.{pos, negsuc}
use Rattle.dimacs.specs.Words.{divides, moved, ended, last, words}
use Rattle.dimacs.specs.Numbers.{is_digit, all_digits, value, magnitude, number_in}
use Rattle.dimacs.specs.Reading.{Rule, bad, good, same, turn, clauses, behind, count, variables, cnf, whole, read_text}

-- A comment, the `p` line with CR LF, a clause over two lines with a comment inside it, and a clause behind it in the same line:
-- "c x", "p cnf 3 2" CR, "1 -2", "c 9 0", "3 0 -1 0" CR.
pub sample_text : List ℕ
sample_text =
    99 ∷ 32 ∷ 120 ∷ 10
    ∷ 112 ∷ 32 ∷ 99 ∷ 110 ∷ 102 ∷ 32 ∷ 51 ∷ 32 ∷ 50 ∷ 13 ∷ 10
    ∷ 49 ∷ 32 ∷ 45 ∷ 50 ∷ 10
    ∷ 99 ∷ 32 ∷ 57 ∷ 32 ∷ 48 ∷ 10
    ∷ 51 ∷ 32 ∷ 48 ∷ 32 ∷ 45 ∷ 49 ∷ 32 ∷ 48 ∷ 13 ∷ 10
    ∷ []

pub sample_rules : List Rule
sample_rules =
    record { at = 15; literals = pos 1 ∷ negsuc 1 ∷ pos 3 ∷ [] }
    ∷ record { at = 30; literals = negsuc 0 ∷ [] }
    ∷ []

pub sample_reads : read_text sample_text ≡ good 4 3 2 sample_rules
unfolding sample_text sample_rules divides moved ended last words is_digit all_digits value magnitude number_in same turn clauses behind count variables cnf whole read_text
sample_reads = refl

-- Clauses with no literals, first, between and last: "p cnf 1 4", "0", "1 0 0 0".
pub zeros_read : read_text (112 ∷ 32 ∷ 99 ∷ 110 ∷ 102 ∷ 32 ∷ 49 ∷ 32 ∷ 52 ∷ 10 ∷ 48 ∷ 10 ∷ 49 ∷ 32 ∷ 48 ∷ 32 ∷ 48 ∷ 32 ∷ 48 ∷ 10 ∷ [])
    ≡ good 0 1 4
    (record { at = 10; literals = [] } ∷ record { at = 12; literals = pos 1 ∷ [] } ∷ record { at = 16; literals = [] } ∷ record { at = 18; literals = [] } ∷ [])
unfolding divides moved ended last words is_digit all_digits value magnitude number_in same turn clauses behind count variables cnf whole read_text
zeros_read = refl

-- A literal above the `p` line's count of variables: "p cnf 2 1", "3 0".
pub above_reads : read_text (112 ∷ 32 ∷ 99 ∷ 110 ∷ 102 ∷ 32 ∷ 50 ∷ 32 ∷ 49 ∷ 10 ∷ 51 ∷ 32 ∷ 48 ∷ 10 ∷ []) ≡ bad 10
unfolding divides moved ended last words is_digit all_digits value magnitude number_in same turn clauses behind count variables cnf whole read_text
above_reads = refl

pub empty_reads : read_text [] ≡ bad 0
unfolding last words whole read_text
empty_reads = refl
