-- Clauses as text. Document 02, C-11: "Print the written-out clauses, one a line, after the `p cnf` line, each block behind a line `c atom` and its number."
-- Assumes nothing.
use Rattle.std.specs.Prelude.{ℕ, zero, suc, ◌+◌, ◌/◌, ◌%◌, ◌≤◌, cond, List, [], ◌∷◌, ◌++◌, ltb, ℤ, pos, negsuc}
use Rattle.dimacs.specs.Words.{blank, line_end}
use Rattle.dimacs.specs.Numbers.{zero_digit, minus}

-- The digits of a number, the first one highest; no more than so many.
unfoldable pub digits : ℕ → ℕ → List ℕ
digits zero n = []
digits (suc k) n = cond (ltb n 10) ((zero_digit + n) ∷ []) (digits k (n / 10) ++ ((zero_digit + n % 10) ∷ []))

-- A number of 32 bits has at most ten digits.
abbrev pub numeral : ℕ → List ℕ
numeral n = digits 10 n

abbrev pub printed : ℤ → List ℕ
printed (pos n) = numeral n
printed (negsuc n) = minus ∷ numeral (suc n)

-- "one clause a line, one blank between numbers, LF at each line's end": a 0 ends its clause
abbrev pub divider : ℤ → ℕ
divider (pos zero) = line_end
divider (pos (suc n)) = blank
divider (negsuc n) = blank

unfoldable pub entry : ℤ → List ℕ
entry l = printed l ++ (divider l ∷ [])

-- A flat list of clauses, each ended by 0.
unfoldable pub entries : List ℤ → List ℕ
entries [] = []
entries (l ∷ ls) = entry l ++ entries ls

-- "the `p cnf` line with the counts": of variables and of clauses
unfoldable pub head_line : ℕ → ℕ → List ℕ
head_line variables clauses = (112 ∷ blank ∷ 99 ∷ 110 ∷ 102 ∷ blank ∷ []) ++ (numeral variables ++ (blank ∷ (numeral clauses ++ (line_end ∷ []))))

-- "the line `c atom K`"
unfoldable pub atom_line : ℕ → List ℕ
atom_line k = (99 ∷ blank ∷ 97 ∷ 116 ∷ 111 ∷ 109 ∷ blank ∷ []) ++ (numeral k ++ (line_end ∷ []))

-- A place from which on all that is ever printed can be counted.
abbrev pub Near : ℕ → Type 0
Near at = at ≤ 1099511627776
