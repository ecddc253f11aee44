-- Clauses as records of a plan file. Document 01, "Plan file".
-- Assumes nothing.
use Rattle.std.specs.Prelude.{ℕ, ◌-◌, ◌*◌, ◌/◌, ◌%◌, List, [], ◌∷◌, ◌++◌, ℤ, pos, negsuc, length, take, drop}

-- "All numbers are high byte first."
abbrev pub two : ℕ → List ℕ
two n = n / 256 ∷ n % 256 ∷ []

-- "literals, 16-bit two's complement"
abbrev pub complement : ℤ → ℕ
complement (pos n) = n
complement (negsuc n) = 65535 - n

unfoldable pub literal_bytes : List ℤ → List ℕ
literal_bytes [] = []
literal_bytes (l ∷ ls) = two (complement l) ++ literal_bytes ls

-- "A record is a tag (1 byte), a value length (2 bytes, high byte first) and the value."
unfoldable pub clause_record : List ℤ → List ℕ
clause_record C = 4 ∷ (two (length C * 2) ++ literal_bytes C)

unfoldable pub records : List (List ℤ) → List ℕ
records [] = []
records (C ∷ Cs) = clause_record C ++ records Cs

-- the plan file with records put in before its end record
unfoldable pub inserted : List ℕ → List ℕ → List ℕ
inserted f R = take (length f - 3) f ++ R ++ drop (length f - 3) f
