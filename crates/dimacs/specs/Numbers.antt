-- A number as a word. Document 02, C-11, with the readings of docs/DECISIONS.md.
-- Assumes nothing.
use Rattle.std.specs.Prelude.{ℕ, ◌+◌, ◌-◌, ◌*◌, Bool, true, false, cond, ◌&&◌, List, [], ◌∷◌, leb, eqb, ℤ, pos, neg_ℤ}
use Rattle.std.proofs.Math.Option.{Option, none, some}

abbrev pub zero_digit : ℕ
zero_digit = 48

abbrev pub minus : ℕ
minus = 45

unfoldable pub is_digit : ℕ → Bool
is_digit b = leb zero_digit b && leb b 57

unfoldable pub all_digits : List ℕ → Bool
all_digits [] = true
all_digits (b ∷ t) = is_digit b && all_digits t

-- The value of digits behind those that make n: "leading zeros are taken".
unfoldable pub value : ℕ → List ℕ → ℕ
value n [] = n
value n (b ∷ t) = value (n * 10 + (b - zero_digit)) t

-- "one or more digits": their value, where it is at most so much
unfoldable pub magnitude : ℕ → List ℕ → Option ℕ
magnitude most [] = none
magnitude most (b ∷ t) = cond (all_digits (b ∷ t) && leb (value 0 (b ∷ t)) most) (some (value 0 (b ∷ t))) none

abbrev pub signed : Bool → ℕ → ℤ
signed negative n = cond negative (neg_ℤ (pos n)) (pos n)

abbrev pub with_sign : Bool → Option ℕ → Option ℤ
with_sign negative none = none
with_sign negative (some n) = some (signed negative n)

-- "A number is an optional `-` and one or more digits within signed 32 bits": -2,147,483,648 to 2,147,483,647. "`-0` reads as 0".
abbrev pub most : Bool → ℕ
most negative = cond negative 2147483648 2147483647

unfoldable pub number_in : List ℕ → Option ℤ
number_in [] = none
number_in (b ∷ t) = cond (eqb b minus) (with_sign true (magnitude (most true) t)) (with_sign false (magnitude (most false) (b ∷ t)))
