-- A printed number reads as itself.
-- Assumes nothing.
use Prim.Native.Nat.{ℕ, zero, suc, ◌+◌, ◌-◌, ◌*◌, ◌/◌, ◌%◌, ◌≤◌, ◌<◌}
use mathlib.Core.Path.{◌≡◌, refl, ap, ◌∙◌}
use mathlib.Core.Bool.{Bool, true, false, cond, ◌&&◌}
use mathlib.Core.List.{List, [], ◌∷◌, ◌++◌}
use mathlib.Core.Option.{some}
use native.Mathlib.Nat.{mod-lt, div-add-mod'}
use native.Mathlib.Omega.{arith}
use borrow.Author.Tests.{ltb-true, leb-true, le-leb, ne_eqb}
use lib.Dec.{ltb, leb}
use lib.IntN.{pos, negsuc}
use lib.ListN.{length, length-append}
use Rattle.dimacs.specs.Numbers.{zero_digit, minus, is_digit, all_digits, value, magnitude, number_in}
use Rattle.dimacs.specs.Printing.{digits, numeral}

and_parts : (a b : Bool) → (a && b) ≡ true → (a ≡ true) × (b ≡ true)
and_parts true b e = (refl, e)
and_parts false b e = absurd (let z : ◌≡◌ {A = ℕ} 0 1 = cc in omega arith)

-- a digit is one, and what a digit is
digit_is : (d : ℕ) → d < 10 → is_digit (zero_digit + d) ≡ true
unfolding is_digit
digit_is d h = rw (le-leb zero_digit (zero_digit + d) (omega arith), le-leb (zero_digit + d) 57 (omega arith))

pub is_digit_lem : (b : ℕ) → is_digit b ≡ true → (zero_digit ≤ b) × (b ≤ 57)
unfolding is_digit
is_digit_lem b e = let q = and_parts (leb zero_digit b) (leb b 57) e in (leb-true zero_digit b q.0, leb-true b 57 q.1)

pub digits_parts : (b : ℕ) (t : List ℕ) → all_digits (b ∷ t) ≡ true → (is_digit b ≡ true) × (all_digits t ≡ true)
unfolding all_digits
digits_parts b t e = and_parts (is_digit b) (all_digits t) e

-- one digit more
digits_more : (xs : List ℕ) (d : ℕ) → d < 10 → all_digits xs ≡ true → all_digits (xs ++ ((zero_digit + d) ∷ [])) ≡ true
unfolding all_digits
digits_more [] d h e = rw (digit_is d h)
digits_more (b ∷ t) d h e = let q = digits_parts b t e in rw q.0 (digits_more t d h q.1)

value_more : (n : ℕ) (xs : List ℕ) (d : ℕ) → value n (xs ++ ((zero_digit + d) ∷ [])) ≡ value n xs * 10 + d
unfolding value
value_more n [] d = omega arith
value_more n (b ∷ t) d = value_more (n * 10 + (b - zero_digit)) t d

-- the digits of a number are digits; there is one at least; and their value is the number, where so many are enough for it
pub all_digits_lem : (k n : ℕ) → all_digits (digits k n) ≡ true
unfolding digits all_digits
all_digits_lem zero n = refl
all_digits_lem (suc k) n = go (ltb n 10) refl (all_digits_lem k (n / 10))
  where
    go : (x : Bool) → ltb n 10 ≡ x → all_digits (digits k (n / 10)) ≡ true → all_digits (cond x ((zero_digit + n) ∷ []) (digits k (n / 10) ++ ((zero_digit + n % 10) ∷ []))) ≡ true
    go true e r = digits_more [] n (ltb-true n 10 e) refl
    go false e r = digits_more (digits k (n / 10)) (n % 10) (mod-lt n (omega arith)) r

pub some_digit : (k n : ℕ) → 0 < length (digits (suc k) n)
unfolding digits
some_digit k n = go (ltb n 10)
  where
    go : (x : Bool) → 0 < length (cond x ((zero_digit + n) ∷ []) (digits k (n / 10) ++ ((zero_digit + n % 10) ∷ [])))
    go true = omega arith
    go false = simp length-append (omega arith)

abbrev power : ℕ → ℕ
power zero = 1
power (suc k) = power k * 10

digits_value : (k n : ℕ) → n < power k → value 0 (digits k n) ≡ n
unfolding digits value
digits_value zero n h = omega arith
digits_value (suc k) n h = go (ltb n 10) refl (digits_value k (n / 10) (omega arith))
  where
    go : (x : Bool) → ltb n 10 ≡ x → value 0 (digits k (n / 10)) ≡ n / 10 → value 0 (cond x ((zero_digit + n) ∷ []) (digits k (n / 10) ++ ((zero_digit + n % 10) ∷ []))) ≡ n
    go true e r = omega arith
    go false e r = value_more 0 (digits k (n / 10)) (n % 10) ∙ omega (arith, div-add-mod' n 10)

-- digits as a number: their value
digits_magnitude : (most : ℕ) (xs : List ℕ) → 0 < length xs → all_digits xs ≡ true → value 0 xs ≤ most → magnitude most xs ≡ some (value 0 xs)
unfolding magnitude
digits_magnitude most [] h e v = absurd (omega arith)
digits_magnitude most (b ∷ t) h e v = rw (e, le-leb (value 0 (b ∷ t)) most v)

digits_number : (xs : List ℕ) → 0 < length xs → all_digits xs ≡ true → value 0 xs ≤ 2147483647 → number_in xs ≡ some (pos (value 0 xs))
unfolding number_in
digits_number [] h e v = absurd (omega arith)
digits_number (b ∷ t) h e v =
    let q = is_digit_lem b (digits_parts b t e).0 in
    rw (ne_eqb b minus (λ z. omega arith), digits_magnitude 2147483647 (b ∷ t) h e v)

numeral_value : (n : ℕ) → n ≤ 2147483648 → value 0 (numeral n) ≡ n
numeral_value n h = digits_value 10 n (omega arith)

pub numeral_reads : (n : ℕ) → n ≤ 2147483647 → number_in (numeral n) ≡ some (pos n)
numeral_reads n h =
    let v = numeral_value n (omega arith) in
    digits_number (numeral n) (some_digit 9 n) (all_digits_lem 10 n) (omega arith) ∙ ap (λ k. some (pos k)) v

pub minus_reads : (n : ℕ) → n < 2147483648 → number_in (minus ∷ numeral (suc n)) ≡ some (negsuc n)
unfolding number_in
minus_reads n h =
    let v = numeral_value (suc n) (omega arith) in
    rw (digits_magnitude 2147483648 (numeral (suc n)) (some_digit 9 (suc n)) (all_digits_lem 10 (suc n)) (omega arith), v)
