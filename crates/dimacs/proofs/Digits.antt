-- Laws of a number's digits: how many there are, and the pieces of what is printed.
-- Assumes nothing.
use mathlib.Core.Path.{◌≡◌, refl, sym, ap, ◌∙◌}
use mathlib.Core.Logic.{⊎_elim}
use mathlib.Core.Bool.{true, false}
use mathlib.Core.List.{List, [], ◌∷◌, ◌++◌, append_assoc, append-nil}
use Prim.Native.Nat.{ℕ, zero, suc, ◌+◌, ◌-◌, ◌*◌, ◌/◌, ◌%◌, ◌≤◌, ◌<◌}
use native.Mathlib.Nat.{mod-eq_of_lt}
use native.Mathlib.Numerals.{add-one}
use native.Mathlib.Omega.{arith}
use borrow.Author.Tests.{lt-ltb, le-ltb, ltb-true}
use lib.IntN.{ℤ, pos, negsuc, nat_abs}
use lib.Signed.{lt_z}
use lib.ListN.{length, take, get_or, length-append}
use lib.Seq.{take-suc}
use Rattle.plan.proofs.Lists.{le_or_lt}
use Rattle.dimacs.specs.Words.{blank, line_end}
use Rattle.dimacs.specs.Numbers.{zero_digit, minus}
use Rattle.dimacs.specs.Printing.{digits, numeral, divider, entry, entries, head_line, atom_line}

-- 10, so many times
unfoldable pub power : ℕ → ℕ
power zero = 1
power (suc k) = power k * 10

power_some : (k : ℕ) → 1 ≤ power k
unfolding power
power_some zero = omega arith
power_some (suc k) = omega (arith, power_some k)

-- a number of 32 bits is below 10 ^ 10
pub power_within : (w n : ℕ) → w ≤ 10 → n < 4294967296 → power w ≤ n → w < 10
unfolding power
power_within w n l b s = ⊎_elim (λ (h : 10 ≤ w). let e : w ≡ 10 = omega arith in absurd (omega (arith, ap power e))) (λ (h : w < 10). h) (le_or_lt 10 w)

pub power_more : (w : ℕ) → power (w + 1) ≡ power w * 10
unfolding power
power_more w = ap power (add-one w)

-- a number's last digits, so many
unfoldable pub exactly : ℕ → ℕ → List ℕ
exactly zero n = []
exactly (suc k) n = exactly k (n / 10) ++ ((zero_digit + n % 10) ∷ [])

pub exactly_last : (k n : ℕ) → 1 ≤ k → exactly k n ≡ exactly (k - 1) (n / 10) ++ ((zero_digit + n % 10) ∷ [])
unfolding exactly
exactly_last zero n l = absurd (omega arith)
exactly_last (suc k) n l = let e : k ≡ suc k - 1 = omega arith in ap (λ m. exactly m (n / 10) ++ ((zero_digit + n % 10) ∷ [])) e

-- one digit, or one behind those of the tenth
module _ (k n : ℕ) where
  one_digit : n < 10 → digits (suc k) n ≡ (zero_digit + n) ∷ []
  unfolding digits
  one_digit l = rw (lt-ltb n 10 l)

  more_digits : 10 ≤ n → digits (suc k) n ≡ digits k (n / 10) ++ ((zero_digit + n % 10) ∷ [])
  unfolding digits
  more_digits l = rw (le-ltb n 10 l)

  one_length : n < 10 → length (digits (suc k) n) ≡ 1
  one_length l = ap length (one_digit l)

  more_length : 10 ≤ n → length (digits (suc k) n) ≡ suc (length (digits k (n / 10)))
  more_length l = ap length (more_digits l) ∙ length-append (digits k (n / 10)) _ ∙ omega arith

pub digits_most : (k n : ℕ) → length (digits k n) ≤ k
unfolding digits
digits_most zero n = omega arith
digits_most (suc k) n =
    ⊎_elim (λ (l : 10 ≤ n). omega (arith, more_length k n l, digits_most k (n / 10))) (λ (l : n < 10). omega (arith, one_length k n l)) (le_or_lt 10 n)

pub digits_some : (k n : ℕ) → 1 ≤ length (digits (suc k) n)
digits_some k n = ⊎_elim (λ (l : 10 ≤ n). omega (arith, more_length k n l)) (λ (l : n < 10). omega (arith, one_length k n l)) (le_or_lt 10 n)

-- a number below 10 ^ w has no more than w digits, and one that is not below it has more
pub digits_few : (k w n : ℕ) → 1 ≤ w → n < power w → length (digits k n) ≤ w
unfolding digits power
digits_few zero w n s b = omega arith
digits_few (suc k) zero n s b = absurd (omega arith)
digits_few (suc k) (suc zero) n s b = omega (arith, one_length k n (omega arith))
digits_few (suc k) (suc (suc w)) n s b =
    ⊎_elim
    (λ (l : 10 ≤ n). omega (arith, more_length k n l, digits_few k (suc w) (n / 10) (omega arith) (omega arith)))
    (λ (l : n < 10). omega (arith, one_length k n l))
    (le_or_lt 10 n)

pub digits_many : (k w n : ℕ) → w < k → power w ≤ n → w < length (digits k n)
unfolding power
digits_many zero w n s b = absurd (omega arith)
digits_many (suc k) zero n s b = digits_some k n
digits_many (suc k) (suc w) n s b =
    let l : 10 ≤ n = omega (arith, power_some w) in
    omega (arith, more_length k n l, digits_many k w (n / 10) (omega arith) (omega arith))

-- no digit is left out, and none stands before the first
pub digits_exact : (k n : ℕ) → digits k n ≡ exactly (length (digits k n)) n
unfolding digits exactly
digits_exact zero n = refl
digits_exact (suc k) n =
    ⊎_elim
    (λ (l : 10 ≤ n). more_digits k n l ∙ ap (λ x. x ++ ((zero_digit + n % 10) ∷ [])) (digits_exact k (n / 10)) ∙ ap (λ m. exactly m n) (sym (more_length k n l)))
    (λ (l : n < 10). one_digit k n l ∙ ap (λ m. (zero_digit + m) ∷ []) (sym (mod-eq_of_lt l)) ∙ ap (λ m. exactly m n) (sym (one_length k n l)))
    (le_or_lt 10 n)

-- the parts of an entry: its sign, its digits, and what stands behind it
abbrev pub sign : ℤ → List ℕ
sign (pos n) = []
sign (negsuc n) = minus ∷ []

pub sign_length : (l : ℤ) → length (sign l) ≤ 1
sign_length (pos n) = omega arith
sign_length (negsuc n) = omega arith

pub sign_below : (l : ℤ) → lt_z l (pos 0) ≡ true → sign l ≡ minus ∷ []
sign_below (pos n) e = let h : n < 0 = ltb-true n 0 e in absurd (omega arith)
sign_below (negsuc n) e = refl

pub sign_none : (l : ℤ) → lt_z l (pos 0) ≡ false → sign l ≡ []
sign_none (pos n) e = refl
sign_none (negsuc n) e = let z : ◌≡◌ {A = ℕ} 0 1 = cc in absurd (omega arith)

pub divider_zero : (l : ℤ) → l ≡ pos 0 → divider l ≡ line_end
divider_zero l e = ap divider e

pub divider_other : (l : ℤ) → (l ≡ pos 0 → ⊥) → divider l ≡ blank
divider_other (pos zero) h = absurd (h refl)
divider_other (pos (suc n)) h = refl
divider_other (negsuc n) h = refl

pub entry_parts : (l : ℤ) {b : ℕ} → divider l ≡ b → (sign l ++ numeral (nat_abs l)) ++ (b ∷ []) ≡ entry l
unfolding entry
entry_parts (pos n) e = ap (λ b. numeral n ++ (b ∷ [])) (sym e)
entry_parts (negsuc n) e = ap (λ b. (minus ∷ numeral (suc n)) ++ (b ∷ [])) (sym e)

-- what is printed at once is short
pub entry_length : (l : ℤ) → length (entry l) ≤ 12
entry_length l =
    let e : length ((sign l ++ numeral (nat_abs l)) ++ (divider l ∷ [])) ≡ length (entry l) = ap length (entry_parts l refl) in
    omega (arith, e, length-append (sign l ++ numeral (nat_abs l)) (divider l ∷ []), length-append (sign l) (numeral (nat_abs l)), sign_length l, digits_most 10 (nat_abs l))

pub head_length : (v c : ℕ) → length (head_line v c) ≤ 40
unfolding head_line
head_length v c = omega (arith, length-append (numeral v) (blank ∷ (numeral c ++ (line_end ∷ []))), length-append (numeral c) (line_end ∷ []), digits_most 10 v, digits_most 10 c)

pub atom_length : (k : ℕ) → length (atom_line k) ≤ 40
unfolding atom_line
atom_length k = omega (arith, length-append (numeral k) (line_end ∷ []), digits_most 10 k)

pub entries_append : (xs ys : List ℤ) → entries (xs ++ ys) ≡ entries xs ++ entries ys
unfolding entries
entries_append [] ys = refl
entries_append (x ∷ xs) ys = ap (λ z. entry x ++ z) (entries_append xs ys) ∙ sym (append_assoc (entry x) (entries xs) (entries ys))

pub entries_length : (xs : List ℤ) → length (entries xs) ≤ 12 * length xs
unfolding entries
entries_length [] = omega arith
entries_length (x ∷ xs) = omega (arith, length-append (entry x) (entries xs), entry_length x, entries_length xs)

pub entries_next : (xs : List ℤ) (i : ℕ) → i < length xs → entries (take (i + 1) xs) ≡ entries (take i xs) ++ entry (get_or xs i (pos 0))
unfolding entries
entries_next xs i l =
    ap (λ k. entries (take k xs)) (add-one i)
    ∙ ap entries (take-suc xs i (pos 0) l)
    ∙ entries_append (take i xs) (get_or xs i (pos 0) ∷ [])
    ∙ ap (λ z. entries (take i xs) ++ z) (append-nil (entry (get_or xs i (pos 0))))
