-- Digits, one after the other: what a word's first bytes leave of its value. A word as a number, by its first byte.
-- Assumes nothing.
use mathlib.Core.Path.{◌≡◌, refl, ◌∙◌}
use mathlib.Core.Bool.{Bool, true, false, cond, ◌&&◌, and-true, and-false, false≢true}
use mathlib.Core.List.{List, [], ◌∷◌}
use mathlib.Core.Option.{Option, none, some}
use Prim.Native.Nat.{ℕ, zero, suc, ◌+◌, ◌-◌, ◌*◌, ◌^◌, ◌≤◌, ◌<◌}
use native.Mathlib.Numerals.{add-one}
use native.Mathlib.Omega.{arith}
use borrow.Author.Tests.{le-leb, lt-leb, leb-true}
use lib.Dec.{leb, eqb}
use lib.IntN.{ℤ, pos, neg_ℤ, ◌-ℤ◌, +ℤ_idl}
use mir.Syntax.{Width, w32, w64}
use mir.Val.{SFits, hbits, to_z, of_z}
use mir.Facts.{to_z-of_z}
use lib.Pointwise.{pointwise}
use lib.ListN.{length, get_or, take, drop, drop_of_length-le}
use lib.Seq.{drop-cons}
use Rattle.std.specs.Char.{is_ascii_digit}
use Rattle.dimacs.specs.Numbers.{zero_digit, minus, is_digit, all_digits, value, magnitude, with_sign, most, number_in}

pub ascii_digit : (b : ℕ) → is_ascii_digit b ≡ is_digit b
unfolding is_digit
ascii_digit b = refl

-- the whole of a number whose first digits make n, where it is at most so much
abbrev pub up_to : ℕ → ℕ → List ℕ → Option ℕ
up_to top n t = cond (all_digits t && leb (value n t) top) (some (value n t)) none

-- the value only grows
value_grows : (n : ℕ) (t : List ℕ) → n ≤ value n t
unfolding value
value_grows n [] = omega arith
value_grows n (b ∷ t) = omega (arith, value_grows (n * 10 + (b - zero_digit)) t)

pub too_much : (top n : ℕ) (t : List ℕ) → top < n → up_to top n t ≡ none
too_much top n t h = rw (lt-leb (value n t) top (omega (arith, value_grows n t)), and-false)

-- the same of the bytes of a word from a place on
module _ (top n : ℕ) (w : List ℕ) (at : ℕ) where
  pub all_read : length w ≤ at → n ≤ top → up_to top n (drop at w) ≡ some n
  unfolding all_digits value
  all_read l h = rw (drop_of_length-le w l, le-leb n top h)

  pub next_digit : at < length w → is_digit (get_or w at 0) ≡ true → up_to top n (drop at w) ≡ up_to top (n * 10 + (get_or w at 0 - zero_digit)) (drop (at + 1) w)
  unfolding all_digits value
  next_digit l h = rw (add-one, drop-cons w at 0, h)

  pub no_digit : at < length w → is_digit (get_or w at 0) ≡ false → up_to top n (drop at w) ≡ none
  unfolding all_digits
  no_digit l h = rw (drop-cons w at 0, h)

pub at_most : (top : ℕ) (w : List ℕ) {n : ℕ} → magnitude top w ≡ some n → n ≤ top
unfolding magnitude
at_most top (b ∷ t) {n} e = go (all_digits (b ∷ t)) (leb (value 0 (b ∷ t)) top) refl e
  where
    go : (x y : Bool) → leb (value 0 (b ∷ t)) top ≡ y → cond (x && y) (some (value 0 (b ∷ t))) none ≡ some n → n ≤ top
    go true true u q = let p : value 0 (b ∷ t) ≡ n = cc in omega (arith, leb-true (value 0 (b ∷ t)) top u)
    go true false u q = let z : ◌≡◌ {A = ℕ} 0 1 = cc in absurd (omega arith)
    go false y u q = let z : ◌≡◌ {A = ℕ} 0 1 = cc in absurd (omega arith)
at_most top [] {n} e = let z : ◌≡◌ {A = ℕ} 0 1 = cc in absurd (omega arith)

pub no_digits : (top : ℕ) (w : List ℕ) → length w ≡ 0 → magnitude top w ≡ none
unfolding magnitude
no_digits top [] e = refl
no_digits top (b ∷ t) e = absurd (omega arith)

pub some_digits : (top : ℕ) (w : List ℕ) → (length w ≡ 0 → ⊥) → magnitude top w ≡ up_to top 0 w
unfolding magnitude
some_digits top [] n = absurd (n refl)
some_digits top (b ∷ t) n = refl

-- a number by its first byte: a minus sign, or none
pub below_zero : (w : List ℕ) → pointwise eqb (take 1 w) (minus ∷ []) ≡ true → number_in w ≡ with_sign true (magnitude (most true) (drop 1 w))
unfolding number_in
below_zero [] e = absurd (false≢true e)
below_zero (b ∷ t) e = let q = rw and-true at e in rw q

pub no_sign : (w : List ℕ) → pointwise eqb (take 1 w) (minus ∷ []) ≡ false → number_in w ≡ with_sign false (magnitude (most false) w)
unfolding number_in magnitude
no_sign [] e = refl
no_sign (b ∷ t) e = let q = rw and-true at e in rw q

-- the number of so many below 0, in 64 bits and in 32
below_fits : (w : Width) (n : ℕ) → n ≤ 2147483648 → 2147483648 ≤ 2 ^ hbits w → SFits w (neg_ℤ (pos n))
below_fits w zero l h = record { sfits = omega (arith, h) }
below_fits w (suc n) l h = record { sfits = omega (arith, h) }

module _ {z : ℤ} {n : ℕ} (e : z ≡ pos n) (l : n ≤ 2147483648) where
  less : to_z w64 (of_z w64 (pos 0 -ℤ to_z w64 (of_z w64 z))) ≡ neg_ℤ (pos n)
  less =
      let f : SFits w64 (pos n) = record { sfits = omega arith } in
      rw (e, to_z-of_z f, +ℤ_idl (neg_ℤ (pos n)), to_z-of_z (below_fits w64 n l (omega arith))) refl

  pub less_fits : SFits w32 (to_z w64 (of_z w64 (pos 0 -ℤ to_z w64 (of_z w64 z))))
  less_fits = rw less (below_fits w32 n l (omega arith))

  pub less_is : to_z w32 (of_z w32 (to_z w64 (of_z w64 (pos 0 -ℤ to_z w64 (of_z w64 z))))) ≡ neg_ℤ (pos n)
  less_is = to_z-of_z less_fits ∙ less
