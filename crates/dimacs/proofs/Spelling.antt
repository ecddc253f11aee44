-- Writing from the last element to the first: a piece, and a number's digits.
-- Assumes nothing.
use mathlib.Core.Path.{◌≡◌, refl, sym, ap, ◌∙◌}
use mathlib.Core.List.{List, [], ◌∷◌, ◌++◌, append_assoc}
use Prim.Native.Nat.{ℕ, suc, ◌+◌, ◌-◌, ◌/◌, ◌%◌, ◌≤◌, ◌<◌}
use native.Mathlib.Omega.{arith}
use lib.ListN.{length, take, drop, set, length-append, length-take, length-set}
use lib.Seq.{drop_at, set_split, take-set-le}
use Rattle.plan.specs.Front.{Put}
use Rattle.plan.proofs.Fronts.{put_as, put_none}
use Rattle.dimacs.specs.Numbers.{zero_digit}
use Rattle.dimacs.specs.Printing.{numeral}
use Rattle.dimacs.proofs.Digits.{exactly, exactly_last, digits_exact}

module _ {A : Type 0} where
  drop_set : (l : List A) (i : ℕ) (a : A) → i < length l → drop i (set l i a) ≡ a ∷ drop (suc i) l
  drop_set l i a h = ap (drop i) (set_split l i a h) ∙ drop_at (take i l) _ i (omega (arith, length-take i l))

  -- who writes ws before an x that stands already writes both
  pub put_before : (x : A) {ws old new : List A} {at end to : ℕ} → to ≡ end + 1 → to ≤ length old → Put ws at (set old end x) new end → Put (ws ++ (x ∷ [])) at old new to
  put_before x {ws} {old} {new} {at} {end} {to} e l p =
      let kept : take at (set old end x) ≡ take at old = take-set-le at old end x (omega (arith, p.count)) in
      let size : length (take at old ++ ws) ≡ end = omega (arith, p.count, length-append (take at old) ws, length-take at old) in
      let whole : length (take at old ++ (ws ++ (x ∷ []))) ≡ suc end =
      omega (arith, p.count, length-append (take at old) (ws ++ (x ∷ [])), length-append ws (x ∷ []), length-take at old) in
      record {
        count = omega (arith, p.count, length-append ws (x ∷ []));
        inside = omega arith;
        is =
            p.is
            ∙ ap (λ y. (y ++ ws) ++ drop (length (y ++ ws)) (set old end x)) kept
            ∙ ap (λ y. (take at old ++ ws) ++ y) (ap (λ k. drop k (set old end x)) size ∙ drop_set old end x (omega arith))
            ∙ sym (append_assoc (take at old ++ ws) (x ∷ []) (drop (suc end) old))
            ∙ ap (λ y. y ++ drop (suc end) old) (append_assoc (take at old) ws (x ∷ []))
            ∙ ap (λ k. (take at old ++ (ws ++ (x ∷ []))) ++ drop k old) (sym whole);
      }

-- Of a number's digits those before a place are to be written, those of `rest`: who writes them writes the whole number.
pub record Spells (number at digits : ℕ) (old now : List ℕ) (rest place : ℕ) : Type 0 where
  pub from : at ≤ place
  pub within : place ≤ at + digits
  pub same : length now ≡ length old
  pub whole : (new : List ℕ) → Put (exactly (place - at) rest) at now new place → Put (numeral number) at old new (at + digits)

pub spells_start : (number at digits : ℕ) (old : List ℕ) → digits ≡ length (numeral number) → Spells number at digits old old number (at + digits)
spells_start number at digits old e =
    let all : at + digits - at ≡ length (numeral number) = omega arith in
    record { from = omega arith; within = omega arith; same = refl; whole = λ new p. put_as (ap (λ k. exactly k number) all ∙ sym (digits_exact 10 number)) p }

module _ {number at digits : ℕ} {old now : List ℕ} {rest place : ℕ} (room : at + digits ≤ length old) (s : Spells number at digits old now rest place) where
  abbrev digit : ℕ
  digit = zero_digit + rest % 10

  pub spells_next : at < place → Spells number at digits old (set now (place - 1) digit) (rest / 10) (place - 1)
  spells_next l =
      let one_less : place - at - 1 ≡ place - 1 - at = omega arith in
      record {
        from = omega arith;
        within = omega (arith, s.within);
        same = length-set now (place - 1) digit ∙ s.same;
        whole = λ new p.
            s.whole new (put_as (sym (exactly_last (place - at) rest (omega arith) ∙ ap (λ k. exactly k (rest / 10) ++ (digit ∷ [])) one_less)) (put_before digit (omega arith) (omega (arith, s.within, s.same)) p));
      }

  pub spells_all : place ≤ at → Put (numeral number) at old now (at + digits)
  unfolding exactly
  spells_all l =
      let e : place ≡ at = omega (arith, s.from) in
      let none : place - at ≡ 0 = omega arith in
      s.whole now (rw (none, e) (put_none at now (omega (arith, s.same))))
