-- The words of a printed text: a word in front of a divider, a comment line, a number's entry; and the first word behind a line's end leads its line.
-- Assumes nothing.
use Prim.Native.Nat.{ℕ, zero, suc, ◌+◌, ◌≤◌, ◌<◌}
use mathlib.Core.Path.{◌≡◌, refl, ◌∙◌}
use mathlib.Core.Bool.{Bool, true, false, cond, ◌||◌, and-false}
use mathlib.Core.List.{List, [], ◌∷◌, ◌++◌, append-nil}
use native.Mathlib.Omega.{arith}
use borrow.Author.Tests.{ne_eqb}
use lib.Dec.{eqb}
use lib.IntN.{ℤ, pos, negsuc}
use lib.ListN.{length, get_or, length-append}
use lib.Seq.{append_snoc}
use Rattle.plan.proofs.Bools.{any_of}
use Rattle.dimacs.specs.Words.{blank, tab, return, line_end, divides, Word, Place, between, comment, inside, opens, moved, ended, last, words}
use Rattle.dimacs.specs.Numbers.{zero_digit, all_digits}
use Rattle.dimacs.specs.Printing.{numeral, printed, divider, entry, atom_line}
use Rattle.dimacs.proofs.ReadNumbers.{is_digit_lem, digits_parts, all_digits_lem, some_digit}

or_parts : (a b : Bool) → (a || b) ≡ false → (a ≡ false) × (b ≡ false)
or_parts true b e = absurd (let z : ◌≡◌ {A = ℕ} 0 1 = cc in omega arith)
or_parts false b e = (refl, e)

-- the rest of a word, and the divider behind it
word_rest : (w : Word) (at : ℕ) (bs : List ℕ) → any_of divides bs ≡ false → (d : ℕ) → divides d ≡ true → (rest : List ℕ)
    → words (inside w) at (bs ++ (d ∷ rest)) ≡ record { at = w.at; leads = w.leads; bytes = w.bytes ++ bs } ∷ words (between (eqb d line_end)) (at + suc (length bs)) rest
unfolding words moved ended
word_rest w at [] u d h rest =
    let e : suc at ≡ at + 1 = omega arith in
    rw (h, append-nil w.bytes, e)
word_rest w at (b ∷ t) u d h rest =
    let q = or_parts (divides b) (any_of divides t) u in
    let e : suc at + suc (length t) ≡ at + suc (suc (length t)) = omega arith in
    rw q.0 (word_rest (record { at = w.at; leads = w.leads; bytes = w.bytes ++ (b ∷ []) }) (suc at) t q.1 d h rest ∙ rw (append_snoc w.bytes b t, e))

-- a word that opens no comment
pub word_reads : (leads : Bool) (at : ℕ) (bs : List ℕ) → 0 < length bs → any_of divides bs ≡ false → opens leads (get_or bs 0 0) ≡ false
    → (d : ℕ) → divides d ≡ true → (rest : List ℕ)
    → words (between leads) at (bs ++ (d ∷ rest)) ≡ record { at = at; leads = leads; bytes = bs } ∷ words (between (eqb d line_end)) (at + suc (length bs)) rest
unfolding words moved ended
word_reads leads at [] n u o d h rest = absurd (omega arith)
word_reads leads at (b ∷ t) n u o d h rest =
    let q = or_parts (divides b) (any_of divides t) u in
    let e : suc at + suc (length t) ≡ at + suc (suc (length t)) = omega arith in
    rw (q.0, o) (word_rest (record { at = at; leads = leads; bytes = b ∷ [] }) (suc at) t q.1 d h rest ∙ rw e)

-- the rest of a comment
comment_rest : (at : ℕ) (bs : List ℕ) → any_of (λ b. eqb b line_end) bs ≡ false → (rest : List ℕ)
    → words comment at (bs ++ (line_end ∷ rest)) ≡ words (between true) (at + suc (length bs)) rest
unfolding words moved ended
comment_rest at [] u rest = let e : suc at ≡ at + 1 = omega arith in rw e
comment_rest at (b ∷ t) u rest =
    let q = or_parts (eqb b line_end) (any_of (λ b. eqb b line_end) t) u in
    let e : suc at + suc (length t) ≡ at + suc (suc (length t)) = omega arith in
    rw q.0 (comment_rest (suc at) t q.1 rest ∙ rw e)

pub comment_reads : (at : ℕ) (bs : List ℕ) → any_of (λ b. eqb b line_end) bs ≡ false → (rest : List ℕ)
    → words (between true) at (99 ∷ (bs ++ (line_end ∷ rest))) ≡ words (between true) (at + suc (suc (length bs))) rest
unfolding words moved ended divides
comment_reads at bs u rest =
    let e : suc at + suc (length bs) ≡ at + suc (suc (length bs)) = omega arith in
    comment_rest (suc at) bs u rest ∙ rw e

-- a test that fails from the digit 0 on fails of all digits
digits_none : (f : ℕ → Bool) → ((b : ℕ) → zero_digit ≤ b → f b ≡ false) → (xs : List ℕ) → all_digits xs ≡ true → any_of f xs ≡ false
digits_none f h [] e = refl
digits_none f h (b ∷ t) e =
    let q = digits_parts b t e in
    rw (h b (is_digit_lem b q.0).0) (digits_none f h t q.1)

visible : (b : ℕ) → zero_digit ≤ b → divides b ≡ false
unfolding divides
visible b h = rw (ne_eqb b blank (λ e. omega arith), ne_eqb b tab (λ e. omega arith), ne_eqb b return (λ e. omega arith), ne_eqb b line_end (λ e. omega arith))

-- a printed number is a word, wherever it stands
pub printed_undivided : (z : ℤ) → any_of divides (printed z) ≡ false
unfolding divides
printed_undivided (pos n) = digits_none divides visible (numeral n) (all_digits_lem 10 n)
printed_undivided (negsuc n) = digits_none divides visible (numeral (suc n)) (all_digits_lem 10 (suc n))

pub printed_some : (z : ℤ) → 0 < length (printed z)
printed_some (pos n) = some_digit 9 n
printed_some (negsuc n) = omega arith

digits_open : (leads : Bool) (xs : List ℕ) → all_digits xs ≡ true → opens leads (get_or xs 0 0) ≡ false
digits_open leads [] e = and-false leads
digits_open leads (b ∷ t) e =
    let q = is_digit_lem b (digits_parts b t e).0 in
    rw (ne_eqb b 99 (λ z. omega arith)) (and-false leads)

printed_opens : (leads : Bool) (z : ℤ) → opens leads (get_or (printed z) 0 0) ≡ false
printed_opens leads (pos n) = digits_open leads (numeral n) (all_digits_lem 10 n)
printed_opens leads (negsuc n) = and-false leads

divider_divides : (z : ℤ) → divides (divider z) ≡ true
unfolding divides
divider_divides (pos zero) = refl
divider_divides (pos (suc n)) = refl
divider_divides (negsuc n) = refl

pub entry_reads : (leads : Bool) (at : ℕ) (z : ℤ) (rest : List ℕ)
    → words (between leads) at (entry z ++ rest) ≡ record { at = at; leads = leads; bytes = printed z } ∷ words (between (eqb (divider z) line_end)) (at + length (entry z)) rest
unfolding entry
entry_reads leads at z rest =
    let e : at + suc (length (printed z)) ≡ at + length (printed z ++ (divider z ∷ [])) = omega (arith, length-append (printed z) (divider z ∷ [])) in
    rw (append_snoc (printed z) (divider z) rest, ← e)
    (word_reads leads at (printed z) (printed_some z) (printed_undivided z) (printed_opens leads z) (divider z) (divider_divides z) rest)

-- the line in front of an atom's block
pub atom_line_reads : (at k : ℕ) (rest : List ℕ) → words (between true) at (atom_line k ++ rest) ≡ words (between true) (at + length (atom_line k)) rest
unfolding atom_line
atom_line_reads at k rest =
    let e : length (numeral k ++ (line_end ∷ [])) ≡ suc (length (numeral k)) = length-append (numeral k) (line_end ∷ []) ∙ omega arith in
    rw (append_snoc (numeral k) line_end rest, e)
    (comment_reads at (blank ∷ 97 ∷ 116 ∷ 111 ∷ 109 ∷ blank ∷ numeral k) (digits_none (λ b. eqb b line_end) (λ b h. ne_eqb b line_end (λ z. omega arith)) (numeral k) (all_digits_lem 10 k)) rest)

-- The first word, where there is one, leads its line.
abbrev pub Leads : List Word → Type 0
Leads [] = Unit
Leads (w ∷ ws) = w.leads ≡ true

-- From such a place on it does.
abbrev Starts : Place → Type 0
Starts (between leads) = leads ≡ true
Starts comment = Unit
Starts (inside w) = w.leads ≡ true

cond_starts : (x : Bool) (p q : Place) → Starts p → Starts q → Starts (cond x p q)
cond_starts true p q g h = g
cond_starts false p q g h = h

place_leads : (text : List ℕ) (p : Place) (at : ℕ) → Starts p → Leads (words p at text)
unfolding words moved ended last
place_leads [] (between leads) at h = tt
place_leads [] comment at h = tt
place_leads [] (inside w) at h = h
place_leads (b ∷ t) (between leads) at h =
    place_leads t (moved (between leads) at b) (suc at) (cond_starts (divides b) _ _ (rw h) (cond_starts (opens leads b) _ _ tt h))
place_leads (b ∷ t) comment at h = place_leads t (moved comment at b) (suc at) (cond_starts (eqb b line_end) _ _ refl tt)
place_leads (b ∷ t) (inside w) at h = go (divides b) (record { at = w.at; leads = w.leads; bytes = w.bytes ++ (b ∷ []) }) (place_leads t (inside _) (suc at) h)
  where
    go : (x : Bool) (v : Word) → Leads (words (inside v) (suc at) t) → Leads (cond x (w ∷ []) [] ++ words (cond x (between (eqb b line_end)) (inside v)) (suc at) t)
    go true v r = h
    go false v r = r

pub line_leads : (at : ℕ) (text : List ℕ) → Leads (words (between true) at text)
line_leads at text = place_leads text (between true) at refl
