-- The words that are left at an offset, byte by byte, and a part of the text that grows.
-- Assumes nothing.
use mathlib.Core.Path.{◌≡◌, refl, sym, ap, ◌∙◌}
use mathlib.Core.Bool.{Bool, true, false, not, ◌||◌}
use mathlib.Core.List.{List, [], ◌∷◌, ◌++◌, append_assoc, append-nil}
use Prim.Native.Nat.{ℕ, zero, suc, ◌+◌, ◌-◌, ◌≤◌, ◌<◌}
use native.Mathlib.Nat.{add-zero}
use native.Mathlib.Numerals.{add-one}
use native.Mathlib.Omega.{arith}
use borrow.Author.Tests.{eqb-true}
use lib.Dec.{eqb}
use lib.ListN.{length, get_or, drop, length-drop, drop_of_length-le}
use lib.Seq.{drop-cons, take-suc, get_or-drop}
use Rattle.std.specs.List.{prefix_len}
use Rattle.std.proofs.lemmas.List.Sums.{prefix_len-drop_yes, prefix_len-drop_no, prefix_len-drop_all}
use Rattle.dimacs.specs.Words.{Word, Place, between, comment, inside, line_end, divides, opens, moved, ended, last, words}
use Rattle.dimacs.specs.Scanning.{left, part, Skipped, Passed, Extended, Ahead}
use Rattle.dimacs.specs.declared.words.Gap.{Gap}

-- A word with more bytes.
abbrev pub with : Word → List ℕ → Word
with w bytes = record { at = w.at; leads = w.leads; bytes = w.bytes ++ bytes }

with_none : (w : Word) → with w [] ≡ w
with_none w = ap (λ (b : List ℕ). record { at = w.at; leads = w.leads; bytes = b }) (append-nil w.bytes)

line_end_divides : (b : ℕ) → eqb b line_end ≡ true → divides b ≡ true
unfolding divides
line_end_divides b e = rw (eqb-true b line_end e)

module _ (text : List ℕ) (at : ℕ) where
  -- At the end.
  module _ (h : length text ≤ at) where
    none_left : (p : Place) → left p text at ≡ last p
    unfolding words
    none_left p = rw (drop_of_length-le text h)

    pub nothing_left : (leads : Bool) → left (between leads) text at ≡ []
    unfolding last
    nothing_left leads = none_left (between leads)

    pub comment_over : left comment text at ≡ left (between true) text at
    unfolding last
    comment_over = none_left comment ∙ sym (none_left (between true))

    pub word_over : (w : Word) → left (inside w) text at ≡ w ∷ left (between false) text at
    unfolding last
    word_over w = none_left (inside w) ∙ ap (λ (ws : List Word). w ∷ ws) (sym (none_left (between false)))

  -- At a byte.
  module _ (h : at < length text) where
    step : (p : Place) → left p text at ≡ ended p (get_or text at 0) ++ left (moved p at (get_or text at 0)) text (at + 1)
    unfolding words
    step p = rw (add-one, drop-cons text at 0)

    pub divided : (leads fresh : Bool) → divides (get_or text at 0) ≡ true → fresh ≡ (leads || eqb (get_or text at 0) line_end) → left (between leads) text at ≡ left (between fresh) text (at + 1)
    unfolding moved ended
    divided leads fresh d e = step (between leads) ∙ rw (d, e)

    comment_opens : (leads : Bool) → divides (get_or text at 0) ≡ false → opens leads (get_or text at 0) ≡ true → left (between leads) text at ≡ left comment text (at + 1)
    unfolding moved ended
    comment_opens leads d e = step (between leads) ∙ rw (d, e)

    word_opens : (leads : Bool) → divides (get_or text at 0) ≡ false → opens leads (get_or text at 0) ≡ false
        → left (between leads) text at ≡ left (inside (record { at = at; leads = leads; bytes = get_or text at 0 ∷ [] })) text (at + 1)
    unfolding moved ended
    word_opens leads d e = step (between leads) ∙ rw (d, e)

    pub comment_goes : eqb (get_or text at 0) line_end ≡ false → left comment text at ≡ left comment text (at + 1)
    unfolding moved ended
    comment_goes e = step comment ∙ rw e

    pub comment_ends : eqb (get_or text at 0) line_end ≡ true → left comment text at ≡ left (between true) text at
    unfolding moved ended
    comment_ends e = step comment ∙ rw (e, divided true true (line_end_divides (get_or text at 0) e) refl)

    word_goes : (w : Word) → divides (get_or text at 0) ≡ false → left (inside w) text at ≡ left (inside (with w (get_or text at 0 ∷ []))) text (at + 1)
    unfolding moved ended
    word_goes w d = step (inside w) ∙ rw d

    pub word_ends : (w : Word) → divides (get_or text at 0) ≡ true → left (inside w) text at ≡ w ∷ left (between false) text at
    unfolding moved ended
    word_ends w d = step (inside w) ∙ rw (d, divided false (eqb (get_or text at 0) line_end) d refl)

-- A part with nothing in it; with one byte more behind, and before.
part_none : (text : List ℕ) (from : ℕ) → part text from from ≡ []
part_none text from = let e : from - from ≡ 0 = omega arith in rw e

part_more : (text : List ℕ) (from to : ℕ) → from ≤ to → to < length text → part text from (to + 1) ≡ part text from to ++ (get_or text to 0 ∷ [])
part_more text from to h l =
    let e : to + 1 - from ≡ suc (to - from) = omega arith in
    let k : from + (to - from) ≡ to = omega arith in
    rw (e, take-suc (drop from text) (to - from) 0 (omega (arith, length-drop from text)), get_or-drop from text (to - from) 0, k)

part_opens : (text : List ℕ) (from to : ℕ) → from < to → to ≤ length text → part text from to ≡ get_or text from 0 ∷ part text (from + 1) to
part_opens text from to h l =
    let e : to - from ≡ suc (to - (from + 1)) = omega arith in
    let k : from < length text = omega arith in
    rw (e, drop-cons text from 0 k, ← add-one from)

-- A word with a part of the text behind its bytes: with none of it, and with one byte more.
module _ (text : List ℕ) (from : ℕ) where
  pub word_begins : (w : Word) → left (inside w) text from ≡ left (inside (with w (part text from from))) text from
  word_begins w = rw (part_none text from, with_none w)

  pub word_longer : (at : ℕ) (w : Word) → from ≤ at → at < length text → divides (get_or text at 0) ≡ false
      → left (inside (with w (part text from at))) text at ≡ left (inside (with w (part text from (at + 1)))) text (at + 1)
  word_longer at w f h d = word_goes text at h (with w (part text from at)) d ∙ rw (append_assoc, part_more text from at f h)

-- The rest of a comment, and of a word, at once: the bytes before the first that ends it.
module _ (text : List ℕ) where
  abbrev pub in_comment : ℕ → ℕ
  in_comment at = prefix_len (λ b. not (eqb b line_end)) (drop at text)

  abbrev pub in_word : ℕ → ℕ
  in_word at = prefix_len (λ b. not (divides b)) (drop at text)

  comment_from : (n at : ℕ) → at + n ≡ length text → Passed text at (at + in_comment at)
  comment_from zero at e =
      rw (prefix_len-drop_all (λ b. not (eqb b line_end)) text at (omega arith), add-zero)
      (record { after = omega arith; within = omega arith; same = comment_over text at (omega arith) })
  comment_from (suc n) at e = go (eqb (get_or text at 0) line_end) refl (comment_from n (at + 1) (omega arith))
    where
      go : (b : Bool) → eqb (get_or text at 0) line_end ≡ b → Passed text (at + 1) (at + 1 + in_comment (at + 1)) → Passed text at (at + in_comment at)
      go true q p =
          rw (prefix_len-drop_no (λ b. not (eqb b line_end)) text at 0 (omega arith) (ap not q), add-zero)
          (record { after = omega arith; within = omega arith; same = comment_ends text at (omega arith) q })
      go false q p =
          let next : at + in_comment at ≡ at + 1 + in_comment (at + 1) = omega (arith, prefix_len-drop_yes (λ b. not (eqb b line_end)) text at 0 (omega arith) (ap not q)) in
          rw next (record { after = omega arith; within = p.within; same = comment_goes text at (omega arith) q ∙ p.same })

  abbrev Over : ℕ → ℕ → ℕ → Type 0
  Over from at r = (r ≤ length text) × ((w : Word) → left (inside (with w (part text from at))) text at ≡ with w (part text from r) ∷ left (between false) text r)

  word_from : (from n at : ℕ) → from ≤ at → at + n ≡ length text → Over from at (at + in_word at)
  word_from from zero at f e =
      rw (prefix_len-drop_all (λ b. not (divides b)) text at (omega arith), add-zero)
      (omega arith, λ w. word_over text at (omega arith) (with w (part text from at)))
  word_from from (suc n) at f e = go (divides (get_or text at 0)) refl (word_from from n (at + 1) (omega arith) (omega arith))
    where
      go : (b : Bool) → divides (get_or text at 0) ≡ b → Over from (at + 1) (at + 1 + in_word (at + 1)) → Over from at (at + in_word at)
      go true q p =
          rw (prefix_len-drop_no (λ b. not (divides b)) text at 0 (omega arith) (ap not q), add-zero)
          (omega arith, λ w. word_ends text at (omega arith) (with w (part text from at)) q)
      go false q p =
          let next : at + in_word at ≡ at + 1 + in_word (at + 1) = omega (arith, prefix_len-drop_yes (λ b. not (divides b)) text at 0 (omega arith) (ap not q)) in
          rw next (p.0, λ w. word_longer text from at w f (omega arith) q ∙ p.1 w)

  module _ (from : ℕ) (h : from ≤ length text) where
    rest : from + (length text - from) ≡ length text
    rest = omega arith

    pub comment_rest : Passed text from (from + in_comment from)
    comment_rest = comment_from (length text - from) from rest

    pub word_rest : Extended text from (from + in_word from)
    word_rest = let p = word_from from (length text - from) from (omega arith) rest in record { after = omega arith; within = p.0; same = λ w. word_begins text from w ∙ p.1 w }

-- What stands behind dividers: a comment, behind which dividers are passed again, or the next word.
module _ {text : List ℕ} {from : ℕ} {leads : Bool} {g : Gap} (s : Skipped text from leads g) (h : g.at < length text) where
  pub comment_passed : {r : ℕ} {n : Gap} → opens g.leads (get_or text g.at 0) ≡ true → Passed text (g.at + 1) r → Skipped text r true n → Skipped text from leads n
  comment_passed o p t =
      record {
        after = omega (arith, s.after, p.after, t.after);
        within = t.within;
        here = t.here;
        same = s.same ∙ comment_opens text g.at h g.leads (s.here h) o ∙ p.same ∙ t.same;
      }

  pub word_ahead : {end : ℕ} → opens g.leads (get_or text g.at 0) ≡ false → Extended text (g.at + 1) end → Ahead text from leads (record { start = g.at; end = end; leads = g.leads })
  word_ahead o e =
      record {
        after = s.after;
        some_bytes = omega (arith, e.after);
        within = e.within;
        same = rw (part_opens text g.at _ (omega (arith, e.after)) e.within) (s.same ∙ word_opens text g.at h g.leads (s.here h) o ∙ e.same _);
      }
