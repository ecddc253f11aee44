-- Clauses printed and read again stay the same, in order.
-- Assumes nothing.
use Prim.Native.Nat.{ℕ, zero, suc, ◌+◌, ◌≤◌}
use mathlib.Core.Path.{◌≡◌, refl, sym, ◌∙◌}
use mathlib.Core.Bool.{Bool, true, false}
use mathlib.Core.List.Memᴰ
use mathlib.Core.List.{List, [], ◌∷◌, ◌++◌, append_assoc, append-nil}
use native.Mathlib.Omega.{arith}
use borrow.Author.Tests.{le-leb}
use lib.IntN.{ℤ, pos, negsuc}
use lib.ListN.{length, length-append}
use lib.Seq.{append_snoc}
use Rattle.plan.specs.Ranged.{LiteralFits, LiteralsFit, InRange}
use Rattle.plan.specs.Written.{flat}
use Rattle.dimacs.specs.Words.{blank, line_end, divides, Word, between, last, words}
use Rattle.dimacs.specs.Reading.{Rule, good, same, format, nothing, longer, ended_at, turn, clauses, behind, count, variables, cnf, whole, read_text, literals_of}
use Rattle.dimacs.specs.Printing.{numeral, entry, entries, head_line}
use Rattle.dimacs.proofs.Digits.{entries_append}
use Rattle.dimacs.proofs.ReadNumbers.{numeral_reads, minus_reads}
use Rattle.dimacs.proofs.ReadWords.{Leads, word_reads, entry_reads, line_leads, printed_some, printed_undivided}

module _ (end p v c : ℕ) (small : v ≤ 2147483647) where
  -- a literal
  literal_reads : (done : List Rule) (r : Rule) (leads : Bool) (at : ℕ) (l : ℤ) (rest : List ℕ) → LiteralFits v l
      → clauses end p v c done r (words (between leads) at (entry l ++ rest)) ≡ clauses end p v c done (longer r at l) (words (between false) (at + length (entry l)) rest)
  unfolding clauses turn
  literal_reads done r leads at (pos zero) rest f = absurd (omega (arith, f.low))
  literal_reads done r leads at (pos (suc n)) rest f =
      let h = f.high in
      rw (entry_reads leads at (pos (suc n)) rest, numeral_reads (suc n) (omega arith), le-leb (suc n) v (omega arith))
  literal_reads done r leads at (negsuc n) rest f =
      let h = f.high in
      rw (entry_reads leads at (negsuc n) rest, minus_reads n (omega arith), le-leb (suc n) v (omega arith))

  -- the 0 behind a clause
  end_reads : (done : List Rule) (r : Rule) (leads : Bool) (at : ℕ) (rest : List ℕ)
      → clauses end p v c done r (words (between leads) at (entry (pos 0) ++ rest)) ≡ clauses end p v c (done ++ (ended_at r at ∷ [])) nothing (words (between true) (at + length (entry (pos 0))) rest)
  unfolding clauses turn
  end_reads done r leads at rest = rw (entry_reads leads at (pos 0) rest, numeral_reads 0 (omega arith))

  -- a clause, behind the literals that stand already
  clause_reads : (C : List ℤ) → LiteralsFit v C → (done : List Rule) (r : Rule) (leads : Bool) (at : ℕ) (rest : List ℕ)
      → (s : Rule) × (s.literals ≡ r.literals ++ C)
      × (clauses end p v c done r (words (between leads) at (entries C ++ (entry (pos 0) ++ rest)))
      ≡ clauses end p v c (done ++ (s ∷ [])) nothing (words (between true) (at + length (entries C ++ entry (pos 0))) rest))
  unfolding entries
  clause_reads [] f done r leads at rest = (ended_at r at, sym (append-nil r.literals), end_reads done r leads at rest)
  clause_reads (l ∷ C) f done r leads at rest =
      let e = append_snoc r.literals l C in
      let q = clause_reads C (λ m i. f m (Memᴰ.tail i)) done (longer r at l) false (at + length (entry l)) rest in
      let n : at + length (entry l) + length (entries C ++ entry (pos 0)) ≡ at + length (entry l ++ entries C ++ entry (pos 0)) = simp length-append (omega arith) in
      let here = literal_reads done r leads at l (entries C ++ (entry (pos 0) ++ rest)) (f l (Memᴰ.head refl)) in
      (q.0, q.1 ∙ e, rw (append_assoc (entry l) (entries C) (entry (pos 0) ++ rest), ← n) (here ∙ q.2))

  -- all clauses
  pub clauses_read : (Cs : List (List ℤ)) → InRange v Cs → (done : List Rule) (at : ℕ) (rest : List ℕ)
      → (rs : List Rule) × (literals_of rs ≡ Cs)
      × (clauses end p v c done nothing (words (between true) at (entries (flat Cs) ++ rest))
      ≡ clauses end p v c (done ++ rs) nothing (words (between true) (at + length (entries (flat Cs))) rest))
  unfolding flat entries literals_of
  clauses_read [] f done at rest = let e : at ≡ at + 0 = omega arith in ([], refl, rw (append-nil done, ← e))
  clauses_read (C ∷ Cs) f done at rest =
      let q = clause_reads C (f C (Memᴰ.head refl)) done nothing true at (entries (flat Cs) ++ rest) in
      let t = clauses_read Cs (λ D m. f D (Memᴰ.tail m)) (done ++ (q.0 ∷ [])) (at + length (entries C ++ entry (pos 0))) rest in
      let e : entries (C ++ (pos 0 ∷ flat Cs)) ≡ entries C ++ (entry (pos 0) ++ entries (flat Cs)) = entries_append C (pos 0 ∷ flat Cs) in
      let n : at + length (entries C ++ entry (pos 0)) + length (entries (flat Cs)) ≡ at + length (entries (C ++ (pos 0 ∷ flat Cs))) = rw e (simp length-append (omega arith)) in
      let text : entries (C ++ (pos 0 ∷ flat Cs)) ++ rest ≡ entries C ++ (entry (pos 0) ++ (entries (flat Cs) ++ rest)) = rw e (simp append_assoc) in
      (q.0 ∷ t.0, cc (q.1, t.1), rw text (q.2 ∙ t.2 ∙ rw (append_snoc done q.0 t.0, n)))

-- The words behind the head line begin a line.
behind_is : (end p v c : ℕ) (ws : List Word) → Leads ws → behind end p v c ws ≡ clauses end p v c [] nothing ws
unfolding behind
behind_is end p v c [] h = refl
behind_is end p v c (w ∷ ws) h = rw h

pub behind_reads : (end p v c at : ℕ) (rest : List ℕ) → behind end p v c (words (between true) at rest) ≡ clauses end p v c [] nothing (words (between true) at rest)
behind_reads end p v c at rest = behind_is end p v c (words (between true) at rest) (line_leads at rest)

-- the head line
pub head_reads : (end v c : ℕ) → v ≤ 2147483647 → c ≤ 2147483647 → (rest : List ℕ)
    → whole end (words (between true) 0 (head_line v c ++ rest)) ≡ behind end 0 v c (words (between true) (length (head_line v c)) rest)
unfolding head_line divides whole cnf variables count same
head_reads end v c g h rest =
    let text : numeral v ++ (blank ∷ (numeral c ++ (line_end ∷ []))) ++ rest ≡ numeral v ++ (blank ∷ (numeral c ++ (line_end ∷ rest))) = simp append_assoc in
    let n : 6 + suc (length (numeral v)) + suc (length (numeral c)) ≡ length (head_line v c) = simp length-append (omega arith) in
    rw (
      text,
      word_reads true 0 (112 ∷ []) (omega arith) refl refl blank refl (99 ∷ 110 ∷ 102 ∷ blank ∷ (numeral v ++ (blank ∷ (numeral c ++ (line_end ∷ rest))))),
      word_reads false 2 format (omega arith) refl refl blank refl (numeral v ++ (blank ∷ (numeral c ++ (line_end ∷ rest)))),
      word_reads false 6 (numeral v) (printed_some (pos v)) (printed_undivided (pos v)) refl blank refl (numeral c ++ (line_end ∷ rest)),
      numeral_reads v g,
      word_reads false (6 + suc (length (numeral v))) (numeral c) (printed_some (pos c)) (printed_undivided (pos c)) refl line_end refl rest,
      numeral_reads c h,
      n,
    )

-- the law
pub reads_back : (v : ℕ) (Cs : List (List ℤ)) → v ≤ 2147483647 → length Cs ≤ 2147483647 → InRange v Cs
    → (rs : List Rule) × (literals_of rs ≡ Cs) × (read_text (head_line v (length Cs) ++ entries (flat Cs)) ≡ good 0 v (length Cs) rs)
unfolding read_text words last clauses
reads_back v Cs g h f =
    let end = length (head_line v (length Cs) ++ entries (flat Cs)) in
    let at = length (head_line v (length Cs)) in
    let q = clauses_read end 0 v (length Cs) g Cs f [] at [] in
    let r = rw (append-nil (entries (flat Cs))) at q.2 in
    (q.0, q.1, head_reads end v (length Cs) g h (entries (flat Cs)) ∙ behind_reads end 0 v (length Cs) at (entries (flat Cs)) ∙ r)
