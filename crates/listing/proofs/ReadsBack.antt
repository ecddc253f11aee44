-- The text of a plan file reads back as its written-out clauses.
-- Assumes nothing.
use mathlib.Core.Path.{◌≡◌, refl, sym, ◌∙◌, ap}
use mathlib.Core.Bool.{true}
use mathlib.Core.List.Memᴰ
use mathlib.Core.List.{List, [], ◌∷◌, ◌++◌, append_assoc, append-nil}
use Prim.Native.Nat.{ℕ, suc, ◌+◌, ◌≤◌}
use native.Mathlib.Omega.{arith}
use lib.IntN.{ℤ}
use lib.ListN.{length}
use Rattle.plan.specs.Meaning.{Edge, Atom, PlanFile}
use Rattle.plan.specs.Ranged.{InRange, Ranged}
use Rattle.plan.specs.Written.{flat, atom_block, after, blocks, written, last_variable}
use Rattle.encoding.proofs.Literals.{written_in_range}
use Rattle.encoding.proofs.Sizes.{small}
use Rattle.dimacs.specs.Words.{between, last, words}
use Rattle.dimacs.specs.Reading.{Rule, Text, good, nothing, clauses, whole, read_text, literals_of}
use Rattle.dimacs.specs.Printing.{entries, head_line, atom_line}
use Rattle.dimacs.proofs.ReadWords.{atom_line_reads}
use Rattle.dimacs.proofs.ReadBack.{clauses_read, head_reads, behind_reads}
use Rattle.listing.specs.Text.{block_texts, front_text, text}

literals_append : (rs ss : List Rule) → literals_of (rs ++ ss) ≡ literals_of rs ++ literals_of ss
unfolding literals_of
literals_append [] ss = refl
literals_append (r ∷ rs) ss = ap (λ Cs. r.literals ∷ Cs) (literals_append rs ss)

-- a part of clauses in range
first_in : {v : ℕ} (Bs Cs : List (List ℤ)) → InRange v (Bs ++ Cs) → InRange v Bs
first_in Bs Cs h C m = h C (Memᴰ.append_left Cs m)

second_in : {v : ℕ} (Bs Cs : List (List ℤ)) → InRange v (Bs ++ Cs) → InRange v Cs
second_in Bs Cs h C m = h C (Memᴰ.append_right Bs m)

-- what is read is a good text with these clauses behind those that are done
pub record Reads (t : Text) (p v c : ℕ) (done : List Rule) (Cs : List (List ℤ)) : Type 0 where
  pub of : List Rule
  pub are : literals_of of ≡ Cs
  pub is : t ≡ good p v c (done ++ of)

module _ (end p v c : ℕ) (few : v ≤ 2147483647) (n : ℕ) (es : List Edge) where
  blocks_read : (As : List Atom) (k base : ℕ) → InRange v (blocks n es base As) → (done : List Rule) (at : ℕ)
      → Reads (clauses end p v c done nothing (words (between true) at (block_texts n es k base As))) p v c done (blocks n es base As)
  unfolding blocks block_texts words last clauses literals_of
  blocks_read [] k base h done at = record { of = []; are = refl; is = ap (good p v c) (sym (append-nil done)) }
  blocks_read (A ∷ As) k base h done at =
      let B = atom_block n es base A in
      let T = block_texts n es (suc k) (after n es base A) As in
      let next = at + length (atom_line k) in
      let q = clauses_read end p v c few B (first_in B (blocks n es (after n es base A) As) h) done next T in
      let r = blocks_read As (suc k) (after n es base A) (second_in B (blocks n es (after n es base A) As) h) (done ++ q.0) (next + length (entries (flat B))) in
      record {
        of = q.0 ++ r.of;
        are = literals_append q.0 r.of ∙ (λ i. q.1 i ++ r.are i);
        is =
            ap (λ l. clauses end p v c done nothing (words (between true) at l)) (append_assoc (atom_line k) (entries (flat B)) T)
            ∙ ap (clauses end p v c done nothing) (atom_line_reads at k (entries (flat B) ++ T)) ∙ q.2 ∙ r.is ∙ ap (good p v c) (append_assoc done q.0 r.of);
      }

module _ (φ : PlanFile) (r : Ranged φ) where
  pub text_reads : Reads (read_text (text φ)) 0 (last_variable φ) (length (written φ)) [] (written φ)
  unfolding read_text text front_text written literals_of
  text_reads =
      let v = last_variable φ in
      let c = length (written φ) in
      let end = length (text φ) in
      let own = entries (flat φ.clauses) in
      let behind-own = block_texts φ.nodes φ.edges 1 φ.variables φ.atoms in
      let at = length (head_line v c) in
      let few : v ≤ 2147483647 = omega (arith, (small φ r).variables) in
      let short : c ≤ 2147483647 = omega (arith, (small φ r).clauses) in
      let Bs = blocks φ.nodes φ.edges φ.variables φ.atoms in
      let q = clauses_read end 0 v c few φ.clauses (first_in φ.clauses Bs (written_in_range φ r)) [] at behind-own in
      let s = blocks_read end 0 v c few φ.nodes φ.edges φ.atoms 1 φ.variables (second_in φ.clauses Bs (written_in_range φ r)) q.0 (at + length own) in
      record {
        of = q.0 ++ s.of;
        are = literals_append q.0 s.of ∙ (λ i. q.1 i ++ s.are i);
        is =
            ap (λ l. whole end (words (between true) 0 l)) (append_assoc (head_line v c) own behind-own)
            ∙ head_reads end v c few short (own ++ behind-own) ∙ behind_reads end 0 v c at (own ++ behind-own) ∙ q.2 ∙ s.is;
      }
