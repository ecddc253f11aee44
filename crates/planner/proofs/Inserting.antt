-- A plan file with the records of clauses put in before its end record is accepted, and has these clauses behind its own.
-- Assumes nothing.
use mathlib.Core.Path.{◌≡◌, refl, sym, ap, ap₂, ◌∙◌, subst}
use mathlib.Core.List.{List, [], ◌∷◌, ◌++◌, append_assoc, Memᴰ}
use Prim.Native.Nat.{ℕ, ◌+◌, ◌-◌, ◌*◌, ◌<◌, ◌≤◌}
use native.Mathlib.Omega.{arith}
use lib.IntN.{ℤ, pos, negsuc, nat_abs}
use lib.ListN.{length, take, drop, get_or, length-append, length-take, length-drop, get_or-append}
use lib.Seq.{drop-drop, drop_at, get_or-take}
use Rattle.plan.specs.Meaning.{PlanFile}
use Rattle.plan.specs.Ranged.{max_bytes}
use Rattle.reader.specs.Format.{accepted, word, twos, len_at, after, literals_in, with_clauses, read_plan}
use Rattle.reader.proofs.Bits.{twos_low, twos_high}
use Rattle.reader.proofs.Accepts.{read_ranged}
use Rattle.reader.proofs.Cases.{Ended}
use Rattle.reader.proofs.Runs.{size}
use Rattle.reader.proofs.Alike.{Alike}
use Rattle.reader.proofs.Inserting.{byte_at, word_at, bytes_ended, ended_bytes, ClauseStands, Row, none, more, Joins, read_ended, inserting}
use Rattle.dimacs.proofs.RecordSizes.{records_length, record_length, literals_length}
use Rattle.dimacs.specs.Records.{complement, literal_bytes, clause_record, records, inserted}

-- a literal that fits in 16 bits
abbrev Small : ℤ → Type 0
Small l = nat_abs l < 32768

twos_back : (l : ℤ) → Small l → twos (complement l) ≡ l
twos_back (pos n) h = twos_low n h
twos_back (negsuc n) h = let e : 65535 - (65535 - n) ≡ n = omega arith in twos_high (65535 - n) (omega arith) ∙ ap negsuc e

literals_back : (C : List ℤ) (g : List ℕ) (at : ℕ) (r : List ℕ) → drop at g ≡ literal_bytes C ++ r → ((l : ℤ) → Memᴰ l C → Small l)
    → literals_in g at (length C) ≡ C
unfolding literals_in literal_bytes
literals_back [] g at r e h = refl
literals_back (l ∷ C) g at r e h =
    let w : word g at ≡ complement l = word_at g at _ e 0 at (omega arith) ∙ omega arith in
    ap₂ (λ x ls. x ∷ ls) (ap twos w ∙ twos_back l (h l (Memᴰ.head refl)))
    (literals_back C g (at + 2) r (sym (drop-drop 2 at g) ∙ ap (drop 2) e) (λ k m. h k (Memᴰ.tail m)))

-- the records as the reader finds them
module _ (C : List ℤ) (g : List ℕ) (at : ℕ) (r : List ℕ) (e : drop at g ≡ clause_record C ++ r) where
  record_stands : ((l : ℤ) → Memᴰ l C → Small l) → ClauseStands g at C
  unfolding clause_record
  record_stands h =
      let w : len_at g at ≡ length C * 2 = word_at g at _ e 1 (at + 1) refl ∙ omega arith in
      record {
        tag = byte_at g at _ e 0 at (omega arith);
        long = w;
        value = literals_back C g (at + 3) r (sym (drop-drop 3 at g) ∙ ap (drop 3) e) h;
        inside = omega (arith, w, length-drop at g, ap length e, length-append (literal_bytes C) r, literals_length C);
      }

records_row : (Cs : List (List ℤ)) (g : List ℕ) (at to : ℕ) (r : List ℕ) → drop at g ≡ records Cs ++ r → to ≡ at + length (records Cs)
    → ((C : List ℤ) → Memᴰ C Cs → (l : ℤ) → Memᴰ l C → Small l) → Row g at Cs to
unfolding records
records_row [] g at to r e t h = let q : at ≡ to = omega arith in subst (Row g at []) q none
records_row (C ∷ Cs) g at to r e t h =
    let d = e ∙ append_assoc (clause_record C) (records Cs) r in
    let s = record_stands C g at (records Cs ++ r) d (h C (Memᴰ.head refl)) in
    let n : after g at ≡ at + length (clause_record C) = omega (arith, s.long, record_length C) in
    let rest : drop (after g at) g ≡ records Cs ++ r =
    ap (λ k. drop k g) n ∙ sym (drop-drop (length (clause_record C)) at g) ∙ ap (drop (length (clause_record C))) d ∙ drop_at (clause_record C) (records Cs ++ r) _ refl in
    more s (records_row Cs g (after g at) to r rest (omega (arith, n, length-append (clause_record C) (records Cs))) (λ D m. h D (Memᴰ.tail m)))

-- where the end record stands
abbrev end : List ℕ → ℕ
end f = length f - 3

-- the front is f's, then come the records, then the end record
module _ (f R : List ℕ) where
  front_long : length (take (end f) f) ≡ end f
  front_long = omega (arith, length-take (end f) f)

  parts : inserted f R ≡ take (end f) f ++ (R ++ drop (end f) f)
  unfolding inserted
  parts = append_assoc (take (end f) f) R (drop (end f) f)

  pub inserted_long : length (inserted f R) ≡ length f + length R
  inserted_long = ap length parts ∙ omega (arith, length-append (take (end f) f) (R ++ drop (end f) f), length-append R (drop (end f) f), front_long, length-drop (end f) f)

  records_first : drop (end f) (inserted f R) ≡ R ++ drop (end f) f
  records_first = ap (drop (end f)) parts ∙ drop_at (take (end f) f) (R ++ drop (end f) f) (end f) front_long

  module _ (e : Ended f (end f)) where
    alike : Alike f (inserted f R) (end f)
    alike = record {
      byte = λ i l. sym (ap (λ x. get_or x i 0) parts ∙ get_or-append (take (end f) f) (R ++ drop (end f) f) 0 i (omega (arith, front_long)) ∙ get_or-take (end f) f i 0 l);
      left = omega (arith, e.last);
      right = omega (arith, e.last, inserted_long);
    }

    last : Ended (inserted f R) (end f + length R)
    unfolding inserted
    last =
        bytes_ended (inserted f R) _
        (drop_at (take (end f) f ++ R) (drop (end f) f) _ (length-append (take (end f) f) R ∙ ap (λ n. n + length R) front_long) ∙ ended_bytes e)

module _ (f : List ℕ) {φ : PlanFile} (h : read_plan f ≡ accepted φ) {Cs : List (List ℤ)} (j : Joins φ Cs) where
  -- the new file is never too long
  pub short : length f + length (records Cs) ≤ max_bytes
  short = let r = read_ranged f φ h in omega (arith, size f h, records_length Cs, r.edges, r.atoms, j.clauses, j.literals)

  small : (C : List ℤ) → Memᴰ C Cs → (l : ℤ) → Memᴰ l C → Small l
  small C m l k = omega (arith, (j.literal C m l k).high, (read_ranged f φ h).variables)

  pub inserted_reads : read_plan (inserted f (records Cs)) ≡ accepted (with_clauses φ Cs)
  inserted_reads =
      let R = records Cs in
      let e = read_ended f h in
      let row = records_row Cs (inserted f R) (end f) (end f + length R) (drop (end f) f) (records_first f R) refl small in
      inserting f h j (alike f R e) row (last f R e) (omega (arith, inserted_long f R)) (omega (arith, inserted_long f R, short))
