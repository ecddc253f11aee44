-- How long the parts of the text are: a number of a block takes at most 9 bytes, since every variable is below 10,000,000.
-- Assumes nothing.
use mathlib.Core.Path.{ap}
use mathlib.Core.List.{List, [], ◌∷◌}
use Prim.Native.Nat.{ℕ, zero, suc, ◌+◌, ◌*◌, ◌≤◌, ◌<◌}
use native.Mathlib.Omega.{arith}
use lib.IntN.{ℤ, pos, negsuc, nat_abs}
use lib.ListN.{length, take, length-append}
use Rattle.plan.specs.Meaning.{Edge, Atom, PlanFile, edge, atom}
use Rattle.plan.specs.Ranged.{LiteralFits, Ranged}
use Rattle.plan.specs.Written.{each, flat, levels, atom_block, written, last_variable}
use Rattle.plan.proofs.ClauseTable.{flat_length}
use Rattle.plan.proofs.Lists.{mem_at}
use Rattle.encoding.specs.Counts.{most_block_numbers}
use Rattle.encoding.proofs.Each.{each_most}
use Rattle.encoding.proofs.Blocks.{last_ge}
use Rattle.encoding.proofs.Literals.{All, Fit, block_fits, edge_ends}
use Rattle.encoding.proofs.Sizes.{block_numbers_lem, levels_le, block_numbers_most, small}
use Rattle.clauses.proofs.Stepping.{before, piece, before_next, before_le}
use Rattle.dimacs.specs.Printing.{numeral, printed, divider, entry, entries, head_line, atom_line}
use Rattle.dimacs.proofs.Digits.{power, digits_few, head_length, atom_length, entries_append, entries_length}
use Rattle.listing.specs.Text.{front_text, part}
use Rattle.listing.specs.Parts.{Soon}

-- the limit of a part: PART in the code
abbrev pub most_part : ℕ
most_part = 2251136

-- a number below 10,000,000
abbrev Short : ℤ → Type 0
Short l = nat_abs l < 10000000

numeral_short : (n : ℕ) → n < 10000000 → length (numeral n) ≤ 7
unfolding power
numeral_short n l = digits_few 10 7 n (omega arith) (omega arith)

entry_short : (l : ℤ) → Short l → length (entry l) ≤ 9
unfolding entry
entry_short (pos n) h = omega (arith, length-append (numeral n) (divider (pos n) ∷ []), numeral_short n h)
entry_short (negsuc n) h = omega (arith, length-append (printed (negsuc n)) (divider (negsuc n) ∷ []), numeral_short (suc n) h)

module _ (top : ℕ) (low : top < 10000000) where
  literals_short : (C : List ℤ) → All (LiteralFits top) C → length (entries C) ≤ 9 * length C
  unfolding entries
  literals_short [] h = omega arith
  literals_short (l ∷ C) h =
      omega (arith, length-append (entry l) (entries C), entry_short l (omega (arith, h.0.high)), literals_short C h.1)

  clauses_short : (Cs : List (List ℤ)) → Fit top Cs → length (entries (flat Cs)) ≤ 9 * length (flat Cs)
  unfolding entries flat
  clauses_short [] h = omega arith
  clauses_short (C ∷ Cs) h =
      omega (
        arith,
        ap length (entries_append C (pos 0 ∷ flat Cs)),
        length-append (entries C) (entries (pos 0 ∷ flat Cs)),
        length-append (entry (pos 0)) (entries (flat Cs)),
        length-append C (pos 0 ∷ flat Cs),
        entry_short (pos 0) (omega arith),
        literals_short C h.0,
        clauses_short Cs h.1,
      )

module _ (φ : PlanFile) (r : Ranged φ) where
  abbrev n : ℕ
  n = φ.nodes

  abbrev es : List Edge
  es = φ.edges

  abbrev As : List Atom
  As = φ.atoms

  pub ends_in : (k : ℕ) → k < length es → (edge es k).to < n
  ends_in k l = (edge_ends φ r k l).to_in

  front_length : length (part φ 0) ≤ most_part
  unfolding part front_text
  front_length =
      let v = last_variable φ in
      let c = length (written φ) in
      let own = flat φ.clauses in
      omega (arith, length-append (head_line v c) (entries own), head_length v c, entries_length own, flat_length φ.clauses, r.clauses, r.literals)

  module _ (j : ℕ) (l : j < length As) where
    abbrev base : ℕ
    base = before n es φ.variables As j

    abbrev A : Atom
    A = atom As j

    fits : Fit (last_variable φ) (atom_block n es base A)
    unfolding last_variable atom_block
    fits =
        let a = r.atom A (mem_at As _ j l) in
        block_fits n es φ.variables (last_variable φ) (edge_ends φ r) base (last_ge n es φ.variables (take j As)) (levels n A)
        (omega (arith, before_next n es φ.variables As j l, before_le n es φ.variables As (j + 1))) A.from A.to A.variable a.to_in a.low a.high

    numbers : length (piece n es φ.variables As j) ≤ most_block_numbers
    unfolding atom_block
    numbers =
        omega (
          arith,
          block_numbers_lem n es base ends_in (levels n A) A.from A.to A.variable,
          block_numbers_most {n = n} {m = length es} {L = levels n A} (record { nodes = r.nodes; edges = r.edges; levels = levels_le n A }),
        )

    atom_part : length (part φ (suc j)) ≤ most_part
    unfolding part
    atom_part =
        omega (
          arith,
          length-append (atom_line (suc j)) (entries (piece n es φ.variables As j)),
          atom_length (suc j),
          clauses_short (last_variable φ) (omega (arith, (small φ r).variables)) (atom_block n es base A) fits,
          numbers,
        )

  pub part_length : (k : ℕ) → k ≤ length As → length (part φ k) ≤ most_part
  part_length zero h = front_length
  part_length (suc j) h = atom_part j (omega arith)

  -- where a part stands
  pub part_soon : (k : ℕ) → k ≤ length As → Soon (length (each k (part φ)))
  part_soon k h = omega (arith, r.atoms, each_most k most_part (part φ) (λ i l. part_length i (omega arith)))
