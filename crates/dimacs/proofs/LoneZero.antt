-- A 0 with no literal before it is an empty clause: it is taken, and refused at its own offset where it is one too many; as a line and as a record it stands by itself.
-- Assumes nothing.
use mathlib.Core.Path.{◌≡◌, refl}
use mathlib.Core.List.{List, [], ◌∷◌, ◌++◌}
use mathlib.Core.Option.{some}
use Prim.Native.Nat.{ℕ}
use lib.IntN.{ℤ, pos}
use Rattle.plan.specs.Ranged.{max_clauses}
use Rattle.dimacs.specs.Words.{Word, line_end}
use Rattle.dimacs.specs.Numbers.{zero_digit, number_in}
use Rattle.dimacs.specs.Reading.{Rule, nothing, goes, turn, first_over}
use Rattle.dimacs.specs.Printing.{digits, entry, entries}
use Rattle.dimacs.specs.Records.{literal_bytes, clause_record, records}
use Rattle.dimacs.proofs.Recording.{records_join}

abbrev empty_at : ℕ → Rule
empty_at at = record { at = at; literals = [] }

pub zero_taken : (v : ℕ) (done : List Rule) (w : Word) → number_in w.bytes ≡ some (pos 0) → turn v done nothing w ≡ goes (done ++ (empty_at w.at ∷ [])) nothing
unfolding turn
zero_taken v done w e = rw e

pub zero_over : (l at : ℕ) (rs : List Rule) → first_over max_clauses l (empty_at at ∷ rs) ≡ some at
unfolding first_over
zero_over l at rs = refl

pub zero_line : (ls : List ℤ) → entries (pos 0 ∷ ls) ≡ zero_digit ∷ line_end ∷ entries ls
unfolding entries entry digits
zero_line ls = refl

pub zero_record : (Cs Ds : List (List ℤ)) → records (Cs ++ ([] ∷ Ds)) ≡ records Cs ++ (4 ∷ 0 ∷ 0 ∷ records Ds)
unfolding records clause_record literal_bytes
zero_record Cs Ds = records_join Cs ([] ∷ Ds)
