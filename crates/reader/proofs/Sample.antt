-- The sample file of document 01, byte by byte, reads as the sample plan; the empty file is refused: "Empty file: 2 at 0".
-- Assumes nothing.
use Rattle.reader.proofs.Kit.{◌≡◌, refl, List, [], ◌∷◌, ℕ}
use Rattle.plan.specs.Ranged.{literals}
use Rattle.plan.proofs.Cases.{sample}
use Rattle.reader.specs.Format.{refused, accepted, read_plan, records, head_at, step_at, edge_at, atom_at, clause_at, end_at, fits, head_ok, ends_ok, length_ok, kind_ok, literal_ok, literals_ok, literals_in, serves, clause_len}

pub sample_bytes : List ℕ
sample_bytes = 1 ∷ 0 ∷ 4 ∷ 0 ∷ 3 ∷ 0 ∷ 5 ∷ 2 ∷ 0 ∷ 6 ∷ 0 ∷ 0 ∷ 0 ∷ 1 ∷ 0 ∷ 1 ∷ 2 ∷ 0 ∷ 6 ∷ 0 ∷ 1 ∷ 0 ∷ 2 ∷ 0 ∷ 2 ∷ 2 ∷ 0 ∷ 6 ∷ 0 ∷ 0 ∷ 0 ∷ 2 ∷ 0 ∷ 3 ∷ 3 ∷ 0 ∷ 9 ∷ 2 ∷ 0 ∷ 0 ∷ 0 ∷ 2 ∷ 0 ∷ 1 ∷ 0 ∷ 4 ∷ 3 ∷ 0 ∷ 9 ∷ 1 ∷ 0 ∷ 0 ∷ 0 ∷ 2 ∷ 0 ∷ 0 ∷ 0 ∷ 5 ∷ 4 ∷ 0 ∷ 2 ∷ 0 ∷ 5 ∷ 4 ∷ 0 ∷ 2 ∷ 255 ∷ 252 ∷ 5 ∷ 0 ∷ 0 ∷ []

pub sample_reads : read_plan sample_bytes ≡ accepted sample
unfolding sample_bytes read_plan records head_at step_at edge_at atom_at clause_at end_at fits head_ok ends_ok length_ok kind_ok literal_ok literals_ok literals_in serves literals clause_len
sample_reads = refl

pub empty_reads : read_plan [] ≡ refused 2 0
unfolding read_plan records head_at fits
empty_reads = refl
