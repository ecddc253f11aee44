-- How many numbers the rows of a block have.
-- Assumes nothing.
use mathlib.Core.Path.{◌≡◌, sym, ◌∙◌, ap}
use mathlib.Core.List.{List}
use Prim.Native.Nat.{ℕ, ◌+◌, ◌*◌, ◌<◌}
use native.Mathlib.Omega.{arith}
use lib.ListN.{length}
use Rattle.plan.specs.Meaning.{Edge, edge}
use Rattle.plan.specs.Written.{block_numbers}
use Rattle.encoding.proofs.Each.{sum_const, length_each}
use Rattle.encoding.proofs.Sizes.{level_numbers, block_numbers_lem}
use Rattle.clauses.specs.Rows.{alone_row, start_row, level_row, first_at, level_from, block_row}
use Rattle.clauses.proofs.Rows.{level_is, block_is}

pub start_length : (n s first : ℕ) → length (start_row n s first) ≡ 2 * n
unfolding start_row alone_row
start_length n s first = length_each n _ ∙ sum_const n 2 ∙ omega arith

module _ (n : ℕ) (es : List Edge) (base : ℕ) (to_in : (k : ℕ) → k < length es → (edge es k).to < n) where
  pub level_length : (i : ℕ) → length (level_row es n (level_from es n (first_at es n base i))) ≡ 14 * length es + 6 * n
  level_length i = ap length (sym (level_is n es base i)) ∙ level_numbers n es base to_in i

  pub block_length : (L s t a : ℕ) → length (block_row n es base L s t a) ≡ block_numbers n (length es) L
  block_length L s t a = ap length (sym (block_is n es base L s t a)) ∙ block_numbers_lem n es base to_in L s t a
