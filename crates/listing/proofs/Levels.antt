-- The levels of a block, one behind the other, as they are printed.
-- Assumes nothing.
use mathlib.Core.Path.{◌≡◌, sym, ap}
use mathlib.Core.List.{List, ◌++◌}
use Prim.Native.Nat.{ℕ, suc, ◌+◌, ◌≤◌, ◌<◌}
use native.Mathlib.Numerals.{add-one}
use native.Mathlib.Omega.{arith}
use lib.IntN.{ℤ}
use lib.ListN.{length, length-append}
use Rattle.plan.specs.Meaning.{Edge}
use Rattle.plan.specs.Written.{each}
use Rattle.plan.proofs.Filling.{each_upto}
use Rattle.clauses.specs.Rows.{level_row, first_at, level_from, levels_row, LowBlock}
use Rattle.clauses.proofs.Rows.{level_all_low}
use Rattle.dimacs.specs.Printing.{entries}
use Rattle.dimacs.specs.Printers.{Lays}
use Rattle.dimacs.specs.declared.printing.Printer.{Printer}
use Rattle.dimacs.proofs.Digits.{entries_length}
use Rattle.dimacs.proofs.Printers.{lays_as}
use Rattle.listing.specs.Parts.{Ahead, LevelFits, EndsIn}
use Rattle.listing.proofs.Entries.{entries_then}
use Rattle.listing.proofs.Lengths.{level_length}

module _ (n : ℕ) (es : List Edge) (base : ℕ) where
  abbrev pub level_at : ℕ → List ℤ
  level_at i = level_row es n (level_from es n (first_at es n base i))

  levels_next : (i : ℕ) → levels_row es n base (i + 1) ≡ levels_row es n base i ++ level_at i
  unfolding levels_row each
  levels_next i = rw (add-one i)

  levels_upto : (i top : ℕ) → i < top → length (levels_row es n base i) + length (level_at i) ≤ length (levels_row es n base top)
  unfolding levels_row each
  levels_upto i top l = omega (arith, each_upto level_at (suc i) top l, length-append (each i level_at) (level_at i))

  pub level_fits : {i top : ℕ} → LowBlock es n base top → EndsIn es n → i < top → LevelFits es n (level_from es n (first_at es n base i))
  level_fits {i} low ends l = record { low = level_all_low low l; nodes = low.nodes; few = omega (arith, level_length n es base ends i, low.few, low.nodes) }

  -- i levels are printed
  module _ (i : ℕ) {old mid : Printer} (h : Lays (entries (levels_row es n base i)) old mid) where
    pub level_ahead : (top : ℕ) → i < top → Ahead old.at (levels_row es n base top) → Ahead mid.at (level_at i)
    level_ahead top l ahead = omega (arith, h.laid.count, entries_length (levels_row es n base i), levels_upto i top l)

    pub level_turn : {new : Printer} → Lays (entries (level_at i)) mid new → Lays (entries (levels_row es n base (i + 1))) old new
    level_turn k = lays_as (ap entries (sym (levels_next i))) (entries_then (levels_row es n base i) (level_at i) h k)
