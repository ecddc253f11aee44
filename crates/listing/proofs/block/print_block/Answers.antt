-- The first line, the start, the levels and the end, with the numbers as the code reads and adds them.
use mathlib.Core.Path.{◌≡◌}
use mathlib.Core.List.{List, ◌++◌}
use Prim.Native.Nat.{ℕ, ◌+◌}
use native.Mathlib.Omega.{arith}
use lib.ListN.{length, length-append}
use Rattle.plan.specs.Meaning.{Edge}
use Rattle.plan.specs.Tables.{edges_of}
use Rattle.clauses.specs.Rows.{first_at, start_row, levels_row, end_row, block_row}
use Rattle.clauses.specs.Shapes.{levels_by}
use Rattle.dimacs.proofs.Digits.{atom_length, entries_length}
use Rattle.dimacs.proofs.Printers.{lays_then}
use Rattle.listing.proofs.Entries.{entries_then}
use Rattle.listing.proofs.block.print_block.Goals as goal

size : (n : ℕ) (es : List Edge) (base top s t a : ℕ)
    → length (block_row n es base top s t a) ≡ length (start_row n s (base + 1)) + length (levels_row es n base top) + length (end_row a (first_at es n base top + t))
unfolding block_row
size n es base top s t a =
    let start = start_row n s (base + 1) in
    let levels = levels_row es n base top in
    omega (arith, length-append (start ++ levels) (end_row a (first_at es n base top + t)), length-append start levels)

pub print_start-requires-clause-ahead : goal.print_start-requires-clause-ahead
print_start-requires-clause-ahead c =
    let s = c.args.shape.now in
    let A = c.args.atom in
    rw c.from-2.ensures (omega (arith, c.atom_line.ensures.laid.count, atom_length c.args.number, size s.nodes (edges_of s.edges.now) s.base s.top A.from A.to A.variable, c.requires.ahead))

pub print_levels-requires-clause-ahead : goal.print_levels-requires-clause-ahead
print_levels-requires-clause-ahead c =
    let s = c.args.shape.now in
    let A = c.args.atom in
    let start = rw c.from-2.ensures at c.print_start.ensures in
    omega (
      arith,
      c.atom_line.ensures.laid.count,
      atom_length c.args.number,
      start.laid.count,
      entries_length (start_row s.nodes A.from (s.base + 1)),
      size s.nodes (edges_of s.edges.now) s.base s.top A.from A.to A.variable,
      c.requires.ahead,
    )

pub print_end-requires-clause-ahead : goal.print_end-requires-clause-ahead
print_end-requires-clause-ahead c =
    let s = c.args.shape.now in
    let A = c.args.atom in
    let start = rw c.from-2.ensures at c.print_start.ensures in
    rw (c.from-3.ensures, c.from.ensures, c.first.ensures)
    (omega (
      arith,
      c.atom_line.ensures.laid.count,
      atom_length c.args.number,
      start.laid.count,
      entries_length (start_row s.nodes A.from (s.base + 1)),
      c.print_levels.ensures.laid.count,
      entries_length (levels_by s),
      size s.nodes (edges_of s.edges.now) s.base s.top A.from A.to A.variable,
      c.requires.ahead,
    ))

pub returns : goal.returns
unfolding block_row
returns c =
    let start = rw c.from-2.ensures at c.print_start.ensures in
    let last = rw (c.from-3.ensures, c.from.ensures, c.first.ensures) at c.print_end.ensures in
    lays_then c.atom_line.ensures (entries_then _ _ (entries_then _ _ start c.print_levels.ensures) last)
