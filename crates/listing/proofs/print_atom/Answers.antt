-- The block behind the last variable before it, with the numbers as the code reads them.
use native.Mathlib.Numerals.{add-one}
use native.Mathlib.Omega.{arith}
use lib.ListN.{get_or}
use Rattle.plan.specs.File.{file_of}
use Rattle.plan.specs.Tables.{edges_of}
use Rattle.plan.proofs.ByPlace.{blank_atom, atoms_length}
use Rattle.encoding.proofs.Sizes.{block_numbers_most}
use Rattle.clauses.proofs.Stepping.{next_low, next_limits}
use Rattle.clauses.proofs.Whole.{turn_of}
use Rattle.dimacs.proofs.Printers.{lays_as}
use Rattle.listing.proofs.Lengths.{block_length}
use Rattle.listing.proofs.Parts.{block_is}
use Rattle.listing.proofs.Sizes.{ends_in}
use Rattle.listing.proofs.print_atom.Goals as goal

pub bounds-tables-j : goal.bounds-tables-j
bounds-tables-j c = omega (arith, atoms_length c.args.tables.now.atoms.now)

pub invariant_of-shape : goal.invariant_of-shape
invariant_of-shape c =
    let t = c.args.tables.now in
    let turn = turn_of t.lent c.from-nodes.ensures (omega (arith, atoms_length t.atoms.now)) c.last_before-base.ensures c.levels_of-top.ensures in
    record { low = rw c.from-nodes.ensures (next_low turn) }

pub print_block-requires : goal.print_block-requires
print_block-requires c =
    let t = c.args.tables.now in
    let turn = turn_of t.lent c.from-nodes.ensures (omega (arith, atoms_length t.atoms.now)) c.last_before-base.ensures c.levels_of-top.ensures in
    let A = get_or t.atoms.now c.args.j blank_atom in
    let ends = ends_in (file_of t) t.lent.ranged in
    rw c.from-nodes.ensures (record {
      ends_in = ends;
      ahead = omega (arith, c.requires.soon, block_length t.plan.nodes (edges_of t.edges.now) c.last_before-base.result ends c.levels_of-top.result A.from A.to A.variable, block_numbers_most (next_limits turn));
    })

pub returns : goal.returns
returns c =
    let t = c.args.tables.now in
    let turn = turn_of t.lent c.from-nodes.ensures (omega (arith, atoms_length t.atoms.now)) c.last_before-base.ensures c.levels_of-top.ensures in
    lays_as (block_is (file_of t) (add-one c.args.j) turn) (rw c.from-nodes.ensures at c.print_block.ensures)
