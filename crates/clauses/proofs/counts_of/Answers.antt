-- The file's own counts, with those of the blocks one by one: so many atoms are counted, those of the table's beginning.
use native.Mathlib.Omega.{arith}
use Rattle.plan.specs.Tables.{atoms_of}
use Rattle.plan.proofs.ByPlace.{edges_length, atoms_length, atoms_at}
use Rattle.clauses.proofs.Stepping.{limits, few, added_next, added_none, added_all}
use Rattle.clauses.proofs.Whole.{countable, counting}
use Rattle.clauses.proofs.counts_of.Goals as goal

pub loop-atom-init : goal.loop-atom-init
loop-atom-init c = rw c.from.ensures (added_none _ _ (atoms_of c.args.tables.now.atoms.now) _)

pub invariant_of-sizes : goal.invariant_of-sizes
invariant_of-sizes c =
    let t = c.args.tables.now in
    let levels = rw c.from-nodes.ensures at c.levels_of.ensures in
    let here = atoms_at t.atoms.now c.loop-atom.atom-index in
    record { in_limits = rw (c.from-nodes.ensures, ← edges_length t.edges.now) (limits (countable t.lent) (omega (arith, atoms_length t.atoms.now)) c.loop-atom.invariant here levels) }

pub with_block-counts-requires : goal.with_block-counts-requires
with_block-counts-requires c =
    let t = c.args.tables.now in
    let levels = rw c.from-nodes.ensures at c.levels_of.ensures in
    few (countable t.lent) (omega (arith, atoms_length t.atoms.now)) c.loop-atom.invariant (atoms_at t.atoms.now c.loop-atom.atom-index) levels

pub loop-atom-preserved : goal.loop-atom-preserved
loop-atom-preserved c =
    let t = c.args.tables.now in
    let levels = rw c.from-nodes.ensures at c.levels_of.ensures in
    let one = rw (c.from-nodes.ensures, ← edges_length t.edges.now) at c.with_block-counts.ensures in
    added_next (countable t.lent) (omega (arith, atoms_length t.atoms.now)) c.loop-atom.invariant (atoms_at t.atoms.now c.loop-atom.atom-index) levels one

pub returns : goal.returns
returns c = counting c.args.tables.now.lent (added_all c.loop-atom.atom-index c.loop-atom.invariant (omega (arith, atoms_length c.args.tables.now.atoms.now)))
