-- The last variable before a block: that of the blocks before it, atom by atom.
use mathlib.Core.Path.{◌≡◌, sym, ap, ap₂, ◌∙◌}
use Prim.Native.Nat.{◌+◌, ◌<◌}
use native.Mathlib.Omega.{arith}
use lib.ListN.{length-take}
use Rattle.std.proofs.Common.{get_or-take}
use Rattle.plan.specs.Written.{block_variables, last}
use Rattle.plan.proofs.ByPlace.{edges_length, atoms_length}
use Rattle.clauses.proofs.Stepping.{next_before, next_last, next_limits}
use Rattle.clauses.proofs.Whole.{turn_of}
use Rattle.listing.proofs.last_before.Goals as goal

pub slice_bounds-atom-items-end : goal.slice_bounds-atom-items-end
slice_bounds-atom-items-end c = omega (arith, length-take c.args.k c.args.tables.now.atoms.now, atoms_length c.args.tables.now.atoms.now)

pub loop-atom-init : goal.loop-atom-init
unfolding last
loop-atom-init c = c.from-last.ensures

pub invariant_of-sizes : goal.invariant_of-sizes
invariant_of-sizes c =
    let t = c.args.tables.now in
    let inside : c.loop-atom.atom-index < c.args.k = omega (arith, length-take c.args.k t.atoms.now) in
    let levels = rw get_or-take at c.levels_of.ensures in
    let turn = turn_of t.lent c.from-nodes.ensures (omega (arith, atoms_length t.atoms.now)) c.loop-atom.invariant levels in
    record { in_limits = rw (c.from-nodes.ensures, ← edges_length t.edges.now) (next_limits turn) }

pub overflow_add-last : goal.overflow_add-last
overflow_add-last c =
    let t = c.args.tables.now in
    let inside : c.loop-atom.atom-index < c.args.k = omega (arith, length-take c.args.k t.atoms.now) in
    let levels = rw get_or-take at c.levels_of.ensures in
    let turn = turn_of t.lent c.from-nodes.ensures (omega (arith, atoms_length t.atoms.now)) c.loop-atom.invariant levels in
    let variables = c.variables-last.ensures ∙ ap₂ (λ n m. block_variables n m c.levels_of.result) c.from-nodes.ensures (sym (edges_length t.edges.now)) in
    omega (arith, next_last turn, variables)

pub loop-atom-preserved : goal.loop-atom-preserved
loop-atom-preserved c =
    let t = c.args.tables.now in
    let inside : c.loop-atom.atom-index < c.args.k = omega (arith, length-take c.args.k t.atoms.now) in
    let levels = rw get_or-take at c.levels_of.ensures in
    let turn = turn_of t.lent c.from-nodes.ensures (omega (arith, atoms_length t.atoms.now)) c.loop-atom.invariant levels in
    let variables = c.variables-last.ensures ∙ ap₂ (λ n m. block_variables n m c.levels_of.result) c.from-nodes.ensures (sym (edges_length t.edges.now)) in
    ap (λ v. c.loop-atom.last + v) variables ∙ next_before turn

pub returns : goal.returns
returns c =
    let atoms = c.args.tables.now.atoms.now in
    let e : c.loop-atom.atom-index ≡ c.args.k = omega (arith, length-take c.args.k atoms, atoms_length atoms) in
    rw e at c.loop-atom.invariant
