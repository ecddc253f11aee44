-- The blocks, one behind the other; the last variable before a block is that of the blocks before it.
use mathlib.Core.Path.{sym, ap, ap₂, ◌∙◌}
use Prim.Native.Nat.{◌+◌}
use native.Mathlib.Omega.{arith}
use Rattle.plan.specs.File.{file_of}
use Rattle.plan.specs.Written.{block_variables, last}
use Rattle.plan.proofs.ByPlace.{edges_length, atoms_length}
use Rattle.plan.proofs.Filling.{filling_start, filling_room, filling_turn, filling_end}
use Rattle.plan.proofs.Fronts.{put_as, room_as, room_tail, put_tail}
use Rattle.clauses.proofs.Stepping.{blocks_each, next_row, next_before, next_last, next_low, next_limits}
use Rattle.clauses.proofs.Whole.{turn_of}
use Rattle.clauses.proofs.put_blocks.Goals as goal

pub loop-atom-init : goal.loop-atom-init
unfolding last
loop-atom-init c = let φ = file_of c.args.tables.now in (filling_start (room_as (blocks_each φ.nodes φ.edges φ.variables φ.atoms) c.requires), c.from-base.ensures)

pub invariant_of-shape : goal.invariant_of-shape
invariant_of-shape c =
    let t = c.args.tables.now in
    let turn = turn_of t.lent c.from-nodes.ensures c.loop-atom-test.true c.loop-atom.invariant.1 c.levels_of-top.ensures in
    record { low = rw c.from-nodes.ensures (next_low turn) }

pub put_block-end-requires : goal.put_block-end-requires
put_block-end-requires c =
    let t = c.args.tables.now in
    let turn = turn_of t.lent c.from-nodes.ensures c.loop-atom-test.true c.loop-atom.invariant.1 c.levels_of-top.ensures in
    rw c.from-nodes.ensures (room_tail _ _ (room_as (sym (next_row turn)) (filling_room c.loop-atom.invariant.0 turn.inside)))

pub invariant_of-sizes : goal.invariant_of-sizes
invariant_of-sizes c =
    let t = c.args.tables.now in
    let turn = turn_of t.lent c.from-nodes.ensures c.loop-atom-test.true c.loop-atom.invariant.1 c.levels_of-top.ensures in
    record { in_limits = rw (c.from-nodes.ensures, ← edges_length t.edges.now) (next_limits turn) }

pub overflow_add-last : goal.overflow_add-last
overflow_add-last c =
    let t = c.args.tables.now in
    let turn = turn_of t.lent c.from-nodes.ensures c.loop-atom-test.true c.loop-atom.invariant.1 c.levels_of-top.ensures in
    let variables = c.variables-last.ensures ∙ ap₂ (λ n m. block_variables n m c.levels_of-top.result) c.from-nodes.ensures (sym (edges_length t.edges.now)) in
    omega (arith, next_last turn, variables)

pub loop-atom-preserved : goal.loop-atom-preserved
loop-atom-preserved c =
    let t = c.args.tables.now in
    let turn = turn_of t.lent c.from-nodes.ensures c.loop-atom-test.true c.loop-atom.invariant.1 c.levels_of-top.ensures in
    let variables = c.variables-last.ensures ∙ ap₂ (λ n m. block_variables n m c.levels_of-top.result) c.from-nodes.ensures (sym (edges_length t.edges.now)) in
    let l = c.loop-atom in
    let block = rw c.from-nodes.ensures at c.put_block-end.ensures in (
      filling_turn l.invariant.0 turn.inside (put_as (next_row turn) (put_tail _ _ (omega (arith, l.invariant.0.put.inside, l.invariant.0.same)) block)),
      ap (λ v. l.last + v) variables ∙ next_before turn,
    )

pub returns : goal.returns
returns c = let φ = file_of c.args.tables.now in put_as (sym (blocks_each φ.nodes φ.edges φ.variables φ.atoms)) (filling_end c.loop-atom.invariant.0 (omega (arith, atoms_length c.args.tables.now.atoms.now)))
