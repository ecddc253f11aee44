-- `walk::lengths::length_walk`: nodes are done in the order of their distance, so each node's distance is the least once it is done.
use Prim.Native.Nat.{◌^◌}
use native.Mathlib.Omega.{arith}
use lib.Bits.{bit_or}
use Rattle.walk.proofs.Sets.{one_shifted, size_le}
use Rattle.walk.proofs.Nearing.{begin, some_left, node_in, node_low, one_more, turn, table}
use Rattle.walk.proofs.lengths.length_walk.Goals as goal

pub loop-done-init : goal.loop-done-init
loop-done-init c = λ g h. begin _ g c.args.source _ _ c.requires.source_bound (omega arith) (one_shifted c.args.source c.requires.source_bound)

pub nearest-node-requires : goal.nearest-node-requires
nearest-node-requires c = some_left (c.loop-done.invariant _ c.requires.chains.chained) c.loop-done-test.true

pub relax-known-requires : goal.relax-known-requires
relax-known-requires c =
    let v = c.loop-done.invariant _ c.requires.chains.chained in
    let n = c.nearest-node.ensures in
    record { chains = c.requires.chains; node_bound = node_in v n; near_bound = omega (arith, node_low v n, size_le 64 c.loop-done.done) }

pub overflow_shl-done : goal.overflow_shl-done
overflow_shl-done c = node_in (c.loop-done.invariant _ c.requires.chains.chained) c.nearest-node.ensures

pub loop-done-smaller : goal.loop-done-smaller
loop-done-smaller c =
    let v = c.loop-done.invariant _ c.requires.chains.chained in
    let n = c.nearest-node.ensures in
    rw (one_shifted _ (node_in v n)) (omega (arith, one_more v n, size_le 64 (bit_or c.loop-done.done (2 ^ c.nearest-node.result))))

pub loop-done-preserved : goal.loop-done-preserved
loop-done-preserved c =
    λ g h.
    let n = c.nearest-node.ensures in
    rw (one_shifted _ (node_in (c.loop-done.invariant _ c.requires.chains.chained) n))
    (turn (c.loop-done.invariant g h) n (c.relax-known.ensures g h) c.relax-known.type_inv)

pub returns : goal.returns
returns c = record { table = λ g h. table (rw c.loop-done-test.false at (c.loop-done.invariant g h)) }
