-- `walk::lengths::relax`: along the chain, so the edges of the node that come before the next one are taken.
use Prim.Native.Nat.{suc, ◌<◌}
use native.Mathlib.Omega.{arith}
use lib.ListN.{length, get_or}
use Rattle.plan.specs.Tables.{edge_of, edges_of}
use Rattle.plan.specs.Places.{First}
use Rattle.plan.proofs.ByPlace.{blank_edge, edges_length, edges_at}
use Rattle.walk.specs.Walking.{Starts}
use Rattle.walk.proofs.Reading.{ends_in}
use Rattle.walk.proofs.Sets.{one_shifted}
use Rattle.walk.proofs.Relaxing.{relax_start, next_of, relax_turn, relax_end}
use Rattle.walk.proofs.lengths.relax.Goals as goal
use Rattle.walk.proofs.lengths.relax.Goals.{In-loop-k}

-- the edge at hand is one of the table, and behind it comes the next one of the node, in the graph that the chains are of
module _ (c : In-loop-k) where
  listed : c.loop-k.k < length (edges_of c.args.edges.now)
  listed = omega (arith, edges_length c.args.edges.now, c.loop-k-test.true)

  next : First (Starts (edges_of c.args.edges.now) c.requires.chains.graph c.args.node) (suc c.loop-k.k) (length (edges_of c.args.edges.now)) (get_or c.args.chains.now.next c.loop-k.k 0)
  next = next_of c.requires.chains.chained (c.loop-k.invariant c.requires.chains.graph c.requires.chains.chained) listed

pub loop-k-init : goal.loop-k-init
loop-k-init c = λ g h. rw c.from-k.ensures (relax_start h c.requires.node_bound)

pub lower-requires-clause-to_bound : goal.lower-requires-clause-to_bound
lower-requires-clause-to_bound c = (ends_in _ _ _ (edges_at c.args.edges.now c.loop-k.k) c.loop-k-test.true c.requires.chains.inside).1

pub overflow_shl-reached : goal.overflow_shl-reached
overflow_shl-reached c = (ends_in _ _ _ (edges_at c.args.edges.now c.loop-k.k) c.loop-k-test.true c.requires.chains.inside).1

pub bounds-chains-k : goal.bounds-chains-k
bounds-chains-k c = omega (arith, c.loop-k-test.true, edges_length c.args.edges.now, c.requires.chains.few)

pub loop-k-smaller : goal.loop-k-smaller
loop-k-smaller c = omega (arith, c.from-k-in-loop-k.ensures, (next (goal.at.loop-k-smaller c).In-loop-k).after, c.loop-k-test.true)

pub loop-k-preserved : goal.loop-k-preserved
loop-k-preserved c =
    λ g h.
    let here = edges_at c.args.edges.now c.loop-k.k in
    let n = (ends_in _ _ _ here c.loop-k-test.true c.requires.chains.inside).1 in
    rw (one_shifted _ n, c.from-k-in-loop-k.ensures, c.lower.ensures)
    (relax_turn h (c.loop-k.invariant g h) (listed (goal.at.loop-k-preserved c).In-loop-k) (edge_of (get_or c.args.edges.now c.loop-k.k blank_edge)) here (omega arith) (omega (arith, n)))

pub returns : goal.returns
returns c = λ g h. relax_end h (c.loop-k.invariant g h) (omega (arith, edges_length c.args.edges.now, c.loop-k-test.false))
