-- The start has two numbers for each node, for which the table has room.
use native.Mathlib.Omega.{arith}
use Rattle.listing.proofs.Lengths.{start_length}
use Rattle.listing.proofs.block.print_start.Goals as goal

pub put_start-requires-clause-room : goal.put_start-requires-clause-room
put_start-requires-clause-room c = omega (arith, start_length c.args.nodes c.args.source c.args.first, c.requires.nodes_le_max_nodes.0)
