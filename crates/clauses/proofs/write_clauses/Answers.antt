-- The counts say whether there is room; then the file's own clauses are written, and the blocks behind them.
use native.Mathlib.Omega.{arith}
use Rattle.clauses.proofs.Whole.{room_own, room_blocks, written_out}
use Rattle.clauses.proofs.write_clauses.Goals as goal

pub put_own-end-requires : goal.put_own-end-requires
put_own-end-requires c = omega (arith, (room_own c.args.tables.now.lent c.counts_of-counts.ensures c.if-out-needed.false).fits)

pub put_blocks-requires : goal.put_blocks-requires
put_blocks-requires c = room_blocks c.args.tables.now.lent c.counts_of-counts.ensures c.if-out-needed.false c.put_own-end.ensures

pub returns : goal.returns
returns c = written_out c.args.tables.now.lent c.counts_of-counts.ensures c.if-out-needed.false c.put_own-end.ensures c.put_blocks.ensures
