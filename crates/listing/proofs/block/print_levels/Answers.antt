-- The levels, one behind the other.
use native.Mathlib.Omega.{arith}
use Rattle.plan.specs.Tables.{edges_of}
use Rattle.plan.specs.Written.{each}
use Rattle.clauses.specs.Rows.{levels_row}
use Rattle.dimacs.specs.Printing.{entries}
use Rattle.dimacs.proofs.Printers.{lays_none}
use Rattle.listing.proofs.Levels.{level_fits, level_ahead, level_turn}
use Rattle.listing.proofs.block.print_levels.Goals as goal

pub loop-i-init : goal.loop-i-init
unfolding levels_row each entries
loop-i-init c = lays_none _

pub print_level-requires : goal.print_level-requires
print_level-requires c =
    let s = c.args.shape.now in
    let es = edges_of s.edges.now in
    record {
      level_fits = rw c.level-level.ensures (level_fits s.nodes es s.base s.low c.requires.ends_in (omega arith));
      ahead = rw c.level-level.ensures (level_ahead s.nodes es s.base c.loop-i.i c.loop-i.invariant s.top (omega arith) c.requires.ahead);
    }

pub loop-i-preserved : goal.loop-i-preserved
loop-i-preserved c =
    let s = c.args.shape.now in
    level_turn s.nodes (edges_of s.edges.now) s.base c.loop-i.i c.loop-i.invariant (rw c.level-level.ensures at c.print_level.ensures)
