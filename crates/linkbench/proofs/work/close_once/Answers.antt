-- All open is an assignment of so many variables.
use Rattle.search.proofs.Firsts.{opened}
use Rattle.linkbench.proofs.work.close_once.Goals as goal

pub close-requires : goal.close-requires
close-requires c = (opened _ _ _ c.args.tables.now.lent.ranged.variables c.from.ensures c.all_open-open.ensures).shape
