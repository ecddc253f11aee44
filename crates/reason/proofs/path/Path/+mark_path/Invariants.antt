-- `Path::mark_path`: the measure is the node's distance, since every edge costs something.
use Rattle.reason.proofs.path.Path.+mark_path.Given as goal

abbrev pub decreases-mark_path : goal.decreases-mark_path
decreases-mark_path l = l.count
