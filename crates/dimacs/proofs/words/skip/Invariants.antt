-- Only dividers were passed, and the line of the place has no word yet if `fresh` says so.
use mathlib.Core.Path.{◌≡◌}
use Rattle.dimacs.specs.Words.{between}
use Rattle.dimacs.specs.Scanning.{left}
use Rattle.dimacs.proofs.words.skip.Given as goal

abbrev pub invariant-loop-at : goal.invariant-loop-at
invariant-loop-at l = left (between l.leads) l.text l.from ≡ left (between l.fresh) l.text l.at
