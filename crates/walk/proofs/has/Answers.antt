-- `walk::has`: the set shifted by the node ends in the node's bit.
use mathlib.Core.Path.{sym}
use Rattle.walk.proofs.Sets.{bit_shift}
use Rattle.walk.proofs.has.Goals as goal

pub returns : goal.returns
returns c = sym (bit_shift c.args.node c.args.set)
