-- `words::is_divider` tests for the four dividers, one after the other.
use Rattle.std.proofs.Common.{arith}
use Rattle.std.proofs.lemmas.Grind.{common_steps}
use Rattle.dimacs.specs.Words.{divides}
use Rattle.dimacs.proofs.words.is_divider.Goals as goal

pub returns-then-byte-eq13 : goal.returns-then-byte-eq13
unfolding divides
returns-then-byte-eq13 c = grind (arith, common_steps)

pub returns-else-byte-eq13 : goal.returns-else-byte-eq13
unfolding divides
returns-else-byte-eq13 c = grind (arith, common_steps)
