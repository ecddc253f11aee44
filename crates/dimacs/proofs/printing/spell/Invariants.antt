-- The digits from the place on stand: who writes those before it writes the whole number.
use Rattle.dimacs.proofs.Spelling.{Spells}
use Rattle.dimacs.proofs.printing.spell.Given as goal

abbrev pub invariant-loop-place : goal.invariant-loop-place
invariant-loop-place l = Spells l.number l.at l.digits l.initial.out l.out l.rest l.place
