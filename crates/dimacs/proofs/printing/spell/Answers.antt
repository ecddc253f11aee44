-- From the last digit to the first: who writes the digits that are left writes the whole number.
use native.Mathlib.Omega.{arith}
use Rattle.dimacs.proofs.Spelling.{spells_start, spells_next, spells_all}
use Rattle.dimacs.proofs.printing.spell.Goals as goal

pub loop-place-init : goal.loop-place-init
loop-place-init c = spells_start c.args.number c.args.at c.args.digits c.args.out.now c.requires.digits_value

pub loop-place-preserved : goal.loop-place-preserved
loop-place-preserved c = spells_next (omega (arith, c.requires.room.fits)) c.loop-place.invariant c.loop-place-test.true

pub returns : goal.returns
returns c = spells_all (omega (arith, c.requires.room.fits)) c.loop-place.invariant c.loop-place-test.false
