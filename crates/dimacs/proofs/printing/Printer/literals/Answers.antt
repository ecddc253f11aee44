-- The literals one by one.
use mathlib.Core.Path.{ap, ◌∙◌}
use borrow.Author.Rules.{rules}
use lib.IntN.{pos}
use lib.ListN.{get_or}
use mir.Syntax.{w16}
use mir.Val.{SFits, of_z}
use mir.Facts.{to_z-of_z}
use Rattle.dimacs.specs.Records.{literal_bytes}
use Rattle.dimacs.proofs.Complement.{complement_is}
use Rattle.dimacs.proofs.Printers.{lays_none}
use Rattle.dimacs.proofs.Recording.{literal_room, literal_more}
use Rattle.dimacs.proofs.printing.Printer.literals.Goals as goal

pub loop-literal-init : goal.loop-literal-init
unfolding literal_bytes
loop-literal-init c = lays_none _

pub two-requires : goal.two-requires
two-requires c = literal_room c.args.clause.now c.loop-literal-test.true c.loop-literal.invariant _ c.requires

pub loop-literal-preserved : goal.loop-literal-preserved
loop-literal-preserved c =
    let literal = get_or c.args.clause.now c.loop-literal.literal-index (pos 0) in
    let f : SFits w16 literal = search rules in
    literal_more c.args.clause.now c.loop-literal-test.true c.loop-literal.invariant (c.cast_unsigned.ensures ∙ ap (of_z w16) (to_z-of_z f) ∙ complement_is literal) c.two.ensures
