-- `dimacs::clauses::Tally::past_with`: the first clause past the limits stays the first; without one the ended clause is it, unless it fits.
use mathlib.Core.Path.{sym, ap, ◌∙◌}
use mathlib.Core.Option.{some}
use Rattle.dimacs.proofs.Tallies.{past_more}
use Rattle.dimacs.proofs.clauses.Tally.past_with.Goals as goal

pub returns-in-Some : goal.returns-in-Some
returns-in-Some c = λ done r before after h. rw c.in-Some.is at (past_more h c.args.at)

pub returns-in-None : goal.returns-in-None
returns-in-None c = λ done r before after h. rw (c.in-None.is, sym c.fits.ensures ∙ c.if-fits.true) at (past_more h c.args.at)

pub returns-in-None-2 : goal.returns-in-None-2
returns-in-None-2 c =
    λ done r before after h.
    ap some (c.first_word.ensures _ _ done r before after h) ∙ rw (c.in-None-2.is, sym c.fits.ensures ∙ c.if-fits.false) at (past_more h c.args.at)
