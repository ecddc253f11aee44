-- `words::skip` passes the dividers one by one; behind an LF the line has no word yet.
use mathlib.Core.Path.{refl, sym, ◌∙◌}
use Rattle.dimacs.proofs.Spans.{divided}
use Rattle.dimacs.proofs.words.skip.Goals as goal

pub loop-at-init : goal.loop-at-init
loop-at-init c = refl

pub loop-at-preserved : goal.loop-at-preserved
loop-at-preserved c = c.loop-at.invariant ∙ divided _ _ c.loop-at-test.true _ _ (sym c.is_divider.ensures ∙ c.if-not-is_divider.false) refl
