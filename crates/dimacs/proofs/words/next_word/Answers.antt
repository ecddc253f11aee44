-- `words::next_word` passes dividers and comments in turn, up to a byte that opens a word.
use mathlib.Core.Path.{◌≡◌, sym, ◌∙◌}
use lib.ListN.{get_or}
use Rattle.dimacs.specs.Words.{opens}
use Rattle.dimacs.proofs.Spans.{nothing_left, comment_passed, word_ahead}
use Rattle.dimacs.proofs.words.next_word.Goals as goal
use Rattle.dimacs.proofs.words.next_word.Goals.{then-leads, else-leads}

pub returns-then-not-text-start : goal.returns-then-not-text-start
returns-then-not-text-start c =
    let gap = c.loop-gap.gap in
    let test_is : c.if-leads.value ≡ opens gap.leads (get_or c.args.text.now gap.at 0) =
    elim c.if-leads.branch [ then-leads w ↦ rw w.if-leads.true w.value-is | else-leads w ↦ rw w.if-leads.false (w.value-is ∙ w.if-leads.false) ] in
    word_ahead c.loop-gap.invariant c.loop-gap-test.true (sym test_is ∙ c.if-not-text-start.true) c.word_end-end.ensures

pub loop-gap-preserved : goal.loop-gap-preserved
loop-gap-preserved c =
    let gap = c.loop-gap.gap in
    let test_is : c.if-leads.value ≡ opens gap.leads (get_or c.args.text.now gap.at 0) =
    elim c.if-leads.branch [ then-leads w ↦ rw w.if-leads.true w.value-is | else-leads w ↦ rw w.if-leads.false (w.value-is ∙ w.if-leads.false) ] in
    comment_passed c.loop-gap.invariant c.loop-gap-test.true (sym test_is ∙ c.if-not-text-start.false) c.line_end-end.ensures c.skip-gap-in-loop-gap.ensures

pub returns : goal.returns
returns c = c.loop-gap.invariant.same ∙ nothing_left _ _ c.loop-gap-test.false _
