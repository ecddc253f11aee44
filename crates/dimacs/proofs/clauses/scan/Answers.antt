-- `dimacs::clauses::scan`: the words behind the `p` line. The invariant: what the text reads as is what the clauses so far and the words that are
-- left lead to, and there are at most as many places in use as bytes were passed. The measure is what is left of the text.
use mathlib.Core.Path.{refl, ◌∙◌}
use native.Mathlib.Omega.{arith}
use Rattle.std.proofs.lemmas.Result.{err_from_is_err_and}
use Rattle.dimacs.proofs.Scans.{begins, ends_bad, ends_good, turns_bad, turns_on}
use Rattle.dimacs.proofs.clauses.scan.Goals as goal

pub loop-word-init : goal.loop-word-init
loop-word-init c =
    let a = c.args in (
      c.requires.end_in_bounds,
      omega arith,
      refl,
      begins a.own.clauses a.own.literals a.text.now a.head.at a.head.variables a.head.count a.table.now a.head.end,
    )

pub returns-then-tally-gt0 : goal.returns-then-tally-gt0
returns-then-tally-gt0 c = ends_bad c.loop-word.invariant.3 c.in_default.ensures c.if-tally-gt0.true

pub returns : goal.returns
returns c = ends_good c.loop-word.invariant.3 c.in_default.ensures c.if-tally-gt0.false

pub returns-in_err-tally : goal.returns-in_err-tally
returns-in_err-tally c =
    let p = err_from_is_err_and c.from_residual.result c.from_residual.ensures.1 in
    rw (p.1, p.2) (turns_bad c.loop-word.invariant.3 c.in-Some.ensures c.number_in-number.ensures _ _ (λ done r h. c.in_err-tally.ensures.turn_is done r _ h))

pub loop-word-preserved : goal.loop-word-preserved
loop-word-preserved c =
    let i = c.loop-word.invariant in
    let ahead = c.in-Some.ensures in (
      ahead.within,
      omega (arith, i.1, c.in_ok-tally.ensures.one_more, ahead.after, ahead.some_bytes),
      c.turn_by.auto.table ∙ i.2,
      turns_on i.3 ahead c.number_in-number.ensures _ _ (λ done r h. c.in_ok-tally.ensures.turn_is done r _ h),
    )
