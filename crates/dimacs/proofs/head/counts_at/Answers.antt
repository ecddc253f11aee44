-- `head::counts_at` reads the two numbers, and then the line has to end.
use mathlib.Core.Path.{◌∙◌}
use lib.ListN.{length}
use Rattle.std.proofs.lemmas.Result.{err_from_is_err_and}
use Rattle.dimacs.specs.Reading.{behind, count, variables}
use Rattle.dimacs.proofs.head.counts_at.Goals as goal

pub returns-in_err-variables : goal.returns-in_err-variables
unfolding variables
returns-in_err-variables c =
    let p = err_from_is_err_and c.from_residual.result c.from_residual.ensures.1 in
    rw (p.1, p.2) (c.in_err-variables.ensures _)

pub returns-in_err-count : goal.returns-in_err-count
unfolding variables count
returns-in_err-count c =
    let p = err_from_is_err_and c.from_residual-in_err-count.result c.from_residual-in_err-count.ensures.1 in
    rw (p.1, p.2) (c.in_ok-variables.ensures.1 _ ∙ c.in_err-count.ensures _)

pub returns : goal.returns
unfolding variables count
returns c =
    rw (
      c.in_ok-variables.ensures.1 (λ n rest. count (length c.args.text.now) c.args.at n rest),
      c.in_ok-count.ensures.1 (λ n rest. behind (length c.args.text.now) c.args.at c.in_ok-variables.variables n rest),
    )
    c.ended.ensures
