-- `words::line_end`: the bytes before the line's end are the rest of the comment.
use mathlib.Core.Path.{◌≡◌}
use Rattle.std.proofs.Common.{arith}
use Rattle.std.proofs.lemmas.Grind.{common_steps}
use Rattle.dimacs.proofs.Spans.{in_comment, comment_rest}
use Rattle.dimacs.proofs.words.line_end.Goals as goal

pub overflow_add-result : goal.overflow_add-result
overflow_add-result c =
    let e : c.before_line_end.result ≡ in_comment c.args.text.now c.args.from = grind (arith, common_steps) in
    omega (arith, (comment_rest c.args.text.now c.args.from c.requires).within)

pub returns : goal.returns
returns c =
    let e : c.before_line_end.result ≡ in_comment c.args.text.now c.args.from = grind (arith, common_steps) in
    rw e (comment_rest c.args.text.now c.args.from c.requires)
