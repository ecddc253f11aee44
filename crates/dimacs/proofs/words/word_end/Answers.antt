-- `words::word_end`: the bytes before the next divider are the rest of the word.
use mathlib.Core.Path.{◌≡◌}
use Rattle.std.proofs.Common.{arith}
use Rattle.std.proofs.lemmas.Grind.{common_steps}
use Rattle.dimacs.proofs.Spans.{in_word, word_rest}
use Rattle.dimacs.proofs.words.word_end.Goals as goal

pub overflow_add-result : goal.overflow_add-result
overflow_add-result c =
    let e : c.before_divider.result ≡ in_word c.args.text.now c.args.from = grind (arith, common_steps) in
    omega (arith, (word_rest c.args.text.now c.args.from c.requires).within)

pub returns : goal.returns
returns c =
    let e : c.before_divider.result ≡ in_word c.args.text.now c.args.from = grind (arith, common_steps) in
    rw e (word_rest c.args.text.now c.args.from c.requires)
