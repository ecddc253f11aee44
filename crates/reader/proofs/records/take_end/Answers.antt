-- `take_end` leads where the definition does.
use Rattle.reader.proofs.Kit.{sym, ◌∙◌, arith}
use Rattle.reader.proofs.Steps.{end_long, end_behind, end_here}
use Rattle.reader.proofs.records.take_end.Goals as goal

pub returns-then-len-ne0 : goal.returns-then-len-ne0
returns-then-len-ne0 c = λ b p t. end_long _ _ t (λ e. c.if-len-ne0.true (c.len.ensures ∙ e))

pub returns-then-source-end : goal.returns-then-source-end
returns-then-source-end c = λ b p t. end_behind _ _ t (sym c.len.ensures ∙ c.if-len-ne0.false) (omega arith) c.if-source-end.true

pub returns : goal.returns
returns c = λ b p t. end_here _ _ t (sym c.len.ensures ∙ c.if-len-ne0.false) {e = c.end-end.result} (omega arith) c.if-source-end.false
