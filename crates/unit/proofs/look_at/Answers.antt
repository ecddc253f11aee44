-- What a clause says, by the first number at which the look stops and the next one behind it.
use Rattle.std.proofs.Common.{rules}
use Rattle.unit.proofs.Scan.{tested_zero, tested_true, tested_second, tested_end}
use Rattle.unit.proofs.look_at.Goals as goal

pub returns-then-literal-eq0 : goal.returns-then-literal-eq0
returns-then-literal-eq0 c = tested_zero c.requires.ready c.stop_of-first.ensures (search rules) c.if-literal-eq0.true (record {})

pub returns-then-value_of-eq1 : goal.returns-then-value_of-eq1
returns-then-value_of-eq1 c = tested_true c.requires.ready c.stop_of-first.ensures (search rules) c.if-literal-eq0.false c.value_of.ensures c.if-value_of-eq1.true

pub returns-then-clauses-second-ne0 : goal.returns-then-clauses-second-ne0
returns-then-clauses-second-ne0 c =
    tested_second c.requires.ready c.stop_of-first.ensures (search rules) c.if-literal-eq0.false c.value_of.ensures c.stop_of-second.ensures c.if-clauses-second-ne0.true

pub returns : goal.returns
returns c =
    tested_end c.requires.ready c.stop_of-first.ensures (search rules) c.if-literal-eq0.false c.value_of.ensures c.stop_of-second.ensures (search rules) c.if-clauses-second-ne0.false c.if-value_of-eq1.false
