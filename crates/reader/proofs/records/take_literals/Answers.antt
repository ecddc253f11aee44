-- `take_literals` tests each literal and lays it: those passed are in range and stand in the table.
use Rattle.reader.proofs.Kit.{◌≡◌, refl, sym, ap, ◌∙◌, ℕ, ◌+◌, ◌*◌, arith}
use Rattle.plan.proofs.Laying.{laid_none, laid_then}
use Rattle.reader.specs.Format.{word, literal_ok, literals_ok, literals_in}
use Rattle.reader.proofs.Bits.{cast_is}
use Rattle.reader.proofs.Rows.{literals_more, literals_ok_more, literals_ok_stop}
use Rattle.reader.proofs.records.take_literals.Goals as goal

pub returns-then-not-literal_ok : goal.returns-then-not-literal_ok
returns-then-not-literal_ok c =
    let a = c.args.source in
    let k : ℕ = a.at + (3 + 2 * c.loop-i.i) in
    let stored = cast_is {x = word a.file.now k} c.word.type_inv c.cast_signed-literal.ensures c.word.ensures in
    let tested = sym (c.literal_ok.ensures ∙ ap (literal_ok a.counts.variables) stored) ∙ c.if-not-literal_ok.true in
    (refl, literals_ok_stop a.counts.variables a.file.now (a.at + 3) c.loop-i.i c.args.count k (omega arith) (omega arith) tested)

pub loop-i-init : goal.loop-i-init
unfolding literals_in literals_ok
loop-i-init c = let none : c.args.to + 0 ≡ c.args.to = omega arith in record { ok = refl; laid = rw none (laid_none c.args.to c.args.table.now) }

pub loop-i-preserved : goal.loop-i-preserved
loop-i-preserved c =
    let a = c.args.source in
    let k : ℕ = a.at + (3 + 2 * c.loop-i.i) in
    let stored = cast_is {x = word a.file.now k} c.word.type_inv c.cast_signed-literal.ensures c.word.ensures in
    let tested = sym (c.literal_ok.ensures ∙ ap (literal_ok a.counts.variables) stored) ∙ c.if-not-literal_ok.false in
    let front : ℕ = c.args.to + c.loop-i.i + 1 in
    let end : c.args.to + (c.loop-i.i + 1) ≡ front = omega arith in
    record {
      ok = literals_ok_more a.counts.variables a.file.now (a.at + 3) c.loop-i.i k (omega arith) c.loop-i.invariant.ok tested;
      laid = rw (literals_more a.file.now (a.at + 3) c.loop-i.i k (omega arith), end, ← stored) (laid_then c.loop-i.invariant.laid c.lay.ensures);
    }

pub returns : goal.returns
returns c =
    let all : c.loop-i.i ≡ c.args.count = omega arith in
    (rw all at c.loop-i.invariant.ok, laid_then (rw all at c.loop-i.invariant.laid) c.lay-2.ensures)
