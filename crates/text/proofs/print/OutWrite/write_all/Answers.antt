-- What a write takes is held behind what the writes before it took.
use Rattle.std.proofs.Common.{rules}
use Rattle.std.proofs.lemmas.List.{take_rest}
use Rattle.std.proofs.KnownBytes.{Appends-trans}
use lib.Seq.{take-add}
use Rattle.text.proofs.print.OutWrite.write_all.Goals as goal

pub loop-done-preserved : goal.loop-done-preserved
loop-done-preserved g c =
    let took = rw take_rest at c.in_ok-done.ensures.ok in
    (search rules, rw (take-add c.loop-done.done c.in_ok-done.field-0 c.args.buf.now) (Appends-trans _ _ _ _ _ c.loop-done.invariant.1 took))
