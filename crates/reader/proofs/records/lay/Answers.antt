-- `lay` stores a number where the table has its place.
use mir.Facts.{to_z-of_z}
use mir.Syntax.{w16}
use mir.Val.{SFits}
use Rattle.reader.proofs.Kit.{rules}
use Rattle.plan.proofs.Laying.{laid_one}
use Rattle.reader.proofs.records.lay.Goals as goal

pub returns-then-place-table : goal.returns-then-place-table
returns-then-place-table c =
    let a = c.args in
    let f : SFits w16 a.number = search rules in
    rw (to_z-of_z f) (laid_one _ a.place a.table.now c.if-place-table.true)
