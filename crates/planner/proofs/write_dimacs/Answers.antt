-- `write_dimacs`: every atom has a block, and there is room, exactly if the checks hold.
use mathlib.Core.Path.{refl, sym, ap, ◌∙◌}
use native.Mathlib.Omega.{arith}
use lib.ListN.{length}
use Rattle.plan.specs.File.{file_of}
use Rattle.listing.specs.Text.{text}
use Rattle.planner.specs.Refusing.{refusal}
use Rattle.planner.proofs.Stating.{meets, stops_keeping, accepts, refuses, room_fails, room_holds}
use Rattle.planner.proofs.write_dimacs.Goals as goal

pub returns-in_err-tables : goal.returns-in_err-tables
returns-in_err-tables c = stops_keeping _ c.from_residual.ensures.1 refl (refuses _ _ _ c.in_err-tables.ensures)

pub returns-in_err-require_blocks : goal.returns-in_err-require_blocks
returns-in_err-require_blocks c = stops_keeping _ c.from_residual-in_err-require_blocks.ensures.1 refl (accepts _ _ _ c.in_ok-tables.ensures ∙ c.in_err-require_blocks.ensures _)

pub returns-in_err-write_text : goal.returns-in_err-write_text
returns-in_err-write_text c =
    let w = c.in_err-write_text.ensures in
    let n = length (text (file_of c.in_ok-tables.tables)) in
    stops_keeping _ c.from_residual-in_err-write_text.ensures.1 w.kept
    (accepts _ _ _ c.in_ok-tables.ensures ∙ c.in_ok-require_blocks.ensures _ ∙ room_fails _ n (length c.args.out.now) (omega (arith, w.count, w.room)) ∙ ap (refusal 12) (sym w.count))

pub returns : goal.returns
returns c =
    let w = c.in_ok-write_text.ensures in
    let n = length (text (file_of c.in_ok-tables.tables)) in
    meets (accepts _ _ _ c.in_ok-tables.ensures ∙ c.in_ok-require_blocks.ensures _ ∙ room_holds _ n (length c.args.out.now) w.room)
    (record { count = w.count; wrote = w.is })
