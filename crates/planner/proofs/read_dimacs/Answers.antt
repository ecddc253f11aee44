-- `read_dimacs`: the rules are read beside the plan, and where nothing is refused and there is room their records are written.
use mathlib.Core.Path.{refl, sym, ◌∙◌}
use Prim.Native.Nat.{◌+◌}
use native.Mathlib.Omega.{arith}
use lib.ListN.{length-take}
use lib.Seq.{length-take-le}
use Rattle.planner.proofs.Ruling.{rules_refused, rules_met, few, records_room, rules_table, rules_written}
use Rattle.planner.proofs.Stating.{meets, stops_keeping, accepts, refuses}
use Rattle.planner.proofs.read_dimacs.Goals as goal

pub returns-in_err-tables : goal.returns-in_err-tables
returns-in_err-tables c = stops_keeping _ c.from_residual.ensures.1 refl (refuses _ _ _ c.in_err-tables.ensures)

pub returns-in_err-rules : goal.returns-in_err-rules
returns-in_err-rules c =
    stops_keeping _ c.from_residual-in_err-rules.ensures.1 refl
    (accepts _ _ _ c.in_ok-tables.ensures ∙ rules_refused c.in_ok-tables.tables _ _ _ _ c.in_err-rules.ensures)

pub returns-in_err-require_room : goal.returns-in_err-require_room
returns-in_err-require_room c =
    stops_keeping _ c.from_residual-in_err-require_room.ensures.1 refl
    (accepts _ _ _ c.in_ok-tables.ensures ∙ rules_met c.in_ok-tables.tables _ _ _ c.in_ok-rules.ensures _ ∙ c.in_err-require_room.ensures.passes _)

pub overflow_mul-rules : goal.overflow_mul-rules
overflow_mul-rules c = omega (arith, few c.in_ok-tables.tables _ _ _ c.in_ok-rules.ensures)

pub overflow_mul-rules-2 : goal.overflow_mul-rules-2
overflow_mul-rules-2 c = omega (arith, few c.in_ok-tables.tables _ _ _ c.in_ok-rules.ensures)

pub overflow_add-rules : goal.overflow_add-rules
overflow_add-rules c = omega (arith, few c.in_ok-tables.tables _ _ _ c.in_ok-rules.ensures)

pub slice_bounds-table-end : goal.slice_bounds-table-end
slice_bounds-table-end c = omega (arith, few c.in_ok-tables.tables _ _ _ c.in_ok-rules.ensures)

pub slice_bounds-put_records-end : goal.slice_bounds-put_records-end
slice_bounds-put_records-end c = sym (length-take-le _ _ (omega (arith, few c.in_ok-tables.tables _ _ _ c.in_ok-rules.ensures)))

pub put_records-requires : goal.put_records-requires
put_records-requires c =
    let room = c.in_ok-require_room.ensures.holds in
    record {
      room = records_room c.in_ok-tables.tables _ _ _ c.in_ok-rules.ensures _ room;
      table = rules_table c.in_ok-tables.tables _ _ _ c.in_ok-rules.ensures _ room;
      clauses_len_bound = omega (arith, few c.in_ok-tables.tables _ _ _ c.in_ok-rules.ensures, length-take (c.in_ok-rules.rules.literals + c.in_ok-rules.rules.clauses) c.read_rules.new.table);
    }

pub returns : goal.returns
returns c =
    meets (accepts _ _ _ c.in_ok-tables.ensures ∙ rules_met c.in_ok-tables.tables _ _ _ c.in_ok-rules.ensures _ ∙ c.in_ok-require_room.ensures.passes _)
    (rules_written c.in_ok-tables.tables _ _ _ c.in_ok-rules.ensures _ c.in_ok-require_room.ensures.holds c.put_records.ensures)
