-- What the call gave fits in the buffer, and its file ends in an end record.
use Rattle.std.proofs.Common.{arith, sym, length-take-le}
use Rattle.planner.proofs.Texts.{joinable}
use Rattle.linkrules.proofs.report.Goals as goal

pub overflow_mul-records : goal.overflow_mul-records
overflow_mul-records g c = omega (arith, (joinable _ _ _ _ _ c.in-Ok.ensures).1)

pub overflow_mul-records-in-Ok : goal.overflow_mul-records-in-Ok
overflow_mul-records-in-Ok g c = omega (arith, (joinable _ _ _ _ _ c.in-Ok.ensures).1)

pub overflow_add-records : goal.overflow_add-records
overflow_add-records g c = omega (arith, (joinable _ _ _ _ _ c.in-Ok.ensures).1)

pub slice_bounds-records-end : goal.slice_bounds-records-end
slice_bounds-records-end g c = omega (arith, c.read_dimacs.auto.out, (joinable _ _ _ _ _ c.in-Ok.ensures).1)

pub slice_bounds-joined-end : goal.slice_bounds-joined-end
slice_bounds-joined-end g c = sym (length-take-le _ _ (omega (arith, c.read_dimacs.auto.out, (joinable _ _ _ _ _ c.in-Ok.ensures).1)))

pub joined-requires : goal.joined-requires
joined-requires g c = (joinable _ _ _ _ _ c.in-Ok.ensures).0
