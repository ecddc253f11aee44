-- No part is longer than the buffer.
use Rattle.std.proofs.Common.{◌≡◌, ℕ, ◌≤◌, List, arith, length, sym, length-take-le}
use Rattle.plan.specs.File.{file_of}
use Rattle.plan.specs.Front.{Laid}
use Rattle.plan.specs.declared.tables.Tables.{Tables}
use Rattle.plan.proofs.ByPlace.{atoms_length}
use Rattle.listing.specs.Text.{part}
use Rattle.listing.proofs.Sizes.{part_length}
use Rattle.linkdimacs.proofs.printed.Goals as goal

fits : (t : Tables) (k end : ℕ) (before after : List ℕ) → k ≤ t.plan.atoms → length before ≡ 2251136 → Laid (part (file_of t) k) 0 before after end → end ≤ length after
fits t k end before after within room laid =
    omega (arith, room, laid.same, laid.count, part_length (file_of t) t.lent.ranged k (omega (arith, atoms_length t.atoms.now, t.lent.atoms, within)))

pub print_part-end-requires-clause-k_in_bounds : goal.print_part-end-requires-clause-k_in_bounds
print_part-end-requires-clause-k_in_bounds g c = let t = c.args.tables.now in omega (arith, atoms_length t.atoms.now, t.lent.atoms, c.loop-k-test.true)

pub slice_bounds-out-end : goal.slice_bounds-out-end
slice_bounds-out-end g c = fits c.args.tables.now _ _ _ _ c.loop-k-test.true c.loop-k-test.array_long c.print_part-end.ensures

pub slice_bounds-write_all-end : goal.slice_bounds-write_all-end
slice_bounds-write_all-end g c = sym (length-take-le _ _ (fits c.args.tables.now _ _ _ _ c.loop-k-test.true c.loop-k-test.array_long c.print_part-end.ensures))
