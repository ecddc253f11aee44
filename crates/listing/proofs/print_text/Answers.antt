-- The parts, one behind the other.
use mathlib.Core.Path.{◌≡◌, ap, ◌∙◌}
use Prim.Native.Nat.{suc, ◌≤◌}
use native.Mathlib.Numerals.{add-one}
use native.Mathlib.Omega.{arith}
use borrow.Author.Rules.{rules}
use lib.ListN.{length}
use Rattle.plan.specs.File.{file_of}
use Rattle.plan.specs.Written.{each}
use Rattle.plan.proofs.ByPlace.{atoms_length}
use Rattle.dimacs.proofs.Printers.{lays_as, lays_none, lays_then, lays_ends}
use Rattle.listing.specs.Text.{part}
use Rattle.listing.proofs.Parts.{parts_whole}
use Rattle.listing.proofs.Sizes.{part_soon}
use Rattle.listing.proofs.print_text.Goals as goal
use Rattle.listing.proofs.print_text.Goals.{else-loop-k-test, then-loop-k-test+else-k-k-end}

pub loop-k-init : goal.loop-k-init
unfolding each
loop-k-init c = lays_none _

pub print_kth-requires : goal.print_kth-requires
print_kth-requires c =
    let t = c.args.tables.now in
    let l : c.loop-k.k ≤ length (file_of t).atoms = omega (arith, atoms_length t.atoms.now) in
    record {
      k_in_bounds = l;
      soon = omega (arith, c.loop-k.invariant.laid.count, part_soon (file_of t) t.lent.ranged c.loop-k.k l);
    }

pub loop-k-preserved : goal.loop-k-preserved
unfolding each
loop-k-preserved c = rw (add-one c.loop-k.k) (lays_then {rows = part (file_of c.args.tables.now) c.loop-k.k} c.loop-k.invariant c.print_kth.ensures)

-- the last part is printed
pub returns : goal.returns
unfolding each
returns c =
    let φ = file_of c.args.tables.now in
    elim c.loop-k-test.branch [
      | else-loop-k-test w ↦ absurd (omega (arith, c.loop-k.auto.k-end, w.loop-k-test.false))
      | then-loop-k-test+else-k-k-end w ↦
          let e : c.loop-k.k ≡ length φ.atoms = omega (arith, c.loop-k.auto.k-end, atoms_length c.args.tables.now.atoms.now) in
          let all = lays_as (ap (λ k. each (suc k) (part φ)) e ∙ parts_whole φ) (lays_then {rows = part φ c.loop-k.k} c.loop-k.invariant w.print_kth.ensures) in
          lays_ends (rw (← w.printer-is) at all) (search rules)
    ]
