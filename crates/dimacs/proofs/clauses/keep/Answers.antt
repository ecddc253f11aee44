-- `dimacs::clauses::keep`: a number is laid at its place.
use native.Mathlib.Omega.{arith}
use lib.IntN.{pos, negsuc, nat_abs, ℤ}
use Prim.Native.Nat.{◌≤◌}
use mir.Syntax.{w16}
use mir.Val.{SFits}
use mir.Facts.{to_z-of_z}
use Rattle.plan.proofs.Laying.{laid_one}
use Rattle.dimacs.proofs.clauses.keep.Goals as goal

short : (z : ℤ) → nat_abs z ≤ 512 → SFits w16 z
short (pos n) l = record { sfits = omega arith }
short (negsuc n) l = record { sfits = omega arith }

pub returns-then-place-table : goal.returns-then-place-table
returns-then-place-table c =
    let a = c.args in
    let f = short a.number (c.requires (omega (arith, c.if-place-table.true))) in
    rw (to_z-of_z c.ranges.number, to_z-of_z f) (laid_one a.number a.place a.table.now (omega (arith, c.if-place-table.true)))
