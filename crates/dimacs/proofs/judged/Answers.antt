-- `dimacs::judged`: what a good text comes to as rules for a plan.
use Prim.Native.Nat.{◌≤◌}
use native.Mathlib.Omega.{arith}
use Rattle.dimacs.proofs.Verdicts.{read_is, within_limit}
use Rattle.dimacs.proofs.judged.Goals as goal

pub returns : goal.returns
returns c =
    let a = c.args in
    λ rs before after h room.
    let l : a.head.variables ≤ a.plan.variables = omega (arith, c.from.ensures) in
    rw (within_limit h a.plan.variables a.head.at a.head.variables a.head.count c.if-tally-head.false l c.in_default.is) (read_is h c.in_default.is (room l))
