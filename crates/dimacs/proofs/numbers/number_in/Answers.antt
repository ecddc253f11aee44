-- `dimacs::numbers::number_in`: a minus sign or none decides on the sign, and the digits behind it, or all bytes, make the number, which fits 32 bits.
use mathlib.Core.Path.{sym, ◌∙◌, ap}
use mathlib.Core.Bool.{true, false}
use mathlib.Core.Option.{some}
use native.Mathlib.Omega.{arith}
use mir.Syntax.{w32}
use mir.Facts.{to_z_pos}
use Rattle.dimacs.specs.Numbers.{magnitude, with_sign}
use Rattle.dimacs.proofs.Values.{at_most, below_zero, no_sign, less_fits, less_is}
use Rattle.dimacs.proofs.numbers.number_in.Goals as goal

pub returns-in_err-magnitude-in-Some : goal.returns-in_err-magnitude-in-Some
returns-in_err-magnitude-in-Some c =
    let p = c.in-Some.ensures.cases in
    rw c.from_residual.ensures (below_zero c.args.word.now p.0 ∙ ap (λ d. with_sign true (magnitude 2147483648 d)) (sym p.1) ∙ ap (with_sign true) c.in_err-magnitude-in-Some.ensures)

pub returns-in_err-magnitude-in-None : goal.returns-in_err-magnitude-in-None
returns-in_err-magnitude-in-None c = rw c.from_residual-in_err-magnitude-in-None.ensures (no_sign c.args.word.now c.in-None.ensures.cases ∙ ap (with_sign false) c.in_err-magnitude-in-None.ensures)

pub overflow_cast-result : goal.overflow_cast-result
overflow_cast-result c = less_fits c.from.ensures (at_most _ _ c.in_ok-magnitude-in-Some.ensures)

pub overflow_cast-result-in-None : goal.overflow_cast-result-in-None
overflow_cast-result-in-None c = record { sfits = omega (arith, at_most _ _ c.in_ok-magnitude-in-None.ensures) }

pub returns-in_ok-magnitude-in-Some : goal.returns-in_ok-magnitude-in-Some
returns-in_ok-magnitude-in-Some c =
    let p = c.in-Some.ensures.cases in
    below_zero c.args.word.now p.0
    ∙ ap (λ d. with_sign true (magnitude 2147483648 d)) (sym p.1)
    ∙ ap (with_sign true) c.in_ok-magnitude-in-Some.ensures
    ∙ ap some (sym (less_is c.from.ensures (at_most _ _ c.in_ok-magnitude-in-Some.ensures)))

pub returns-in_ok-magnitude-in-None : goal.returns-in_ok-magnitude-in-None
returns-in_ok-magnitude-in-None c =
    no_sign c.args.word.now c.in-None.ensures.cases
    ∙ ap (with_sign false) c.in_ok-magnitude-in-None.ensures
    ∙ ap some (sym (to_z_pos w32 (omega (arith, at_most _ _ c.in_ok-magnitude-in-None.ensures))))
