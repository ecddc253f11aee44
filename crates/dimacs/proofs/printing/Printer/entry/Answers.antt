-- The sign where there is one, the digits, and what stands behind.
use mathlib.Core.Path.{◌≡◌, sym, ap, ◌∙◌}
use native.Mathlib.Omega.{arith}
use lib.IntN.{nat_abs}
use mir.Syntax.{w32}
use mir.Facts.{to_z-of_z}
use Rattle.plan.proofs.Signs.{bits_eq, bits_ne}
use Rattle.dimacs.specs.Printers.{Lays}
use Rattle.dimacs.specs.Printing.{numeral, divider}
use Rattle.dimacs.proofs.Digits.{sign, sign_below, sign_none, divider_zero, divider_other, entry_parts, digits_most}
use Rattle.dimacs.proofs.Printers.{lays_as, lays_none, lays_then}
use Rattle.dimacs.proofs.printing.Printer.entry.Goals as goal
use Rattle.dimacs.proofs.printing.Printer.entry.Goals.{then-value-lt0, else-value-lt0, then-value-eq0, else-value-eq0}

pub byte-requires-2 : goal.byte-requires-2
byte-requires-2 c =
    let n = digits_most 10 c.unsigned_abs.result in
    elim c.if-value-lt0.branch [
      | then-value-lt0 w ↦ omega (arith, w.byte.ensures.laid.count, c.number.ensures.laid.count, ap (λ p. p.at) w.self-is)
      | else-value-lt0 w ↦ omega (arith, c.number.ensures.laid.count, ap (λ p. p.at) w.self-is)
    ]

pub returns : goal.returns
returns c =
    let v = c.args.value in
    let f = c.ranges.value in
    let signed : Lays (sign v) c.args.self.now c.if-value-lt0.self =
    elim c.if-value-lt0.branch [
      | then-value-lt0 w ↦ rw w.self-is (lays_as (sym (sign_below v (rw (to_z-of_z f) at w.if-value-lt0.true))) w.byte.ensures)
      | else-value-lt0 w ↦ rw w.self-is (lays_as (sym (sign_none v (rw (to_z-of_z f) at w.if-value-lt0.false))) (lays_none c.args.self.now))
    ]
    in
    let behind : divider v ≡ c.if-value-eq0.divider =
    elim c.if-value-eq0.branch [
      | then-value-eq0 w ↦ divider_zero v (bits_eq w32 v 0 f w.if-value-eq0.true) ∙ sym w.divider-is
      | else-value-eq0 w ↦ divider_other v (bits_ne w32 v 0 (record { fits = omega arith }) w.if-value-eq0.false) ∙ sym w.divider-is
    ]
    in
    let size = c.unsigned_abs.ensures.value ∙ ap nat_abs (to_z-of_z f) in
    lays_as (entry_parts v behind) (lays_then (lays_then signed (lays_as (ap numeral size) c.number.ensures)) c.byte-2.ensures)
