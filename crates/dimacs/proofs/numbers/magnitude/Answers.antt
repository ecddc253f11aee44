-- `dimacs::numbers::magnitude`: each byte is a digit, and the value is not too much, or there is no number.
use mathlib.Core.Path.{sym, ◌∙◌}
use native.Mathlib.Omega.{arith}
use borrow.Author.Tests.{eqb-true, eqb-false}
use Rattle.dimacs.proofs.Values.{ascii_digit, no_digits, some_digits, next_digit, no_digit, too_much, all_read}
use Rattle.dimacs.proofs.numbers.magnitude.Goals as goal

pub returns-then-is_empty : goal.returns-then-is_empty
returns-then-is_empty c = no_digits _ _ (eqb-true _ 0 (sym c.is_empty.ensures ∙ c.if-is_empty.true))

pub loop-byte-init : goal.loop-byte-init
loop-byte-init c = (omega arith, some_digits _ _ (eqb-false _ 0 (sym c.is_empty.ensures ∙ c.if-is_empty.false)))

pub returns-then-not-is_ascii_digit : goal.returns-then-not-is_ascii_digit
returns-then-not-is_ascii_digit c =
    c.loop-byte.invariant.1
    ∙ no_digit _ _ _ _ c.loop-byte-test.true (sym (c.is_ascii_digit.ensures.value ∙ ascii_digit _) ∙ c.if-not-is_ascii_digit.true)

pub returns-then-value-from : goal.returns-then-value-from
returns-then-value-from c =
    c.loop-byte.invariant.1
    ∙ next_digit _ _ _ _ c.loop-byte-test.true (sym (c.is_ascii_digit.ensures.value ∙ ascii_digit _) ∙ c.if-not-is_ascii_digit.false)
    ∙ too_much _ _ _ (omega (arith, c.if-value-from.true, c.from.ensures, c.from-in-loop-byte.ensures))

pub loop-byte-preserved : goal.loop-byte-preserved
loop-byte-preserved c = (
  omega (arith, c.if-value-from.false, c.from-in-loop-byte.ensures),
  rw c.from.ensures (
      c.loop-byte.invariant.1
      ∙ next_digit _ _ _ _ c.loop-byte-test.true (sym (c.is_ascii_digit.ensures.value ∙ ascii_digit _) ∙ c.if-not-is_ascii_digit.false)),
)

pub returns : goal.returns
returns c = c.loop-byte.invariant.1 ∙ all_read _ _ c.args.digits.now c.loop-byte.byte-index (omega arith) c.loop-byte.invariant.0
