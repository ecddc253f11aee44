-- `closing::give`: the literal's value says which of the three cases it is.
use mathlib.Core.Path.{◌≡◌, refl, ap, ◌∙◌}
use mir.Facts.{to_z-of_z}
use Rattle.plan.specs.Meaning.{add}
use Rattle.plan.specs.Tables.{literal_value}
use Rattle.plan.proofs.Literals.{bits_true, bits_false, true_bits, false_bits}
use Rattle.closing.proofs.give.Goals as goal

-- the literal's value
module _ (c : goal.Then-value-eq1) where
  value_is : c.value_of-value.result ≡ literal_value c.args.values.now c.args.literal
  value_is = c.value_of-value.ensures ∙ ap (literal_value c.args.values.now) (to_z-of_z c.ranges.literal)

pub returns-then-value-eq1 : goal.returns-then-value-eq1
returns-then-value-eq1 c = (refl, bits_true c.args.values.now c.args.literal _ c.requires.assigned c.requires.literal_fits (value_is c) c.if-value-eq1.true)

pub returns-then-value : goal.returns-then-value
returns-then-value c =
    let value_is : c.value_of-value.result ≡ literal_value c.args.values.now c.args.literal = c.value_of-value.ensures ∙ ap (literal_value c.args.values.now) (to_z-of_z c.ranges.literal) in
    (refl, bits_false c.args.values.now c.args.literal _ c.requires.assigned c.requires.literal_fits value_is c.if-value.true)

pub returns : goal.returns
returns c =
    let value_is : c.value_of-value.result ≡ literal_value c.args.values.now c.args.literal = c.value_of-value.ensures ∙ ap (literal_value c.args.values.now) (to_z-of_z c.ranges.literal) in (
      c.put.ensures ∙ ap (add c.args.values.now) (to_z-of_z c.ranges.literal),
      (λ t. c.if-value-eq1.false (true_bits c.args.values.now c.args.literal _ c.requires.assigned c.requires.literal_fits value_is t)),
      (λ t. c.if-value.false (false_bits c.args.values.now c.args.literal _ c.requires.assigned c.requires.literal_fits value_is t)),
    )
