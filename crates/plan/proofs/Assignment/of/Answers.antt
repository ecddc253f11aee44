-- `plan::Assignment::of`: the copied part stands at the front.
use mathlib.Core.Path.{◌≡◌, ap, ◌∙◌}
use native.Mathlib.Omega.{arith}
use lib.IntN.{pos}
use lib.ListN.{length, get_or, get_or-append}
use Rattle.plan.proofs.Assignment.of.Goals as goal

pub returns : goal.returns
returns c =
    λ i h.
    let e : c.copy_from_slice.new.self ≡ c.args.values.now = c.copy_from_slice.ensures.after in
    get_or-append c.copy_from_slice.new.self _ (pos 0) i (omega (arith, ap length e)) ∙ ap (λ l. get_or l i (pos 0)) e
