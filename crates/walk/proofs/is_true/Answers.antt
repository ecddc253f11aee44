-- `walk::is_true`: the target is reached and its distance is allowed exactly if the atom is true.
use Rattle.plan.specs.Tables.{atom_of}
use Rattle.walk.proofs.Truths.{so, not_so, true_none, true_allowed}
use Rattle.walk.proofs.is_true.Goals as goal

pub returns-then-not-is_reached : goal.returns-then-not-is_reached
returns-then-not-is_reached c =
    λ es g x. (
      (λ z. absurd z),
      true_none (atom_of c.args.atom) x (λ t. not_so c.is_reached.ensures c.if-not-is_reached.true (rw c.from-to.ensures t)),
    )

pub returns : goal.returns
returns c =
    λ es g x.
    let t = true_allowed (atom_of c.args.atom) x (rw c.from-to.ensures at (so c.is_reached.ensures c.if-not-is_reached.false)) in
    let r = rw (c.distance.ensures, c.from-to.ensures) at c.allows.ensures in
    ((λ y. t.0 (r.0 y)), (λ y. r.1 (t.1 y)))
