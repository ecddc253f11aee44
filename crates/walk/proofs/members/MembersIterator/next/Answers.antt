-- `Members::next`: the lowest member and the set without it. It stands here, and is not left to the search, so that a wrong step is refused by the types.
use mathlib.Core.Path.{refl}
use Prim.Native.Nat.{◌^◌, ◌<◌}
use native.Mathlib.Omega.{arith}
use Rattle.walk.proofs.Sets.{taken}
use Rattle.walk.proofs.members.MembersIterator.next.Goals as goal

pub returns-clause-steps : goal.returns-clause-steps
returns-clause-steps c =
    let f : c.args.self.now.0 < 2 ^ 64 = omega arith in
    record { fits = f; some = c.if-self-eq0.false; inside = (taken _ f c.if-self-eq0.false).inside; first = refl; others = refl }
